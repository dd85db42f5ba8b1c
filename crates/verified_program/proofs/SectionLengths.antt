-- The sections of a program that has a file are no longer than a file can say.
use Rattle.std.proofs.Common.{ℕ, ◌*◌, ◌+◌, ◌<◌, ◌≤◌, ◌^◌, length, arith}
use Rattle.std.proofs.Math.Logic.{∥∥₁_elim}
use Rattle.std.proofs.Math.Nat.{mul-le-mul}
use Rattle.query_code.proofs.FitsFacts.{prop_file}
use Rattle.query_code.specs.QueryFile.{file, versioned, parts, code, section}
use Rattle.query_code.specs.declared.program.Code.{Code}
use Rattle.query_code.specs.declared.program.Parts.{Parts}

pub record AreShort (c : Code) : Type 0 where
  pub filter : length c.filter < 2 ^ 16
  pub row : length c.row < 2 ^ 16
  pub last : length c.last < 2 ^ 16

code_fits : (p : Parts) → file.fits p → (code p.mode).fits p.code
unfolding file versioned parts
code_fits p fits = fits.0.1.0.1.0.1.1.1

short : (p : Parts) → file.fits p → AreShort p.code
unfolding code section
short p fits =
    let f = code_fits p fits in
    record {
      filter = f.0.1.1.1.0.0.0;
      row = f.0.1.1.1.1.0.0.0;
      last = f.0.1.1.1.1.1.0.0.0;
    }

pub are_short : (p : Parts) → ∥ file.fits p ∥₁ → AreShort p.code
are_short p has = short p (∥∥₁_elim has (prop_file p) (λ fits. fits))

-- so many postings, each with the instructions of two sections
pub small : (n k m : ℕ) → n < 2 ^ 32 → k < 2 ^ 16 → m < 2 ^ 16 → n * (k + m) < 2 ^ 50
small n k m few short_k short_m = omega (arith, product)
  where
    product : n * (k + m) ≤ 2 ^ 32 * 2 ^ 17
    product = mul-le-mul {n₁ = n} {m₁ = k + m} {n₂ = 2 ^ 32} {m₂ = 2 ^ 17} (omega arith) (omega arith)
