-- Numbers in counts of 10^-16.
use Rattle.std.proofs.Common.{◌≡◌, ℕ, ◌+◌, ◌-◌, ◌*◌, ◌^◌, ◌<◌, ◌≤◌, ℤ, pos, negsuc, neg_ℤ, zero}
use Rattle.std.proofs.Common.{suc, refl, ◌*ℤ◌, ◌+ℤ◌, FitsSigned, to_z, of_z, ap, sym, ◌∙◌, arith}
use Rattle.std.proofs.lemmas.Int.{unsigned_abs-mul, fits_signed_from_abs, to_z-of_z}
use Rattle.std.proofs.lemmas.Nat.{pow-add}
use Rattle.std.proofs.Math.IntN.{pos-*ℤ-pos, negsuc-*ℤ-pos}
use Rattle.std.proofs.Math.Nat.{mul_assoc, zero-mul}
use Rattle.std.specs.Int.{w128}
use Rattle.std.specs.Int.RustNames.{unsigned_abs}
use Rattle.bean_base.specs.Decimal.{scaled}

neg_times : (m n : ℕ) → neg_ℤ (pos m) *ℤ pos n ≡ neg_ℤ (pos (m * n))
neg_times zero n = rw (zero-mul n) refl
neg_times (suc m) n = negsuc-*ℤ-pos m n

times_twice : (z : ℤ) (m n : ℕ) → (z *ℤ pos m) *ℤ pos n ≡ z *ℤ pos (m * n)
times_twice (pos k) m n =
    ap (λ z. z *ℤ pos n) (pos-*ℤ-pos k m) ∙ pos-*ℤ-pos (k * m) n ∙ ap pos (mul_assoc k m n)
    ∙ sym (pos-*ℤ-pos k (m * n))
times_twice (negsuc k) m n =
    ap (λ z. z *ℤ pos n) (negsuc-*ℤ-pos k m) ∙ neg_times (suc k * m) n
    ∙ ap (λ a. neg_ℤ (pos a)) (mul_assoc (suc k) m n)
    ∙ sym (negsuc-*ℤ-pos k (m * n))

-- twice as many decimals as a ledger number has
pub scaled_16 : (count : ℤ) (places : ℕ) → places ≤ 8
    → scaled count places 8 *ℤ pos 100000000 ≡ scaled count places 16
scaled_16 count places few =
    let sum : 8 - places + 8 ≡ 16 - places = omega arith in
    let power : 10 ^ (8 - places) * 10 ^ 8 ≡ 10 ^ (16 - places) =
    sym (pow-add 10 (8 - places) 8) ∙ ap (λ n. 10 ^ n) sum in
    times_twice count (10 ^ (8 - places)) 100000000 ∙ ap (λ n. count *ℤ pos n) power

pub wide : (z : ℤ) → unsigned_abs z < 10 ^ 20 → unsigned_abs (z *ℤ pos 100000000) < 10 ^ 28
wide z h = let e = unsigned_abs-mul z (pos 100000000) in rw e (omega arith)

pub fits_20 : (z : ℤ) → unsigned_abs z < 10 ^ 20 → FitsSigned w128 z
fits_20 z h = fits_signed_from_abs w128 z (omega arith)

pub fits_28 : (z : ℤ) → unsigned_abs z < 10 ^ 28 → FitsSigned w128 z
fits_28 z h = fits_signed_from_abs w128 z (omega arith)

pub fits_38 : (z : ℤ) → unsigned_abs z < 10 ^ 38 → FitsSigned w128 z
fits_38 z h = fits_signed_from_abs w128 z (omega arith)

-- what the code adds is what the clause does
pub sum_is : (a b : ℤ) → unsigned_abs a < 10 ^ 38 → unsigned_abs b < 10 ^ 28
    → to_z w128 (of_z w128 (to_z w128 (of_z w128 a) +ℤ to_z w128 (of_z w128 b))) ≡ a +ℤ b
sum_is a b p q = let f = fits_38 a p in let g = fits_28 b q in grind (arith, to_z-of_z)
