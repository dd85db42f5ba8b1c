-- What the file of a program says of its pool.
use Rattle.std.proofs.Common.{◌≡◌, List, [], ◌∷◌, length, true, ltb, refl}
use Rattle.std.specs.List.{list_all}
use Rattle.std.proofs.Math.Bool.{Bool-set}
use Rattle.std.proofs.Math.Logic.{∥∥₁_elim}
use Rattle.std.proofs.lemmas.Bool.{and_from, false≢true}
use Rattle.query_code.specs.ByteForm.{AllFit}
use Rattle.query_code.specs.QueryFile.{code, constant, file, numbers, parts, versioned}
use Rattle.query_code.specs.declared.program.Code.{Code}
use Rattle.query_code.specs.declared.program.Constant.{Constant}
use Rattle.query_code.specs.declared.program.Constant.TheVariants.{Text, Number, Day, Pattern}
use Rattle.query_code.specs.declared.program.Constant.TheVariants.{Texts, Numbers, Days}
use Rattle.query_code.specs.declared.program.Mode.{Mode}
use Rattle.query_code.specs.declared.program.Numbers as counts
use Rattle.query_code.specs.declared.program.Parts.{Parts}
use Rattle.verify_programs.specs.Loading.{has_members, has_some}

has_one : {A : Type 0} (xs : List A) → ltb 0 (length xs) ≡ true → has_some xs ≡ true
has_one [] e = absurd (false≢true e)
has_one (x ∷ xs) e = refl

code_fits : (p : Parts) → file.fits p → (code p.mode).fits p.code
unfolding file versioned parts
code_fits p fits = fits.0.1.0.1.0.1.1.1

pool_fits : (m : Mode) (c : Code) → (code m).fits c → AllFit constant c.pool
unfolding code
pool_fits m c fits = fits.0.1.1.0.0.1.1

numbers_fit : (ns : counts.Numbers) → numbers.fits ns → has_some ns.counts ≡ true
unfolding numbers
numbers_fit ns fits = has_one ns.counts fits.0.1.0.0.1

member : (c : Constant) → constant.fits c → has_members c ≡ true
unfolding constant
member (Text t) fits = refl
member (Number n) fits = refl
member (Day d) fits = refl
member (Pattern t) fits = refl
member (Texts ts) fits = has_one ts fits.0.1.0.0.0.1
member (Numbers ns) fits = numbers_fit ns fits.0.1.0
member (Days ds) fits = has_one ds fits.0.1.0.0.0.1

members : (pool : List Constant) → AllFit constant pool → list_all has_members pool ≡ true
members [] fits = refl
members (c ∷ pool) fits =
    and_from (has_members c) (list_all has_members pool) (member c fits.0) (members pool fits.1)

-- no list of the pool is empty
pub all_have_members : (p : Parts) → ∥ file.fits p ∥₁ → list_all has_members p.code.pool ≡ true
all_have_members p has =
    ∥∥₁_elim has (Bool-set (list_all has_members p.code.pool) true)
    (λ fits. members p.code.pool (pool_fits p.mode p.code (code_fits p fits)))
