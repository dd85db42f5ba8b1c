-- How many bytes entries of the pool take.
use Rattle.std.proofs.Common.{◌≡◌, ℕ, ℤ, ◌+◌, ◌*◌, List, [], ◌∷◌, length, refl, arith, length-append}
use Rattle.bean_base.specs.declared.days.Day as days
use Rattle.query_terms.specs.declared.decimal.Decimal as decimals
use Rattle.query_code.specs.ByteForm.{all_written}
use Rattle.query_code.specs.QueryFile.{constant, count, day, decimal, numbers}
use Rattle.query_code.specs.TextForm.{text}
use Rattle.query_code.specs.declared.program.Constant.TheVariants as constants
use Rattle.query_code.specs.declared.program.Numbers as counts

pub text_len : (t : List ℕ) → length (constant.written (constants.Text t)) ≡ 3 + length t
unfolding constant text
text_len t = omega arith

pub pattern_len : (t : List ℕ) → length (constant.written (constants.Pattern t)) ≡ 3 + length t
unfolding constant text
pattern_len t = omega arith

pub number_len : (n : decimals.Decimal) → length (constant.written (constants.Number n)) ≡ 18
unfolding constant decimal count
number_len n = refl

pub day_len : (d : days.Day) → length (constant.written (constants.Day d)) ≡ 5
unfolding constant day
day_len d = refl

one_count : (n : ℤ) → length (count.written n) ≡ 16
unfolding count
one_count n = refl

one_day : (d : days.Day) → length (day.written d) ≡ 4
unfolding day
one_day d = refl

counts_len : (ns : List ℤ) → length (all_written count ns) ≡ 16 * length ns
counts_len [] = refl
counts_len (n ∷ ns) =
    let both = length-append (count.written n) (all_written count ns) in
    let one = one_count n in
    let rest = counts_len ns in
    omega (arith, both, one, rest)

days_in : (ds : List days.Day) → length (all_written day ds) ≡ 4 * length ds
days_in [] = refl
days_in (d ∷ ds) =
    let both = length-append (day.written d) (all_written day ds) in
    let one = one_day d in
    let rest = days_in ds in
    omega (arith, both, one, rest)

pub numbers_len : (ns : counts.Numbers)
    → length (constant.written (constants.Numbers ns)) ≡ 4 + 16 * length ns.counts
unfolding constant numbers
numbers_len ns = let all = counts_len ns.counts in omega (arith, all)

pub days_len : (ds : List days.Day)
    → length (constant.written (constants.Days ds)) ≡ 3 + 4 * length ds
unfolding constant
days_len ds = let all = days_in ds in omega (arith, all)
