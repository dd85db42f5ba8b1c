-- How wide the sums of all postings are.
use Rattle.std.proofs.Common.{◌≡◌, ℕ, ◌*◌, ◌-◌, ◌^◌, ◌≤◌, ◌<◌, ◌&&◌, Bool, true, false, arith, refl}
use Rattle.std.specs.Prelude.{nat_lt}
use Rattle.std.proofs.lemmas.Bool.{lt-ltb}
use Rattle.std.proofs.Math.Nat.{mul-le-mul_left, mul-le-mul_right}
use Rattle.bean_base.proofs.PowerFacts.{pow_le}
use Rattle.limits.specs.Version.{most_postings}
use Rattle.limits.specs.declared.bounds.Bounds.{Bounds}
use Rattle.limits.specs.declared.bounds.Version.{Version}
use Rattle.limits.specs.declared.bounds.Version.TheVariants.{First, Second}
use Rattle.limits.specs.declared.counts.TheConstants.{MOST_POSTINGS}
use Rattle.query_terms.specs.declared.column.Column.{Column}
use Rattle.query_terms.specs.declared.column.Column.TheVariants as column
use Rattle.query_rows.specs.Shape.{is_held}
use Rattle.query_rows.specs.ColumnShape.{AreBounds, column_shape}

-- no version allows more postings than a ledger holds
allowed : (v : Version) → most_postings v ≤ MOST_POSTINGS
allowed First = omega arith
allowed Second = omega arith

pub few_postings : (b : Bounds) → AreBounds b → b.postings ≤ MOST_POSTINGS
few_postings b are = let few = are.postings in let h = allowed b.schema in omega (arith, few, h)

-- so many postings of so many digits each
narrow : (n d : ℕ) → n ≤ MOST_POSTINGS → d ≤ 28 → n * (10 ^ d - 1) < 2 ^ 127
narrow n d few small =
    let wide = pow_le d 28 small in
    let one : n * (10 ^ d - 1) ≤ n * 10 ^ 28 = mul-le-mul_left n (omega (arith, wide)) in
    let all : n * 10 ^ 28 ≤ MOST_POSTINGS * 10 ^ 28 = mul-le-mul_right (10 ^ 28) few in
    omega (arith, one, all)

pub sum_fits : (n d : ℕ) → n ≤ MOST_POSTINGS → d ≤ 28 → n * (10 ^ d - 1) < 2 ^ 128
sum_fits n d few small = let h = narrow n d few small in omega (arith, h)

-- ---- columns

units_fit : (d : ℕ) → d ≤ 20 → nat_lt (10 ^ d - 1) (2 ^ 127) ≡ true
units_fit d small = let wide = pow_le d 20 small in lt-ltb _ _ (omega (arith, wide))

value_fits : (d : ℕ) → d ≤ 28 → nat_lt (10 ^ d - 1) (2 ^ 127) ≡ true
value_fits d small = let wide = pow_le d 28 small in lt-ltb _ _ (omega (arith, wide))

sums_fit : (n d : ℕ) → n ≤ MOST_POSTINGS → d ≤ 28 → nat_lt (n * (10 ^ d - 1)) (2 ^ 127) ≡ true
sums_fit n d few small = lt-ltb _ _ (narrow n d few small)

both : (a b : Bool) → a ≡ true → b ≡ true → (a && b) ≡ true
both true b h k = k
both false b h k = absurd cc

pub column_is_held : (b : Bounds) (c : Column) → AreBounds b → is_held (column_shape b c) ≡ true
column_is_held b column.Date are = refl
column_is_held b column.Year are = refl
column_is_held b column.Month are = refl
column_is_held b column.Day are = refl
column_is_held b column.Flag are = refl
column_is_held b column.Payee are = refl
column_is_held b column.Narration are = refl
column_is_held b column.Tags are = refl
column_is_held b column.Links are = refl
column_is_held b column.Account are = refl
column_is_held b column.PostingFlag are = refl
column_is_held b column.Number are = units_fit b.units_digits are.units
column_is_held b column.Currency are = refl
column_is_held b column.CostNumber are = units_fit b.units_digits are.units
column_is_held b column.CostCurrency are = refl
column_is_held b column.CostDate are = refl
column_is_held b column.CostLabel are = refl
column_is_held b column.Position are =
    both _ _ (units_fit b.units_digits are.units) (value_fits b.value_digits are.value)
column_is_held b column.Weight are = value_fits b.value_digits are.value
column_is_held b column.Balance are =
    both _ _ (sums_fit b.postings b.units_digits (few_postings b are) (omega (arith, are.units)))
    (sums_fit b.postings b.value_digits (few_postings b are) are.value)
column_is_held b column.Lineno are = refl
column_is_held b column.Accounts are = refl
column_is_held b column.Price are = units_fit b.units_digits are.units
