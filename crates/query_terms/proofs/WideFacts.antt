-- Wide numbers are told by their counts and places.
use Rattle.std.proofs.Common.{◌≡◌, ◌<◌, ◌≤◌, ◌^◌, ℕ, ℤ, Bool, true, false, Some, None}
use Rattle.std.proofs.Common.{arith, ap, sym, refl}
use Rattle.std.proofs.Math.Dec.{T_prop}
use Rattle.std.proofs.lemmas.Grind.{common_steps}
use Rattle.std.specs.Coded.{le_prop}
use Rattle.std.specs.Int.RustNames.{unsigned_abs}
use mathlib.Core.HLevel.{is_prop→PathP}
use Rattle.query_terms.specs.declared.decimal.Decimal.{Decimal}
use Rattle.query_terms.specs.WideCount.{is_wide}
use Rattle.query_terms.specs.Wide.{decimal_where, decimal_of, is_narrow, is_in_range}

pub one_decimal : (a b : Decimal) → a.count ≡ b.count → a.places ≡ b.places → a ≡ b
one_decimal a b count places = λ i. record {
  count = count i;
  places = places i;
  narrow = is_prop→PathP (λ j. places j ≤ 32) (λ j. hlevel (le_prop, T_prop)) a.narrow b.narrow i;
  in_range =
      is_prop→PathP (λ j. unsigned_abs (count j)
      < 2 ^ 127) (λ j. hlevel (le_prop, T_prop)) a.in_range b.in_range i;
}

found_where : (d : Decimal) (b : Bool) (is : is_wide d.places d.count ≡ b)
    → Some d ≡ decimal_where d.places d.count b is
found_where d true is = ap Some (one_decimal d _ refl refl)
found_where d false is = absurd (grind (arith, common_steps, d.narrow, d.in_range))

missing_where : (places : ℕ) (count : ℤ) (b : Bool) (is : is_wide places count ≡ b) → b ≡ false
    → None ≡ decimal_where places count b is
missing_where places count true is never = absurd cc
missing_where places count false is never = refl

pub found : (d : Decimal) → Some d ≡ decimal_of d.places d.count
found d = found_where d (is_wide d.places d.count) refl

pub missing : (places : ℕ) (count : ℤ) → is_wide places count ≡ false
    → None ≡ decimal_of places count
missing places count never = missing_where places count (is_wide places count) refl never

back_where : (places : ℕ) (count : ℤ) (d : Decimal) (b : Bool) (is : is_wide places count ≡ b)
    → decimal_where places count b is ≡ Some d → (d.places ≡ places) × (d.count ≡ count)
back_where places count d true is e =
    let same :
    record {
      count = count;
      places = places;
      narrow = is_narrow places count is;
      in_range =
          is_in_range places count is;
    } ≡ d = cc in
    (ap (λ (x : Decimal). x.places) (sym same), ap (λ (x : Decimal). x.count) (sym same))
back_where places count d false is e = absurd cc

-- a number has the places and the count that it was made of
pub parts_back : (places : ℕ) (count : ℤ) (d : Decimal) → decimal_of places count ≡ Some d
    → (d.places ≡ places) × (d.count ≡ count)
parts_back places count d = back_where places count d (is_wide places count) refl
