-- Numbers are told by their counts and places.
use Rattle.std.proofs.Common.{◌≡◌, ◌^◌, ◌<◌}
use Rattle.std.proofs.Math.Dec.{T_prop}
use Rattle.std.specs.Coded.{le_prop}
use Rattle.std.specs.Int.RustNames.{unsigned_abs}
use mathlib.Core.HLevel.{is_prop→PathP}
use Rattle.bean_base.specs.Decimal.{IsLedger}
use Rattle.bean_base.specs.declared.num.Num.{Num}

pub one_num : (a b : Num) → a.count ≡ b.count → a.places ≡ b.places → a ≡ b
one_num a b count places = λ i. record {
  count = count i;
  places = places i;
  in_range =
      is_prop→PathP (λ j. IsLedger (count j) (places j)) (λ j. hlevel (le_prop, T_prop)) a.in_range
      b.in_range i;
  small = is_prop→PathP (λ j. unsigned_abs (count j)
      < 10 ^ 20) (λ j. hlevel (le_prop, T_prop)) a.small b.small i;
}
