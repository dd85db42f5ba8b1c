-- The order of values is total.
use Rattle.std.proofs.Common.{◌≡◌, ℕ, ℤ, pos, List, [], refl, sym, ap, ◌∙◌}
use Rattle.std.proofs.lemmas.Cmp.{nat_cmp_total, int_cmp_total, on_total, then_total}
use Rattle.std.specs.Cmp.{IsTotalOrder}
use Rattle.std.specs.Cmp.Lexicographic.{slice_cmp, nat_list_cmp_total}
use Rattle.std.specs.Ordering.{nat_cmp, int_cmp, on, then_cmp, ordering_reverse, ordering_then}
use Rattle.std.specs.declared.cmp.Ordering.{Ordering}
use Rattle.std.specs.declared.cmp.Ordering.TheVariants.{Less, Equal, Greater}
use Rattle.bean_base.specs.Day.{number}
use Rattle.query_values.proofs.NumberOrder as numbers
use Rattle.query_values.specs.Order.{kind_rank, number_order, order_of}
use Rattle.query_values.specs.declared.value.Value.{Value}
use Rattle.query_values.specs.declared.value.Value.TheVariants.{Null, Truth, Number, Text, Day, Set}
use Rattle.query_values.specs.declared.value.Value.TheVariants.{Amount, Position, Inventory}

abbrev number_in : Value → ℕ × ℤ
number_in (Number p n) = (p, n)
number_in x = (0, pos 0)

abbrev text_in : Value → List ℕ
text_in (Text t) = t
text_in x = []

abbrev day_in : Value → ℤ
day_in (Day d) = number d
day_in x = pos 0

-- by kind, then by number, by text, by day
abbrev by_parts : Value → Value → Ordering
by_parts =
    then_cmp (on kind_rank nat_cmp)
    (then_cmp (on number_in numbers.order)
    (then_cmp (on text_in (slice_cmp nat_cmp)) (on day_in int_cmp)))

parts_total : IsTotalOrder by_parts
parts_total =
    then_total (on_total kind_rank nat_cmp_total)
    (then_total (on_total number_in numbers.numbers_total)
    (then_total (on_total text_in nat_list_cmp_total) (on_total day_in int_cmp_total)))

then_equal : (r : Ordering) → ordering_then r Equal ≡ r
then_equal Less = refl
then_equal Equal = refl
then_equal Greater = refl

as_parts : (x y : Value) → order_of x y ≡ by_parts x y
as_parts (Number p m) (Number q n) = sym (then_equal (number_order p m q n))
as_parts (Text a) (Text b) = sym (then_equal (slice_cmp nat_cmp a b))
as_parts (Day a) (Day b) = refl
as_parts Null Null = refl
as_parts (Truth a) Null = refl
as_parts (Set ts) Null = refl
as_parts (Amount p c n) Null = refl
as_parts (Position k n) Null = refl
as_parts (Inventory b) Null = refl
as_parts x y = refl

pub values_total : IsTotalOrder order_of
values_total = record {
  antisymm =
      λ x y. as_parts x y ∙ parts_total.antisymm x y ∙ ap ordering_reverse (sym (as_parts y x));
  trans = λ x y z h k. as_parts x z
      ∙ parts_total.trans x y z (sym (as_parts x y) ∙ h) (sym (as_parts y z) ∙ k);
  congr = λ x y z h. as_parts x z ∙ parts_total.congr x y z (sym (as_parts x y) ∙ h)
      ∙ sym (as_parts y z);
}
