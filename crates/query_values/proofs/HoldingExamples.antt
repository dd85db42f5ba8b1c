-- Units and costs, comparisons of inventories, and what is gathered, at worked values.
use Rattle.std.proofs.Common.{◌≡◌, ◌<◌, ◌≤◌, ◌^◌, ◌-◌, ℕ, ℤ, pos, negsuc, true, false, List, []}
use Rattle.std.proofs.Common.{◌∷◌, Option, Some, None, codes, refl, arith}
use Rattle.std.specs.declared.cmp.Ordering.TheVariants.{Less}
use Rattle.bean_base.proofs.WorkedDays.{january_2, january_2_number}
use Rattle.bean_lots.specs.declared.lot.Key.{Key}
use Rattle.bean_lots.specs.declared.lot.Position as entry
use Rattle.query_values.specs.Aggregate.{aggregate_of}
use Rattle.query_values.specs.Held.{checked}
use Rattle.query_values.specs.Equality.{same}
use Rattle.query_values.specs.Order.{order_of}
use Rattle.query_values.specs.Operand.{may_unary}
use Rattle.query_values.specs.Operation.{unary_value}
use Rattle.query_values.specs.Unary as unary
use Rattle.query_values.specs.declared.operation.Aggregate.TheVariants as aggregate
use Rattle.query_values.specs.declared.value.Value.{Value}
use Rattle.query_values.specs.declared.value.Value.TheVariants.{Null, Number, Text, Amount}
use Rattle.query_values.specs.declared.value.Value.TheVariants.{Position, Inventory}

-- what a machine has of an operation: the value where the operation may be applied and the value is
-- held
abbrev one : unary.Unary → Value → Option Value
one op x = checked (may_unary op x) (unary_value op x)

-- the greatest count
abbrev most : ℕ
most = 2 ^ 127 - 1

-- units, costs, numbers and currencies; costs in counts of 10^-8
small : (count : ℕ) → count ≤ 120 → count < 10 ^ 20
small count few = omega (arith, few)

few_100 : 100 ≤ 120
few_100 = omega arith

abbrev bare : Key
bare = record { currency = codes "USD"; lot = None }

abbrev at_cost : Key
at_cost = record {
  currency = codes "HOOL";
  lot = Some (record {
    cost =
        record { count = pos 100; currency = codes "USD"; small = small 100 few_100 };
    day =
        january_2;
    label = None;
  });
}

units : one unary.Units (Position at_cost (pos 10)) ≡ Some (Amount 8 (codes "HOOL") (pos 10))
units = refl

cost : one unary.Cost (Position at_cost (pos 10)) ≡ Some (Amount 16 (codes "USD") (pos 1000))
cost = refl

cost_without_lot :
    one unary.Cost (Position bare (pos 10)) ≡ Some (Amount 16 (codes "USD") (pos 1000000000))
cost_without_lot = refl

cost_of_null : one unary.Cost Null ≡ Some Null
cost_of_null = refl

too_large_a_cost : one unary.Cost (Position at_cost (pos most)) ≡ None
too_large_a_cost = refl

abbrev held : Key → ℤ → entry.Position
held k n = record { key = k; count = n }

abbrev bag : ℕ → List entry.Position → Value
bag places es = Inventory (record { places = places; held = es })

units_of_both :
    one unary.Units (bag 8 (held at_cost (pos 10) ∷ held bare (pos 5) ∷ []))
    ≡ Some (bag 8 (held (record { currency = codes "HOOL"; lot = None }) (pos 10)
    ∷ held bare (pos 5) ∷ []))
units_of_both = refl

cost_of_both :
    one unary.Cost (bag 8 (held at_cost (pos 10) ∷ held bare (pos 5) ∷ []))
    ≡ Some (bag 16 (held bare (pos 500001000) ∷ []))
cost_of_both = refl

costs_that_cancel :
    one unary.Cost (bag 8 (held at_cost (pos 100000000) ∷ held bare (negsuc 99) ∷ []))
    ≡ Some (bag 16 [])
costs_that_cancel = refl

too_many_decimals_of_a_cost : one unary.Cost (bag 25 []) ≡ None
too_many_decimals_of_a_cost = refl

number : one unary.Number (Amount 16 (codes "USD") (pos 7)) ≡ Some (Number 16 (pos 7))
number = refl

number_of_position : one unary.Number (Position at_cost (pos 7)) ≡ Some (Number 8 (pos 7))
number_of_position = refl

currency : one unary.Currency (Position at_cost (pos 7)) ≡ Some (Text (codes "HOOL"))
currency = refl

currency_of_an_inventory : one unary.Currency (bag 8 []) ≡ None
currency_of_an_inventory = refl

-- the same values, whatever their decimals and the order of entries
by_value : same (Number 1 (pos 15)) (Number 3 (pos 1500)) ≡ true
by_value = refl

other_values : same (Number 1 (pos 15)) (Number 3 (pos 15)) ≡ false
other_values = refl

in_any_order :
    same (bag 8 (held at_cost (pos 3) ∷ held bare (pos 1) ∷ []))
    (bag 9 (held bare (pos 10) ∷ held at_cost (pos 30) ∷ [])) ≡ true
in_any_order = rw january_2_number refl

one_more_key :
    same (bag 8 (held bare (pos 1) ∷ [])) (bag 8 (held bare (pos 1) ∷ held at_cost (pos 3) ∷ []))
    ≡ false
one_more_key = rw january_2_number refl

null_first : order_of Null (Number 0 (negsuc 5)) ≡ Less
null_first = refl

by_value_in_order : order_of (Number 1 (pos 15)) (Number 3 (pos 1501)) ≡ Less
by_value_in_order = refl

-- aggregates leave null out, but where they count rows
abbrev inputs : List Value
inputs = Null ∷ Number 2 (pos 5) ∷ Null ∷ Number 2 (negsuc 1) ∷ Number 2 (pos 5) ∷ Null ∷ []

rows : aggregate_of aggregate.CountRows inputs ≡ Number 0 (pos 6)
rows = refl

values : aggregate_of aggregate.Count inputs ≡ Number 0 (pos 3)
values = refl

total : aggregate_of (aggregate.Sum 2) inputs ≡ Number 2 (pos 8)
total = refl

total_of_nothing : aggregate_of (aggregate.Sum 2) (Null ∷ []) ≡ Number 2 (pos 0)
total_of_nothing = refl

first : aggregate_of aggregate.First inputs ≡ Number 2 (pos 5)
first = refl

last : aggregate_of aggregate.Last (Number 2 (pos 7) ∷ inputs) ≡ Number 2 (pos 5)
last = refl

least : aggregate_of aggregate.Min inputs ≡ Number 2 (negsuc 1)
least = refl

greatest : aggregate_of aggregate.Max inputs ≡ Number 2 (pos 5)
greatest = refl

least_of_nothing : aggregate_of aggregate.Min (Null ∷ []) ≡ Null
least_of_nothing = refl

inventory :
    aggregate_of (aggregate.SumInventory 8)
    (Position bare (pos 5) ∷ Null ∷ Position at_cost (pos 3) ∷ Position bare (negsuc 4)
    ∷ Amount 8 (codes "USD") (pos 1) ∷ [])
    ≡ bag 8 (held at_cost (pos 3) ∷ held bare (pos 1) ∷ [])
inventory = refl

inventory_of_nothing : aggregate_of (aggregate.SumInventory 2) [] ≡ bag 2 []
inventory_of_nothing = refl
