-- What is gathered over the values of a group. Null is left out, but where rows are counted.
use Rattle.std.specs.Prelude.{ℕ, Bool, true, false, not, ◌||◌, ◌==◌, ℤ, pos, ◌+ℤ◌, List, [], ◌∷◌}
use Rattle.std.specs.Prelude.{length, filter, if◌then◌else◌}
use Rattle.bean_lots.specs.Inventory.{added}
use Rattle.bean_lots.specs.declared.lot.Key as key
use Rattle.bean_lots.specs.declared.lot.Position as entry
use Rattle.query_values.specs.Operand.{are_in_order}
use Rattle.query_values.specs.Operation.{whole}
use Rattle.query_values.specs.Order.{is_null, is_less}
use Rattle.query_holdings.specs.Total.{bare, total_from}
use Rattle.query_bags.specs.declared.bag.Bag.{Bag}
use Rattle.query_values.specs.declared.operation.Aggregate.{Aggregate}
use Rattle.query_values.specs.declared.operation.Aggregate.TheVariants.{CountRows, Count, Sum}
use Rattle.query_values.specs.declared.operation.Aggregate.TheVariants.{SumInventory, First, Last}
use Rattle.query_values.specs.declared.operation.Aggregate.TheVariants.{Min, Max}
use Rattle.query_values.specs.declared.value.Value.{Value}
use Rattle.query_values.specs.declared.value.Value.TheVariants.{Null, Number, Amount, Position}
use Rattle.query_values.specs.declared.value.Value.TheVariants.{Inventory}

-- the values that aren't null
abbrev pub present : List Value → List Value
present xs = filter (λ x. not (is_null x)) xs

abbrev pub count_in : Value → ℤ
count_in (Number p n) = n
count_in x = pos 0

abbrev pub sum_in : List Value → ℤ
sum_in [] = pos 0
sum_in (x ∷ xs) = count_in x +ℤ sum_in xs

-- an amount or a position, as what is added to an inventory
abbrev pub entries_in : List Value → List entry.Position
entries_in [] = []
entries_in (Amount p c n ∷ xs) = bare c n ∷ entries_in xs
entries_in (Position k n ∷ xs) = record { key = k; count = n } ∷ entries_in xs
entries_in (x ∷ xs) = entries_in xs

abbrev pub first_of : List Value → Value
first_of [] = Null
first_of (x ∷ xs) = x

abbrev pub last_from : Value → List Value → Value
last_from x [] = x
last_from x (y ∷ ys) = last_from y ys

abbrev pub last_of : List Value → Value
last_of xs = last_from Null xs

-- the best from x on: a value that is better takes its place
abbrev pub best_from : (Value → Value → Bool) → Value → List Value → Value
best_from better x [] = x
best_from better x (y ∷ ys) = best_from better (if better y x then y else x) ys

abbrev pub best_of : (Value → Value → Bool) → List Value → Value
best_of better [] = Null
best_of better (x ∷ xs) = best_from better x xs

abbrev pub is_greater : Value → Value → Bool
is_greater x y = is_less y x

-- over a list of values, one for each posting
abbrev pub aggregate_of : Aggregate → List Value → Value
aggregate_of CountRows xs = whole (length xs)
aggregate_of Count xs = whole (length (present xs))
aggregate_of (Sum places) xs = Number places (sum_in xs)
aggregate_of (SumInventory places) xs =
    Inventory (record { places = places; held = total_from [] (entries_in xs) })
aggregate_of First xs = first_of (present xs)
aggregate_of Last xs = last_of (present xs)
aggregate_of Min xs = best_of is_less (present xs)
aggregate_of Max xs = best_of is_greater (present xs)

-- a count with one more
abbrev pub counted : Value → Value
counted (Number p n) = Number p (n +ℤ pos 1)
counted t = t

-- a sum with a number more
abbrev pub summed : Value → Value → Value
summed (Number p m) (Number q n) = Number p (m +ℤ n)
summed t x = t

abbrev pub bag_with : Bag → key.Key → ℤ → Bag
bag_with b k n = record { places = b.places; held = added b.held k n }

-- an inventory with an amount or a position more
abbrev pub gathered : Value → Value → Value
gathered (Inventory b) (Amount p c n) = Inventory (bag_with b (bare c n).key n)
gathered (Inventory b) (Position k n) = Inventory (bag_with b k n)
gathered t x = t

abbrev pub better_of : (Value → Value → Bool) → Value → Value → Value
better_of better t x = if is_null t || better x t then x else t

-- what is gathered, with one value more
abbrev pub with_more : Aggregate → Value → Value → Value
with_more CountRows t x = counted t
with_more Count t x = if is_null x then t else counted t
with_more (Sum places) t x = summed t x
with_more (SumInventory places) t x = gathered t x
with_more First t x = if is_null t then x else t
with_more Last t x = if is_null x then t else x
with_more Min t x = better_of is_less t x
with_more Max t x = better_of is_greater t x

-- a number, an amount of so many decimals, or a position where these are 8; null is of every kind
abbrev pub is_summand : ℕ → Value → Bool
is_summand places Null = true
is_summand places (Number p n) = p == places
is_summand places x = false

abbrev pub is_entry : ℕ → Value → Bool
is_entry places Null = true
is_entry places (Amount p c n) = p == places
is_entry places (Position k n) = places == 8
is_entry places x = false

-- which values may be gathered, where t is gathered so far
abbrev pub may_take : Aggregate → Value → Value → Bool
may_take (Sum places) t x = is_summand places x
may_take (SumInventory places) t x = is_entry places x
may_take Min t x = are_in_order x t
may_take Max t x = are_in_order t x
may_take a t x = true
