-- Which values an operation may be applied to. Null is of every kind, but the other operand must
-- still be one that the operation takes.
use Rattle.std.specs.Prelude.{ℕ, Bool, true, false, ◌&&◌, ◌||◌, ◌==◌, nat_le, [], map}
use Rattle.std.specs.List.{list_all}
use Rattle.query_holdings.specs.Total.{adds_up, without_lot, at_cost}
use Rattle.query_values.specs.Unary as unary
use Rattle.query_values.specs.declared.operation.Binary.{Binary}
use Rattle.query_values.specs.declared.operation.Binary.TheVariants as binary
use Rattle.query_values.specs.declared.value.Value.{Value}
use Rattle.query_values.specs.declared.value.Value.TheVariants.{Null, Truth, Number, Text, Day, Set}
use Rattle.query_values.specs.declared.value.Value.TheVariants.{Amount, Position, Inventory}

abbrev pub is_truth : Value → Bool
is_truth Null = true
is_truth (Truth b) = true
is_truth x = false

abbrev pub is_number : Value → Bool
is_number Null = true
is_number (Number p n) = true
is_number x = false

abbrev pub is_text : Value → Bool
is_text Null = true
is_text (Text t) = true
is_text x = false

abbrev pub is_day : Value → Bool
is_day Null = true
is_day (Day d) = true
is_day x = false

abbrev pub is_set : Value → Bool
is_set Null = true
is_set (Set ts) = true
is_set x = false

-- an amount or a position
abbrev pub is_priced : Value → Bool
is_priced Null = true
is_priced (Amount p c n) = true
is_priced (Position k n) = true
is_priced x = false

-- a position, or an inventory whose sum without lots, or at cost, adds up
abbrev pub has_units : Value → Bool
has_units Null = true
has_units (Position k n) = true
has_units (Inventory b) = adds_up [] (map without_lot b.held)
has_units x = false

abbrev pub has_cost : Value → Bool
has_cost Null = true
has_cost (Position k n) = true
has_cost (Inventory b) = adds_up [] (map at_cost b.held)
has_cost x = false

abbrev pub is_signed : Value → Bool
is_signed (Inventory b) = true
is_signed x = is_number x || is_priced x

-- a number of at most so many decimals
abbrev pub has_at_most : ℕ → Value → Bool
has_at_most places (Number p n) = nat_le p places
has_at_most places x = is_number x

-- a kind that has an order, and one whose values may be compared by =
abbrev pub is_ordered : Value → Bool
is_ordered x = is_number x || is_text x || is_day x

abbrev pub is_compared : Value → Bool
is_compared x = is_ordered x || is_truth x

-- of one kind, and of the same decimals
abbrev pub are_alike : Value → Value → Bool
are_alike Null y = true
are_alike x Null = true
are_alike (Number p m) (Number q n) = p == q
are_alike x y = (is_truth x && is_truth y) || (is_text x && is_text y) || (is_day x && is_day y)

abbrev pub may_unary : unary.Unary → Value → Bool
may_unary (unary.Align places) x = has_at_most places x
may_unary unary.Neg x = is_signed x
may_unary unary.Abs x = is_number x
may_unary unary.Not x = is_truth x
may_unary unary.IsNull x = true
may_unary (unary.Match pattern) x = is_text x
may_unary (unary.MatchAny pattern) x = is_set x
may_unary (unary.InList ys) x = is_ordered x && list_all (are_alike x) ys
may_unary unary.Year x = is_day x
may_unary unary.Month x = is_day x
may_unary unary.Day x = is_day x
may_unary (unary.Root n) x = is_text x
may_unary unary.Parent x = is_text x
may_unary unary.Leaf x = is_text x
may_unary unary.Length x = is_text x || is_set x
may_unary unary.Units x = has_units x
may_unary unary.Cost x = has_cost x
may_unary unary.Number x = is_priced x
may_unary unary.Currency x = is_priced x
may_unary unary.RootRank x = is_text x

-- two numbers of the same decimals
abbrev pub are_addable : Value → Value → Bool
are_addable x y = is_number x && is_number y && are_alike x y

abbrev pub are_comparable : Value → Value → Bool
are_comparable x y = is_compared x && is_compared y && are_alike x y

abbrev pub are_in_order : Value → Value → Bool
are_in_order x y = is_ordered x && is_ordered y && are_alike x y

abbrev pub may_binary : Binary → Value → Value → Bool
may_binary binary.Add x y = are_addable x y
may_binary binary.Sub x y = are_addable x y
may_binary binary.Mul x y = is_number x && is_number y
may_binary binary.Equal x y = are_comparable x y
may_binary binary.NotEqual x y = are_comparable x y
may_binary binary.Less x y = are_in_order x y
may_binary binary.AtMost x y = are_in_order x y
may_binary binary.Greater x y = are_in_order x y
may_binary binary.AtLeast x y = are_in_order x y
may_binary binary.InSet x y = is_text x && is_set y
