-- What operations give, whatever the size of counts. Comparisons but = and !=, patterns and
-- membership are false of null, NOT takes it as false, and of the others null gives null.
use Rattle.std.specs.Prelude.{ℕ, Bool, false, not, pos, List, chars, length}
use Rattle.std.specs.Int.RustNames.{unsigned_abs}
use Rattle.std.specs.List.{list_any}
use Rattle.bean_base.specs.declared.days.Day as day
use Rattle.bean_lots.specs.Lot.{same_text}
use Rattle.query_values.specs.Arithmetic.{aligned, sum_of, difference_of, product_of, negative_of}
use Rattle.query_values.specs.Arithmetic.{magnitude_of}
use Rattle.query_values.specs.Component.{root_part, parent_part, leaf_part, root_rank}
use Rattle.query_values.specs.Equality.{same}
use Rattle.query_values.specs.Order.{is_null, is_less, is_at_most}
use Rattle.query_values.specs.Pattern.{is_found}
use Rattle.query_bags.specs.Bag.{bag_units, bag_cost}
use Rattle.query_holdings.specs.Total.{cost_currency, cost_count}
use Rattle.query_values.specs.Unary as unary
use Rattle.query_values.specs.declared.operation.Binary.{Binary}
use Rattle.query_values.specs.declared.operation.Binary.TheVariants as binary
use Rattle.query_values.specs.declared.value.Value.{Value}
use Rattle.query_values.specs.declared.value.Value.TheVariants.{Null, Truth, Number, Text, Day, Set}
use Rattle.query_values.specs.declared.value.Value.TheVariants.{Amount, Position, Inventory}

-- a whole number
abbrev pub whole : ℕ → Value
whole n = Number 0 (pos n)

abbrev pub is_true : Value → Bool
is_true (Truth b) = b
is_true x = false

-- of a text, of a day; null of anything else
abbrev pub of_text : (List ℕ → Value) → Value → Value
of_text f (Text t) = f t
of_text f x = Null

abbrev pub of_day : (day.Day → Value) → Value → Value
of_day f (Day d) = f d
of_day f x = Null

-- the text has the pattern, some member of the set has it
abbrev pub has_match : (List ℕ → Bool) → Value → Bool
has_match found (Text t) = found t
has_match found x = false

abbrev pub has_member : (List ℕ → Bool) → Value → Bool
has_member found (Set ts) = list_any found ts
has_member found x = false

abbrev pub is_member : Value → Value → Bool
is_member (Text t) s = has_member (same_text t) s
is_member x s = false

-- x is one of these; null is in no list
abbrev pub is_among : List Value → Value → Bool
is_among ys Null = false
is_among ys x = list_any (same x) ys

-- how many characters a text has, or members a set
abbrev pub length_of : Value → Value
length_of (Text t) = whole (length (chars t))
length_of (Set ts) = whole (length ts)
length_of x = Null

abbrev pub units_of : Value → Value
units_of (Position k n) = Amount 8 k.currency n
units_of (Inventory b) = Inventory (bag_units b)
units_of x = Null

abbrev pub cost_of : Value → Value
cost_of (Position k n) = Amount 16 (cost_currency k) (cost_count k.lot n)
cost_of (Inventory b) = Inventory (bag_cost b)
cost_of x = Null

abbrev pub number_of : Value → Value
number_of (Amount p c n) = Number p n
number_of (Position k n) = Number 8 n
number_of x = Null

abbrev pub currency_of : Value → Value
currency_of (Amount p c n) = Text c
currency_of (Position k n) = Text k.currency
currency_of x = Null

abbrev pub unary_value : unary.Unary → Value → Value
unary_value (unary.Align places) x = aligned places x
unary_value unary.Neg x = negative_of x
unary_value unary.Abs x = magnitude_of x
unary_value unary.Not x = Truth (not (is_true x))
unary_value unary.IsNull x = Truth (is_null x)
unary_value (unary.Match pattern) x = Truth (has_match (is_found pattern) x)
unary_value (unary.MatchAny pattern) x = Truth (has_member (is_found pattern) x)
unary_value (unary.InList ys) x = Truth (is_among ys x)
unary_value unary.Year x = of_day (λ d. whole (unsigned_abs d.date.year)) x
unary_value unary.Month x = of_day (λ d. whole d.date.month) x
unary_value unary.Day x = of_day (λ d. whole d.date.day) x
unary_value (unary.Root n) x = of_text (λ t. Text (root_part n t)) x
unary_value unary.Parent x = of_text (λ t. Text (parent_part t)) x
unary_value unary.Leaf x = of_text (λ t. Text (leaf_part t)) x
unary_value unary.Length x = length_of x
unary_value unary.Units x = units_of x
unary_value unary.Cost x = cost_of x
unary_value unary.Number x = number_of x
unary_value unary.Currency x = currency_of x
unary_value unary.RootRank x = of_text (λ t. whole (root_rank t)) x

abbrev pub binary_value : Binary → Value → Value → Value
binary_value binary.Add x y = sum_of x y
binary_value binary.Sub x y = difference_of x y
binary_value binary.Mul x y = product_of x y
binary_value binary.Equal x y = Truth (same x y)
binary_value binary.NotEqual x y = Truth (not (same x y))
binary_value binary.Less x y = Truth (is_less x y)
binary_value binary.AtMost x y = Truth (is_at_most x y)
binary_value binary.Greater x y = Truth (is_less y x)
binary_value binary.AtLeast x y = Truth (is_at_most y x)
binary_value binary.InSet x y = Truth (is_member x y)
