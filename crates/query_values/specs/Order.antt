-- The order of values.
use Rattle.std.specs.Prelude.{ℕ, ℤ, Bool, true, false, not, ◌&&◌, max}
use Rattle.std.specs.Cmp.Lexicographic.{slice_cmp}
use Rattle.std.specs.declared.cmp.Ordering.{Ordering}
use Rattle.std.specs.Ordering.{nat_cmp, int_cmp, is_lt}
use Rattle.bean_base.specs.Day.{number}
use Rattle.bean_base.specs.Decimal.{scaled}
use Rattle.query_values.specs.declared.value.Value.{Value}
use Rattle.query_values.specs.declared.value.Value.TheVariants.{Null, Truth, Number, Text, Day, Set}
use Rattle.query_values.specs.declared.value.Value.TheVariants.{Amount, Position, Inventory}

-- the kinds in a row, null first
abbrev pub kind_rank : Value → ℕ
kind_rank Null = 0
kind_rank (Truth b) = 1
kind_rank (Number p n) = 2
kind_rank (Text t) = 3
kind_rank (Day d) = 4
kind_rank (Set ts) = 5
kind_rank (Amount p c n) = 6
kind_rank (Position k n) = 7
kind_rank (Inventory b) = 8

-- how m * 10^-p stands to n * 10^-q
abbrev pub number_order : ℕ → ℤ → ℕ → ℤ → Ordering
number_order p m q n = int_cmp (scaled m p (max p q)) (scaled n q (max p q))

-- null first, numbers by value, texts by their bytes, days by their number
abbrev pub order_of : Value → Value → Ordering
order_of (Number p m) (Number q n) = number_order p m q n
order_of (Text a) (Text b) = slice_cmp nat_cmp a b
order_of (Day a) (Day b) = int_cmp (number a) (number b)
order_of x y = nat_cmp (kind_rank x) (kind_rank y)

abbrev pub is_null : Value → Bool
is_null Null = true
is_null x = false

-- neither is null
abbrev pub are_there : Value → Value → Bool
are_there x y = not (is_null x) && not (is_null y)

-- x is less than y; nothing is less than null, nor null than anything
abbrev pub is_less : Value → Value → Bool
is_less x y = are_there x y && is_lt (order_of x y)

abbrev pub is_at_most : Value → Value → Bool
is_at_most x y = are_there x y && not (is_lt (order_of y x))
