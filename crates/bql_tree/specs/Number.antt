-- Numbers of a query: digits, and a point with digits behind it.
use Rattle.std.specs.Prelude.{ℕ, ◌==◌, min, Bool, List, drop, length, pos, Option, Some, None}
use Rattle.std.specs.List.{prefix_len, after_first}
use Rattle.limits.specs.declared.counts.TheConstants.{COUNT_BOUND}
use Rattle.bean_base.specs.Numeral.{count_of, is_point}
use Rattle.query_terms.specs.Wide.{decimal_of}
use Rattle.query_terms.specs.declared.decimal.Decimal.{Decimal}
use Rattle.bql_tree.specs.declared.tree.Leaf as leaves
use Rattle.bql_tree.specs.declared.tree.Leaf.TheVariants as leaf

-- how many digits stand behind the point
abbrev pub places : List ℕ → ℕ
places bs = length (after_first is_point bs)

abbrev pub is_zero : ℕ → Bool
is_zero b = b == 48

abbrev pub significant : List ℕ → List ℕ
significant bs = drop (prefix_len is_zero bs) bs

-- the decimal of that count, below 2^127, and places
abbrev pub decimal : ℕ → ℕ → Option Decimal
decimal places count = decimal_of places (pos count)

abbrev pub number_by : List ℕ → Option Decimal → leaves.Leaf
number_by bs (Some d) = leaf.Number d
number_by bs None = leaf.TooWide (significant bs)

-- the decimal that is written, if a machine holds it, and else its digits
abbrev pub number : List ℕ → leaves.Leaf
number bs = number_by bs (decimal (places bs) (min COUNT_BOUND (count_of bs)))
