-- What is known of a value: its kind, its decimals, and the most that its counts may be, signs left
-- off.
use Rattle.std.specs.Prelude.{◌≡◌, ℕ, ◌≤◌, ◌&&◌, ◌==◌, Bool, true, max, nat_le, nat_lt, List}
use Rattle.std.specs.Prelude.{length, Option, Some, None, Result, Ok, Err, if◌then◌else◌}
use Rattle.std.specs.Int.RustNames.{unsigned_abs}
use Rattle.std.specs.List.{AllByRecursion}
use Rattle.limits.specs.declared.counts.TheConstants.{COUNT_BOUND, LARGEST_TEXT, MOST_PLACES}
use Rattle.query_holdings.specs.Total.{cost_currency}
use Rattle.query_values.specs.declared.value.Value.{Value}
use Rattle.query_values.specs.declared.value.Value.TheVariants as value
use Rattle.query_rows.specs.Mass.{units_mass, value_mass, value_of}
use Rattle.query_rows.specs.declared.shape.Misfit.{Misfit}
use Rattle.query_rows.specs.declared.shape.Misfit.TheVariants.{TooWide}
use Rattle.query_rows.specs.declared.shape.Shape.{Shape}
use Rattle.query_rows.specs.declared.shape.Shape.TheVariants.{Truth, Text, Day, Set, Number}
use Rattle.query_rows.specs.declared.shape.Shape.TheVariants.{Amount, Position, Inventory}

abbrev pub IsShort : List ℕ → Type 0
IsShort text = length text ≤ LARGEST_TEXT

-- a value is of a shape; null is of every shape
abbrev pub LiesIn : Value → Shape → Type 0
LiesIn value.Null s = Unit {0}
LiesIn (value.Truth b) Truth = Unit {0}
LiesIn (value.Text t) Text = IsShort t
LiesIn (value.Day d) Day = Unit {0}
LiesIn (value.Set ts) Set = (length ts ≤ LARGEST_TEXT) × AllByRecursion IsShort ts
LiesIn (value.Number p n) (Number q m) = (p ≡ q) × (unsigned_abs n ≤ m)
LiesIn (value.Amount p c n) (Amount q m) = (p ≡ q) × (unsigned_abs n ≤ m) × IsShort c
LiesIn (value.Position k n) (Position u v) =
    (unsigned_abs n ≤ u) × (value_of k.lot n ≤ v) × IsShort k.currency
    × IsShort (cost_currency k)
LiesIn (value.Inventory b) (Inventory q u v) =
    (b.places ≡ q) × (units_mass b.held ≤ u) × (value_mass b.held ≤ v)
LiesIn x s = ⊥

-- one shape is of the same kind and decimals as another, and has no greater counts
abbrev pub IsBelow : Shape → Shape → Type 0
IsBelow Truth Truth = Unit {0}
IsBelow Text Text = Unit {0}
IsBelow Day Day = Unit {0}
IsBelow Set Set = Unit {0}
IsBelow (Number p m) (Number q n) = (p ≡ q) × (m ≤ n)
IsBelow (Amount p m) (Amount q n) = (p ≡ q) × (m ≤ n)
IsBelow (Position u v) (Position w x) = (u ≤ w) × (v ≤ x)
IsBelow (Inventory p u v) (Inventory q w x) = (p ≡ q) × (u ≤ w) × (v ≤ x)
IsBelow s t = ⊥

abbrev pub is_most : ℕ → Bool
is_most m = nat_lt m COUNT_BOUND

-- each value of the shape can be held
abbrev pub is_held : Shape → Bool
is_held (Number p m) = nat_le p MOST_PLACES && is_most m
is_held (Amount p m) = nat_le p MOST_PLACES && is_most m
is_held (Position u v) = is_most u && is_most v
is_held (Inventory p u v) = nat_le p MOST_PLACES && (is_most u && is_most v)
is_held s = true

abbrev pub fitting : Shape → Result Shape Misfit
fitting s = if is_held s then Ok s else Err TooWide

-- the least shape above both
abbrev pub joined : Shape → Shape → Option Shape
joined Truth Truth = Some Truth
joined Text Text = Some Text
joined Day Day = Some Day
joined Set Set = Some Set
joined (Number p m) (Number q n) = if p == q then Some (Number p (max m n)) else None
joined (Amount p m) (Amount q n) = if p == q then Some (Amount p (max m n)) else None
joined (Position u v) (Position w x) = Some (Position (max u w) (max v x))
joined (Inventory p u v) (Inventory q w x) =
    if p == q then Some (Inventory p (max u w) (max v x)) else None
joined s t = None
