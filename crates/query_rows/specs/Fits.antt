-- Whether the rows of a ledger are within bounds: how many they are, and how wide their counts,
-- signs left off.
use Rattle.std.specs.Prelude.{ℕ, ◌*◌, ◌^◌, ◌&&◌, ℤ, Bool, true, nat_le, nat_lt, List, length}
use Rattle.std.specs.Prelude.{Option, Some, None}
use Rattle.std.specs.Int.RustNames.{unsigned_abs}
use Rattle.std.specs.List.{list_all}
use Rattle.limits.specs.declared.bounds.Bounds.{Bounds}
use Rattle.limits.specs.declared.bounds.Version.{Version}
use Rattle.limits.specs.declared.bounds.Version.TheVariants.{First, Second}
use Rattle.bean_lots.specs.declared.lot.Lot.{Lot}
use Rattle.query_terms.specs.declared.column.Column.TheVariants as column
use Rattle.query_values.specs.declared.value.Value.{Value}
use Rattle.query_values.specs.declared.value.Value.TheVariants.{Amount, Position}
use Rattle.query_rows.specs.Row.{Row}

-- a number of at most so many digits
abbrev pub has_digits : ℕ → ℕ → Bool
has_digits digits n = nat_lt n (10 ^ digits)

-- the cost of so many units, and their product
abbrev pub lot_fits : Bounds → Option Lot → ℤ → Bool
lot_fits b None n = true
lot_fits b (Some lot) n =
    has_digits b.units_digits (unsigned_abs lot.cost.count)
    && has_digits b.value_digits (unsigned_abs n * unsigned_abs lot.cost.count)

-- units with their cost
abbrev pub position_fits : Bounds → Value → Bool
position_fits b (Position key n) =
    has_digits b.units_digits (unsigned_abs n) && lot_fits b key.lot n
position_fits b x = true

abbrev pub weight_fits : Bounds → Value → Bool
weight_fits b (Amount places currency n) = has_digits b.value_digits (unsigned_abs n)
weight_fits b x = true

-- a price; of the first schema, which knows none, nothing is asked
abbrev pub price_fits : Version → Bounds → Value → Bool
price_fits First b x = true
price_fits Second b (Amount places currency n) = has_digits b.units_digits (unsigned_abs n)
price_fits Second b x = true

abbrev pub row_fits : Bounds → Row → Bool
row_fits b r =
    position_fits b (r.cell column.Position) && weight_fits b (r.cell column.Weight)
    && price_fits b.schema b (r.cell column.Price)

abbrev pub fits : Bounds → List Row → Bool
fits b rows = nat_le (length rows) b.postings && list_all (row_fits b) rows
