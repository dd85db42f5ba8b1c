-- Worked shapes of columns.
use Rattle.std.proofs.Common.{◌≡◌, refl}
use Rattle.limits.specs.declared.bounds.Bounds.{Bounds}
use Rattle.limits.specs.declared.bounds.Version.TheVariants.{Second}
use Rattle.query_rows.specs.ColumnShape.{column_shape}
use Rattle.query_terms.specs.declared.column.Column.TheVariants.{CostNumber, Position, Weight}
use Rattle.query_terms.specs.declared.column.Column.TheVariants.{Price}
use Rattle.query_rows.specs.declared.shape.Shape.TheVariants as shape

abbrev narrow : Bounds
narrow = record { schema = Second; postings = 10; units_digits = 3; value_digits = 4 }

costs : column_shape narrow CostNumber ≡ shape.Number 8 999
costs = refl

positions : column_shape narrow Position ≡ shape.Position 999 9999
positions = refl

weights : column_shape narrow Weight ≡ shape.Amount 16 9999
weights = refl

prices : column_shape narrow Price ≡ shape.Amount 8 999
prices = refl
