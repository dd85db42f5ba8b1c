-- The value of a cell, wherever it is.
use Rattle.query_values.specs.declared.value.Value.{Value}
use Rattle.query_values.specs.declared.value.Value.TheVariants as value
use Rattle.cell_texts.specs.declared.cell.Shown.{Shown}
use Rattle.cell_texts.specs.declared.cell.Shown.TheVariants as shown

abbrev pub CellValue : Type 0
CellValue = Value

abbrev pub value_of : Shown → CellValue
value_of shown.Null = value.Null
value_of (shown.Truth truth) = value.Truth truth
value_of (shown.Number places count) = value.Number places count
value_of (shown.Text text) = value.Text text
value_of (shown.Day day) = value.Day day
value_of (shown.Set texts) = value.Set texts
value_of (shown.Amount places count currency) = value.Amount places currency count
value_of (shown.Position key count) = value.Position key count
value_of (shown.Inventory places held) = value.Inventory (record { places = places; held = held })
