-- What lots have in their columns.
use Rattle.bean_lots.specs.declared.lot.Lot.{Lot}
use Rattle.query_terms.specs.declared.column.Column.{Column}
use Rattle.query_terms.specs.declared.column.Column.TheVariants as column
use Rattle.query_values.specs.declared.value.Value.{Value}
use Rattle.query_values.specs.declared.value.Value.TheVariants.{Null, Number, Text, Day}

-- a lot in one of its columns but that of its label; null in any other
abbrev pub lot_cell : Lot → Column → Value
lot_cell lot column.CostNumber = Number 8 lot.cost.count
lot_cell lot column.CostCurrency = Text lot.cost.currency
lot_cell lot column.CostDate = Day lot.day
lot_cell lot c = Null
