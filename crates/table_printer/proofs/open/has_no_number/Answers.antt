use Rattle.std.proofs.Common.{sym, ◌∙◌}
use Rattle.table_printer.proofs.OpenFacts.{one_more_without}
use Rattle.table_printer.proofs.open.has_no_number.Goals as goal

pub loop-number-preserved : goal.loop-number-preserved
loop-number-preserved g c =
    one_more_without (g.T.Rows.rows c.args.table.now) c.args.column c.loop-number.number _
    c.cell.result c.loop-number.invariant c.row-row.ensures c.cell.ensures
    (sym c.is_number.ensures ∙ c.if-is_number.false)
