use Rattle.std.proofs.Common.{Some, ap, ◌∙◌}
use Rattle.table_printer.proofs.InColumn.{cell_seen}
use Rattle.table_printer.proofs.answers.cell_of.Goals as goal

pub returns : goal.returns
returns c =
    ap Some c.kept.ensures
    ∙ cell_seen c.args.values.now c.args.column c.index-values-column.result c.requires c.index-values-column.is
