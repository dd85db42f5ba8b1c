use Rattle.std.proofs.Common.{◌≡◌, length, take}
use Rattle.posting_table.specs.Decimals.{decimals_of}
use Rattle.table_printer.specs.Heading.{with_row}
use Rattle.table_printer.proofs.headings.widen_all.Given as goal

abbrev pub invariant-loop-column : goal.invariant-loop-column
invariant-loop-column g l = record {
  headings : l.headings
      ≡ with_row (decimals_of l.display) l.initial.headings
      (take l.column (g.T.Rows.values l.row));
  len : length l.headings ≡ length l.initial.headings;
}
