use Rattle.std.proofs.Common.{◌≡◌, map, take, vec_len}
use Rattle.table_printer.specs.Heading.{bare_heading}
use Rattle.table_printer.proofs.headings.bare_headings.Given as goal

abbrev pub invariant-loop-column : goal.invariant-loop-column
invariant-loop-column g l = record {
  bare : l.headings.items ≡ map bare_heading (take l.column (g.T.Rows.names l.table));
  len : vec_len l.headings ≡ l.column;
}
