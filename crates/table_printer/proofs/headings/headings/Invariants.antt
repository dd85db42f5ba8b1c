use Rattle.std.proofs.Common.{◌≡◌, List, IfSome, take, vec_len}
use Rattle.posting_table.specs.Decimals.{decimals_of}
use Rattle.table_printer.specs.Heading.{with_row}
use Rattle.table_printer.specs.declared.headings.Heading.{Heading}
use Rattle.table_printer.proofs.HeadingFacts.{under}
use Rattle.table_printer.proofs.headings.headings.Given as goal

abbrev pub invariant-loop-number : goal.invariant-loop-number
invariant-loop-number g l = record {
  under : l.headings.items
      ≡ under (decimals_of l.display) 0 (take l.number (g.T.Rows.rows l.table))
      (take l.count (g.T.Rows.names l.table));
  len : vec_len l.headings ≡ l.count;
  before : IfSome l.before (λ row. (hs : List Heading)
      × (with_row (decimals_of l.display) hs (g.T.Rows.values row) ≡ l.headings.items));
}
