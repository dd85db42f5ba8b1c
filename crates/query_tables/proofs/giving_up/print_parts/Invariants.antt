use Rattle.std.proofs.Common.{◌≡◌, ◌≤◌, ◌-◌, drop, length, take}
use Rattle.posting_table.specs.Decimals.{decimals_of}
use Rattle.table_printer.specs.Printing.{IsPrinted, columns_of}
use Rattle.query_tables.proofs.giving_up.print_parts.Given as goal

-- the rows up to the first of the next part are printed, and those from it on are as they were
abbrev pub invariant-loop-first : goal.invariant-loop-first
invariant-loop-first l = record {
  inside : l.first ≤ length l.initial.rows;
  count : length l.rows ≡ length l.initial.rows;
  behind : drop l.first l.rows ≡ drop l.first l.initial.rows;
  columns : columns_of l.printer ≡ columns_of l.initial.printer;
  printed : IsPrinted l.names l.initial.rows (take l.first l.initial.rows)
      (decimals_of l.display) l.printer;
}

abbrev pub decreases-loop-first : goal.decreases-loop-first
decreases-loop-first l = length l.initial.rows - l.first
