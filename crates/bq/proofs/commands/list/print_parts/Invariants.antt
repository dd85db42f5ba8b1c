use Rattle.std.proofs.Common.{◌≡◌, ◌++◌, List, length, map}
use Rattle.bq.specs.List.{headers, shown_row}
use Rattle.posting_table.specs.Decimals.{decimals_of}
use Rattle.posting_table.specs.declared.row.Row.{Row}
use Rattle.query_values.specs.declared.value.Value.{Value}
use Rattle.table_printer.specs.Printing.{IsPrinted, columns_of}
use Rattle.bq.proofs.commands.list.print_parts.Given as goal

-- the rows of the parts so far are printed behind those before
abbrev pub invariant-loop-part : goal.invariant-loop-part
invariant-loop-part l = record {
  columns : columns_of l.printer ≡ 4;
  so_far : (so : List Row) × (l.initial.parts ≡ so ++ l.parts)
      × ((all : List (List Value)) (done : List Row)
      → IsPrinted headers all (map shown_row done) (decimals_of l.display) l.initial.printer
      → IsPrinted headers all (map shown_row (done ++ so)) (decimals_of l.display) l.printer);
}

-- each part has a row
abbrev pub decreases-loop-part : goal.decreases-loop-part
decreases-loop-part l = length l.parts
