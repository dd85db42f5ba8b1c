use Rattle.std.proofs.Common.{◌≡◌, ◌++◌, take, map}
use Rattle.std.specs.List.{flat_map}
use Rattle.posting_table.specs.Decimals.{decimals_of}
use Rattle.table_printer.specs.Growing.{grown}
use Rattle.table_printer.specs.Heading.{width_of}
use Rattle.table_printer.specs.Table.{line_of, text_of}
use Rattle.table_printer.proofs.table.push_rows.Given as goal

abbrev pub invariant-loop-number : goal.invariant-loop-number
invariant-loop-number g l =
    grown l.out ≡ grown l.initial.out
    ++ flat_map (line_of (map width_of l.headings))
    (map (map (text_of (decimals_of l.display))) (take l.number (g.T.Rows.rows l.table)))
