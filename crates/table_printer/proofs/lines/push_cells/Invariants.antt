use Rattle.std.proofs.Common.{◌≡◌, ◌++◌, List, ℕ, take, map}
use Rattle.std.specs.List.{flat_map}
use Rattle.posting_table.specs.Decimals.{decimals_of}
use Rattle.table_printer.specs.Heading.{width_of}
use Rattle.table_printer.specs.Layout.{before_gap}
use Rattle.table_printer.specs.Line.{placed_text}
use Rattle.table_printer.specs.Table.{pieces}
use Rattle.table_printer.proofs.lines.push_cells.Given as goal

abbrev pub invariant-loop-column : goal.invariant-loop-column
invariant-loop-column g l =
    (before : List ℕ) → l.initial.out.items ≡ before ++ flat_map before_gap
    (take l.from
    (pieces (map width_of l.headings)
    (map (placed_text (decimals_of l.display)) (g.L.Line.cells l.line))))
    → l.out.items ≡ before ++ flat_map before_gap
    (take l.column
    (pieces (map width_of l.headings)
    (map (placed_text (decimals_of l.display)) (g.L.Line.cells l.line))))
