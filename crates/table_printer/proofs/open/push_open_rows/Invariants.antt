use Rattle.std.proofs.Common.{◌≡◌, ◌++◌, ◌∷◌, [], ℕ, fold, length, map, max, take}
use Rattle.std.specs.List.{flat_map}
use Rattle.posting_table.specs.Decimals.{decimals_of}
use Rattle.table_printer.specs.Growing.{grown}
use Rattle.table_printer.specs.Heading.{width_of}
use Rattle.table_printer.specs.Line.{IsKept}
use Rattle.table_printer.specs.Table.{line_of, text_of, width_at}
use Rattle.table_printer.proofs.open.push_open_rows.Given as goal

abbrev pub invariant-loop-number : goal.invariant-loop-number
invariant-loop-number g l = record {
  lines : (w : ℕ) → grown l.out ≡ grown l.initial.out
      ++ flat_map (line_of (map width_of l.headings ++ w ∷ []))
      (map (map (text_of (decimals_of l.display))) (take l.number (g.T.Rows.rows l.table)));
  most : l.most ≡ fold max l.least (map (width_at (length l.headings))
      (map (map (text_of (decimals_of l.display))) (take l.number (g.T.Rows.rows l.table))));
  kept : IsKept g.T.Rows.values (decimals_of l.display) (map width_of l.headings) l.front l.kept;
}
