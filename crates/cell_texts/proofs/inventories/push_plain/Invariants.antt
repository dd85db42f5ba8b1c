use Rattle.std.proofs.Common.{◌≡◌, ◌++◌, take, true}
use Rattle.std.specs.Int.{is_in_range}
use Rattle.std.specs.List.{list_all}
use Rattle.posting_table.specs.Decimals.{decimals_of}
use Rattle.theory.specs.Joined.{gap_before}
use Rattle.cell_texts.specs.CellText.{between_entries, entries_text}
use Rattle.cell_texts.proofs.inventories.push_plain.Given as goal

-- what was added ends with what stands behind the last so far
abbrev pub invariant-loop-place : goal.invariant-loop-place
invariant-loop-place l = record {
  text : l.out.items
      ≡ l.initial.out.items
      ++ (entries_text (decimals_of l.display) l.places (take l.place l.entries)
      ++ gap_before between_entries l.place);
  printable : list_all (is_in_range 32 126)
      (entries_text (decimals_of l.display) l.places (take l.place l.entries)) ≡ true;
}
