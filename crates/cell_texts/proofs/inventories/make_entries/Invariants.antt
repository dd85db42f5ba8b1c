use Rattle.std.proofs.Common.{◌≡◌, map, take}
use Rattle.std.specs.String.{string_bytes}
use Rattle.posting_table.specs.Decimals.{decimals_of}
use Rattle.theory.specs.Joined.{joined}
use Rattle.cell_texts.specs.CellText.{between_entries, text_of_entry}
use Rattle.cell_texts.proofs.inventories.make_entries.Given as goal

abbrev pub invariant-loop-place : goal.invariant-loop-place
invariant-loop-place l =
    string_bytes l.scratch.clean
    ≡ joined between_entries
    (map (text_of_entry (decimals_of l.display) l.places) (take l.place l.entries))
