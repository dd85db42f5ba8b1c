use Rattle.std.proofs.Common.{◌≡◌, ◌++◌, take}
use Rattle.std.specs.List.{flat_map}
use Rattle.bean_book.specs.Rows.{rows_of_note}
use Rattle.bean_book.proofs.paddings.push_pad.Given as goal

abbrev pub invariant-loop-note : goal.invariant-loop-note
invariant-loop-note l = record {
  rows : l.ledger.rows
      ≡ l.initial.ledger.rows
      ++ flat_map (rows_of_note l.entry l.noted) (take l.note-index l.noted.notes);
  decimals : l.ledger.decimals ≡ l.initial.ledger.decimals;
}
