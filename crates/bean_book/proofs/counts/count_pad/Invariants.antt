use Rattle.std.proofs.Common.{◌≡◌, ◌≤◌, ◌+◌, length, take}
use Rattle.std.specs.List.{flat_map}
use Rattle.limits.specs.declared.counts.TheConstants.{MOST_POSTINGS}
use Rattle.bean_book.specs.Rows.{padding_entry, rows_of_note}
use Rattle.bean_book.specs.declared.details.Details.TheVariants.{All}
use Rattle.bean_book.proofs.counts.count_pad.Given as goal

abbrev pub invariant-loop-note : goal.invariant-loop-note
invariant-loop-note l = record {
  sum : l.sum ≡ l.count
      + length (flat_map (rows_of_note (padding_entry All l.noted) l.noted)
      (take l.note-index l.noted.notes));
  few : l.sum ≤ MOST_POSTINGS;
}
