use Rattle.std.proofs.Common.{◌≡◌, ℕ, List, take}
use Rattle.std.specs.List.{flat_map}
use Rattle.posting_table.specs.Decimals.{decimals_of}
use Rattle.bean_book.specs.Booked.{decimals_from}
use Rattle.bean_book.specs.Rows.{written_in}
use Rattle.bean_book.proofs.decimals.note_written.Given as goal

abbrev pub invariant-loop-posting : goal.invariant-loop-posting
invariant-loop-posting l = record {
  rows : l.ledger.rows ≡ l.initial.ledger.rows;
  decimals : (name : List ℕ)
      → decimals_of l.ledger.decimals name
      ≡ decimals_from (decimals_of l.initial.ledger.decimals name) name
      (flat_map written_in (take l.posting-index l.postings));
}
