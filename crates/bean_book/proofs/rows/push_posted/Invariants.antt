use Rattle.std.proofs.Common.{◌≡◌, ◌++◌, map, slice_get, take}
use Rattle.bean_book.specs.Rows.{items_in, row_of}
use Rattle.bean_book.proofs.rows.push_posted.Given as goal

abbrev pub invariant-loop-one : goal.invariant-loop-one
invariant-loop-one l = record {
  rows : l.ledger.rows
      ≡ l.initial.ledger.rows
      ++ map (row_of l.details l.entry l.kept.written.place.line l.kept.written.transaction.postings)
      (take l.one-index l.kept.postings);
  decimals : l.ledger.decimals ≡ l.initial.ledger.decimals;
  noted : l.noted.metadata ≡ items_in l.details (slice_get l.postings l.noted.written);
}
