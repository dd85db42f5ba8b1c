use Rattle.std.proofs.Common.{◌≡◌, ◌++◌}
use Rattle.std.specs.List.{AllByRecursion}
use Rattle.bean_replay.specs.Small.{IsSmallNoted}
use Rattle.bean_book.specs.Taken.{with_rows}
use Rattle.bean_book.proofs.ledger.put_pads.Given as goal

-- what is there, and what is left, are the whole
abbrev pub invariant-loop-noted : goal.invariant-loop-noted
invariant-loop-noted l = record {
  rows : l.ledger.rows ++ with_rows l.details l.passed l.rest l.left.rest.items l.noted-iterator.rest.items
      ≡ with_rows l.details 0 l.fn.ledger.rows l.fn.places.items l.fn.pads.items;
  decimals : l.ledger.decimals ≡ l.fn.ledger.decimals;
  small : AllByRecursion IsSmallNoted l.noted-iterator.rest.items;
}
