use Rattle.std.proofs.Common.{◌≡◌, ◌≤◌, ◌+◌, length, take}
use Rattle.std.specs.List.{flat_map}
use Rattle.limits.specs.declared.counts.TheConstants.{MOST_POSTINGS}
use Rattle.bean_book.specs.Rows.{rows_of_pad}
use Rattle.bean_book.specs.declared.details.Details.TheVariants.{All}
use Rattle.bean_book.proofs.counts.count_pads.Given as goal

abbrev pub invariant-loop-noted : goal.invariant-loop-noted
invariant-loop-noted l = record {
  sum : l.sum ≡ l.count + length (flat_map (rows_of_pad All) (take l.noted-index l.pads));
  few : l.sum ≤ MOST_POSTINGS;
}
