-- That what is booked is small, and no more than a ledger has.
use Rattle.std.specs.Prelude.{◌≤◌, length}
use Rattle.limits.specs.declared.counts.TheConstants.{MOST_POSTINGS}
use Rattle.bean_replay.specs.Small.{IsSmallKept}
use Rattle.bean_replay.specs.declared.booking.Kept.{Kept}

pub record IsTameKept (k : Kept) : Type 0 where
  pub small : IsSmallKept k
  pub few : length k.postings ≤ MOST_POSTINGS
