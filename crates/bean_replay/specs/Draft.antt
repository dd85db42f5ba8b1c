-- What is booked of a directive, while it isn't known what comes of a pad.
use Rattle.bean_replay.specs.declared.booking.Kept.{Kept}

-- a transaction that is kept, or the place of a pad
pub data Draft : Type 0 where
  Transaction : Kept → Draft
  Pad : Draft
