use Rattle.bean_replay.proofs.SmallBookedFacts.{booked_small}
use Rattle.bean_replay.proofs.sizes.booked_ledgers_are_small.Goals as goal

pub returns : goal.returns
returns c = booked_small
