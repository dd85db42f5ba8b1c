use Rattle.bean_pad.proofs.SlotFacts.{nothing_there, such}
use Rattle.bean_pad.proofs.counts.Counts.place_of.Goals as goal

pub returns-clause-some : goal.returns-clause-some
returns-clause-some c = such _ _ c.get_index_of.ensures.index

pub returns-clause-none : goal.returns-clause-none
returns-clause-none c = nothing_there _ _ c.get_index_of.ensures.found
