use Rattle.std.proofs.Common.{[]}
use Rattle.bean_holdings.proofs.InPlace.{nothing_there, such}
use Rattle.bean_holdings.proofs.inventories.Inventories.place_from.Goals as goal

pub returns-clause-some : goal.returns-clause-some
returns-clause-some c = such _ _ c.get_index_of.ensures.index

pub returns-clause-none : goal.returns-clause-none
returns-clause-none c = nothing_there _ _ [] c.get_index_of.ensures.found
