use Rattle.stores.proofs.Held.{gives_what_it_holds}
use Rattle.stores.proofs.memory.gives_what_it_holds.Goals as goal

pub returns : goal.returns
returns c = gives_what_it_holds
