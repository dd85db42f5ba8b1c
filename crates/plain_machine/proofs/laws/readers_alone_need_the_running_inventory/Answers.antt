use Rattle.plain_machine.proofs.ReadingFacts.{readers_alike}
use Rattle.plain_machine.proofs.laws.readers_alone_need_the_running_inventory.Goals as goal

pub returns : goal.returns
returns c = readers_alike
