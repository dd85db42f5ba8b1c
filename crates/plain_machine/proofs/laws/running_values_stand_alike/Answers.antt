use Rattle.plain_machine.proofs.AlikeFacts.{stand_alike}
use Rattle.plain_machine.proofs.laws.running_values_stand_alike.Goals as goal

pub returns : goal.returns
returns c = stand_alike
