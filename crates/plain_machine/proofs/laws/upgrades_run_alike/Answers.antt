use Rattle.plain_machine.proofs.UpgradeFacts.{runs_alike}
use Rattle.plain_machine.proofs.laws.upgrades_run_alike.Goals as goal

pub returns : goal.returns
returns c = runs_alike
