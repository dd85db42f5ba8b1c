use Rattle.plain_machine.proofs.UpgradeFacts.{runs_alike}
use Rattle.well_shaped.proofs.UpgradeNameFacts.{names_its_columns}
use Rattle.well_shaped.proofs.laws.well_shaped_upgrades_run_alike.Goals as goal

pub returns : goal.returns
returns c = λ p depth fits is. runs_alike p (names_its_columns p fits is.shaped)
