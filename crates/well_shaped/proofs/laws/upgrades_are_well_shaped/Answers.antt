use Rattle.well_shaped.proofs.UpgradeShapeFacts.{is_depth}
use Rattle.well_shaped.proofs.laws.upgrades_are_well_shaped.Goals as goal

pub returns : goal.returns
returns c = is_depth
