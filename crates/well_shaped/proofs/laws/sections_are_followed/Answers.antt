use Rattle.well_shaped.proofs.PlaceFacts.{goes_on}
use Rattle.well_shaped.proofs.laws.sections_are_followed.Goals as goal

pub returns : goal.returns
returns c = goes_on
