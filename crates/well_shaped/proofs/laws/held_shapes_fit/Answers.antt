use Rattle.well_shaped.proofs.HeldFacts.{held_below}
use Rattle.well_shaped.proofs.laws.held_shapes_fit.Goals as goal

pub returns : goal.returns
returns c = held_below
