use Rattle.well_shaped.proofs.BelowFacts.{state_reflexive, state_transitive}
use Rattle.well_shaped.proofs.laws.state_shapes_are_ordered.Goals as goal

pub returns : goal.returns
returns c = record { reflexive = state_reflexive; transitive = state_transitive }
