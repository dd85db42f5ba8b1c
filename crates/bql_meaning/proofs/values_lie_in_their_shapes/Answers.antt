use Rattle.bql_meaning.proofs.PassingFacts.{passing_are}
use Rattle.bql_meaning.proofs.ValueFacts.{values_lie}
use Rattle.bql_meaning.proofs.values_lie_in_their_shapes.Goals as goal

pub returns : goal.returns
returns c = record { values = values_lie; passing = passing_are }
