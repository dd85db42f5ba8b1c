use Rattle.verify_programs.proofs.LeastFacts.{state_above, state_least}
use Rattle.verify_programs.proofs.laws.joins_are_least.Goals as goal

pub returns : goal.returns
returns c = record { above = state_above; least = state_least }
