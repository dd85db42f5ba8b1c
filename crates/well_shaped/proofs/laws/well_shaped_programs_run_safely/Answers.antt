use Rattle.well_shaped.proofs.SafetyFacts.{runs_safely}
use Rattle.well_shaped.proofs.laws.well_shaped_programs_run_safely.Goals as goal

pub returns : goal.returns
returns c = λ p depth rows has is few are. runs_safely p depth rows few are has is
