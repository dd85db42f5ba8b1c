use Rattle.bean_interp.proofs.EvenedFacts.{completed_is_evened}
use Rattle.bean_interp.proofs.scales.completion_balances.Goals as goal

pub returns : goal.returns
returns c = completed_is_evened
