use Rattle.bean_postings.proofs.CostFacts.{reads_cost_in, none_cost_in}
use Rattle.bean_postings.proofs.cost.cost_in.Goals as goal

pub returns-in_default : goal.returns-in_default
returns-in_default c = none_cost_in _ _ c.in_default.ensures.read

pub returns : goal.returns
returns c = rw c.in_ok-cost.ensures (reads_cost_in _ _ _ _ c.in-Some.ensures.read)
