use Rattle.bql_meaning.proofs.PlannedFacts.{rank_as_asked}
use Rattle.bql_meaning.proofs.plans_rank_as_asked.Goals as goal

pub returns : goal.returns
returns c = rank_as_asked
