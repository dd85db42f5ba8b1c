use Rattle.bq.proofs.Outcomes.{refuses_exactly}
use Rattle.bq.proofs.StatusFacts.{statuses_tell}
use Rattle.bq.proofs.run.refuses_exactly.Goals as goal

pub returns-clause-exactly : goal.returns-clause-exactly
returns-clause-exactly c = refuses_exactly

pub returns-clause-told : goal.returns-clause-told
returns-clause-told c = statuses_tell
