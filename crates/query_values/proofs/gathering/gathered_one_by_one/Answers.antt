use Rattle.query_values.proofs.AggregateFacts.{gathered_more}
use Rattle.query_values.proofs.gathering.gathered_one_by_one.Goals as goal

pub returns : goal.returns
returns c = gathered_more
