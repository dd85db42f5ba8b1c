use Rattle.std.proofs.Common.{[]}
use Rattle.bql_code.proofs.PoolFacts.{have_what_is_used}
use Rattle.bql_code.proofs.pools_have_what_is_used.Goals as goal

pub returns : goal.returns
returns c = have_what_is_used []
