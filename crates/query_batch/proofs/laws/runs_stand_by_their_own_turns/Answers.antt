use Rattle.query_batch.proofs.OwnTurns.{own_turns}
use Rattle.query_batch.proofs.laws.runs_stand_by_their_own_turns.Goals as goal

pub returns : goal.returns
returns c = own_turns
