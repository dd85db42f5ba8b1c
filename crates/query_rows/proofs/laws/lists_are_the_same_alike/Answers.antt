use Rattle.query_rows.proofs.SameFacts.{lists_same}
use Rattle.query_rows.proofs.laws.lists_are_the_same_alike.Goals as goal

pub returns : goal.returns
returns c = lists_same
