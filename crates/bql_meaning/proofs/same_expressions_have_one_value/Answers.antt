use Rattle.bql_meaning.proofs.SameFacts.{same_are_bare, have_one_value}
use Rattle.bql_meaning.proofs.same_expressions_have_one_value.Goals as goal

pub returns : goal.returns
returns c = record { bare = same_are_bare; value = have_one_value }
