use Rattle.query_rows.proofs.BoundFacts.{column_is_held}
use Rattle.query_rows.proofs.laws.columns_are_held.Goals as goal

pub returns : goal.returns
returns c = column_is_held
