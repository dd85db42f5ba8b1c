use Rattle.bql_meaning.proofs.BoundlessFacts.{by_any_bounds}
use Rattle.bql_meaning.proofs.QueryBoundFacts.{rows_by_any_bounds}
use Rattle.bql_meaning.proofs.bounds_change_nothing.Goals as goal

pub returns : goal.returns
returns c = record { expressions = by_any_bounds; queries = rows_by_any_bounds }
