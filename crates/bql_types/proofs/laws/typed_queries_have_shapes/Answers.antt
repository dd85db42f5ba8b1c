use Rattle.bql_types.proofs.TypedFacts.{typed_have_shapes}
use Rattle.bql_types.proofs.laws.typed_queries_have_shapes.Goals as goal

pub returns : goal.returns
returns c = typed_have_shapes
