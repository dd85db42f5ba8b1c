use Rattle.bql_types.proofs.OneShapeFacts.{same_have_one_shape, same_have_causes_alike}
use Rattle.bql_types.proofs.laws.same_expressions_have_one_shape.Goals as goal

pub returns : goal.returns
returns c = record { shape = same_have_one_shape; causes = same_have_causes_alike }
