use Rattle.bql_plan.proofs.WholeFacts.{typed_are_whole}
use Rattle.bql_plan.proofs.laws.typed_queries_have_whole_shapes.Goals as goal

pub returns : goal.returns
returns c = typed_are_whole
