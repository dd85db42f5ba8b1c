use Rattle.bql_compiler.proofs.TypedFacts.{lowered_shape}
use Rattle.bql_compiler.proofs.laws.lowered_expressions_have_their_shapes.Goals as goal

pub returns : goal.returns
returns c = lowered_shape
