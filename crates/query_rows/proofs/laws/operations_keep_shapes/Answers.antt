use Rattle.query_rows.proofs.UnaryFacts.{unary_keeps}
use Rattle.query_rows.proofs.BinaryFacts.{binary_keeps}
use Rattle.query_rows.proofs.laws.operations_keep_shapes.Goals as goal

pub returns : goal.returns
returns c = record { unary = unary_keeps; binary = binary_keeps }
