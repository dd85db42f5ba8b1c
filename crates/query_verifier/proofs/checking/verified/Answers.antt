use Rattle.std.proofs.Common.{arith}
use Rattle.well_shaped.proofs.DepthFacts.{few_in_programs}
use Rattle.query_verifier.proofs.checking.verified.Goals as goal

pub overflow_cast-result : goal.overflow_cast-result
overflow_cast-result c =
    let few = few_in_programs c.args.parts.now c.in-Ok-depth_of.depth c.in-Ok-depth_of.ensures in
    omega (arith, few)
