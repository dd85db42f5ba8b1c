use Rattle.std.proofs.Common.{◌≡◌, length}
use Rattle.query_answer.specs.Places.{are_dense}
use Rattle.query_answer.proofs.places.are_dense.Given as goal

abbrev pub invariant-loop-spans : goal.invariant-loop-spans
invariant-loop-spans l = are_dense 0 l.width l.fn.spans ≡ are_dense l.at l.width l.spans

abbrev pub decreases-loop-spans : goal.decreases-loop-spans
decreases-loop-spans l = length l.spans
