use Rattle.std.proofs.Common.{◌≡◌, length}
use Rattle.query_rows.specs.Same.{same_values}
use Rattle.value_keys.proofs.key.are_same.Given as goal

abbrev pub invariant-loop-a : goal.invariant-loop-a
invariant-loop-a l = same_values l.fn.a l.fn.b ≡ same_values l.a l.b

abbrev pub decreases-loop-a : goal.decreases-loop-a
decreases-loop-a l = length l.a
