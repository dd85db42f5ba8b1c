use Rattle.std.proofs.Common.{◌≡◌}
use Rattle.value_hashes.specs.Fed as spec
use Rattle.value_keys.proofs.feeding.fewest.Given as goal

abbrev pub invariant-loop-places : goal.invariant-loop-places
invariant-loop-places l = spec.fewest l.fn.places l.fn.magnitude ≡ spec.fewest l.places l.magnitude

abbrev pub decreases-loop-places : goal.decreases-loop-places
decreases-loop-places l = l.places
