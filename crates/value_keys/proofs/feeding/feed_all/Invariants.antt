use Rattle.std.proofs.Common.{◌≡◌, fold, length}
use Rattle.value_hashes.specs.Fed as spec
use Rattle.value_keys.proofs.feeding.feed_all.Given as goal

abbrev pub invariant-loop-values : goal.invariant-loop-values
invariant-loop-values g l =
    fold g.H.Hasher.write l.fn.state (spec.values_fed l.fn.values)
    ≡ fold g.H.Hasher.write l.state (spec.values_fed l.values)

abbrev pub decreases-loop-values : goal.decreases-loop-values
decreases-loop-values g l = length l.values
