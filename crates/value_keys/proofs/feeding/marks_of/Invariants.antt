use Rattle.std.proofs.Common.{◌≡◌, ◌+◌, ◌%◌, ◌^◌, [], length}
use Rattle.value_hashes.specs.Fed.{marks_beside}
use Rattle.value_keys.proofs.MarkFacts.{marks_in}
use Rattle.value_keys.proofs.feeding.marks_of.Given as goal

abbrev pub invariant-loop-key : goal.invariant-loop-key
invariant-loop-key l =
    (l.marks + marks_in l.bag.places l.rest) % 2 ^ 64
    ≡ marks_beside l.bag.places [] l.bag.held % 2 ^ 64

abbrev pub decreases-loop-key : goal.decreases-loop-key
decreases-loop-key l = length l.rest
