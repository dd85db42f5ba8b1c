use Rattle.std.proofs.Common.{◌≡◌, ◌++◌, length}
use Rattle.bean_reductions.specs.Candidate.{candidates}
use Rattle.bean_reductions.proofs.reduction.queue.candidates.Given as goal

-- those so far and those of the rest are all
abbrev pub invariant-loop-key : goal.invariant-loop-key
invariant-loop-key l =
    l.found.items ++ candidates l.selector l.want l.rest
    ≡ candidates l.selector l.want l.inventory

abbrev pub decreases-loop-key : goal.decreases-loop-key
decreases-loop-key l = length l.rest
