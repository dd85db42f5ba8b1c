use Rattle.std.proofs.Common.{length}
use Rattle.bean_reductions.specs.Rest.{HasAllLeft}
use Rattle.bean_holdings.proofs.rests.without_last_gone.Given as goal

abbrev pub invariant-loop-before : goal.invariant-loop-before
invariant-loop-before l = HasAllLeft l.taken l.part l.initial.part

abbrev pub decreases-loop-before : goal.decreases-loop-before
decreases-loop-before l = length l.part
