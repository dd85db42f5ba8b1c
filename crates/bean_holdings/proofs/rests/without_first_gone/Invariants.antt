use Rattle.std.proofs.Common.{length}
use Rattle.bean_reductions.specs.Rest.{HasAllLeft}
use Rattle.bean_holdings.proofs.rests.without_first_gone.Given as goal

abbrev pub invariant-loop-behind : goal.invariant-loop-behind
invariant-loop-behind l = HasAllLeft l.taken l.part l.initial.part

abbrev pub decreases-loop-behind : goal.decreases-loop-behind
decreases-loop-behind l = length l.part
