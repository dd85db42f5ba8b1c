use Rattle.std.proofs.Common.{◌≡◌, ◌-◌, sum_by, take}
use Rattle.bean_reductions.specs.Take.{units_of}
use Rattle.bean_reductions.proofs.reduction.queue.shortfall.Given as goal

abbrev pub invariant-loop-c : goal.invariant-loop-c
invariant-loop-c l = l.rest ≡ l.want - sum_by units_of (take l.c-index l.queue)
