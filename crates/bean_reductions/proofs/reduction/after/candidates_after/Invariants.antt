use Rattle.std.proofs.Common.{◌≡◌, ◌≤◌, ◌^◌, ◌++◌, length, sum_by}
use Rattle.bean_reductions.specs.After.{AreSmall, after}
use Rattle.bean_reductions.specs.Candidate.{candidates}
use Rattle.bean_reductions.specs.Take.{units_of}
use Rattle.bean_reductions.proofs.reduction.after.candidates_after.Given as goal

-- those so far and those of the rest are all
abbrev pub invariant-loop-key : goal.invariant-loop-key
invariant-loop-key l = record {
  small : AreSmall (2 ^ 125) l.rest;
  units : l.units ≤ sum_by units_of l.found.items;
  told : l.found.items ++ candidates l.selector l.want (after l.rest l.taken)
      ≡ candidates l.selector l.want (after l.initial.rest l.taken);
}

abbrev pub decreases-loop-key : goal.decreases-loop-key
decreases-loop-key l = length l.rest
