use Rattle.std.proofs.Common.{◌≡◌, ◌^◌, length}
use Rattle.bean_inventories.specs.Days.{RiseInDays}
use Rattle.bean_reductions.specs.After.{AreSmall, after}
use Rattle.bean_reductions.specs.Candidate.{candidates}
use Rattle.bean_reductions.proofs.reduction.last.last_day.Given as goal

-- what was looked at has no candidate
abbrev pub invariant-loop-key : goal.invariant-loop-key
invariant-loop-key l = record {
  small : AreSmall (2 ^ 125) l.rest;
  days : RiseInDays l.rest;
  told : candidates l.selector l.want (after l.rest l.taken)
      ≡ candidates l.selector l.want (after l.initial.rest l.taken);
}

abbrev pub decreases-loop-key : goal.decreases-loop-key
decreases-loop-key l = length l.rest
