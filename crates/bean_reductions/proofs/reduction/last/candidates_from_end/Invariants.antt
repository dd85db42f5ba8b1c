use Rattle.std.proofs.Common.{◌≡◌, ◌^◌, ◌-◌, ◌++◌, length, reverse, sum_by}
use Rattle.std.specs.Int.RustNames.{unsigned_abs}
use Rattle.bean_inventories.specs.Days.{RiseInDays}
use Rattle.bean_reductions.specs.After.{AreSmall, after}
use Rattle.bean_reductions.specs.Candidate.{candidates}
use Rattle.bean_reductions.specs.Take.{units_of}
use Rattle.bean_reductions.proofs.reduction.last.candidates_from_end.Given as goal

-- those of the others and those so far are all
abbrev pub invariant-loop-key : goal.invariant-loop-key
invariant-loop-key l = record {
  small : AreSmall (2 ^ 125) l.rest;
  days : RiseInDays l.rest;
  missing : l.missing ≡ unsigned_abs l.want - sum_by units_of l.found.items;
  told : candidates l.selector l.want (after l.rest l.taken) ++ reverse l.found.items
      ≡ candidates l.selector l.want (after l.initial.rest l.taken);
}

abbrev pub decreases-loop-key : goal.decreases-loop-key
decreases-loop-key l = length l.rest
