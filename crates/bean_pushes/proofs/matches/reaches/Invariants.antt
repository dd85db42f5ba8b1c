use Rattle.std.proofs.Common.{◌≡◌, ◌≤◌, length, drop, reverse}
use Rattle.bean_directives.specs.declared.undated.PushName.{PushName}
use Rattle.bean_pushes.specs.Matches.{ahead_in, ahead_of, reaches_of}
use Rattle.bean_pushes.proofs.matches.reaches.Given as goal

abbrev pub invariant-loop-i : goal.invariant-loop-i
invariant-loop-i l = record {
  are : (n : PushName) → ahead_in l.aheads n ≡ ahead_of n (drop l.i l.bounds);
  found : reverse l.found.items ≡ reaches_of (drop l.i l.bounds);
  inside : l.i ≤ length l.bounds;
}

abbrev pub decreases-loop-i : goal.decreases-loop-i
decreases-loop-i l = l.i
