use Rattle.std.proofs.Common.{◌≡◌, ◌≤◌, ◌++◌, ◌-◌, [], length, take, drop}
use Rattle.bean_directives.specs.declared.undated.PushName.{PushName}
use Rattle.bean_pushes.specs.Matches.{open_in}
use Rattle.bean_pushes.specs.Scope.{open_pushes, unmatched}
use Rattle.bean_pushes.proofs.scope.add_unmatched.Given as goal

abbrev pub invariant-loop-i : goal.invariant-loop-i
invariant-loop-i l = record {
  left : l.faults.items ++ unmatched (take l.i l.bounds) (drop l.i l.bounds)
      ≡ l.initial.faults.items ++ unmatched [] l.bounds;
  pushes : (n : PushName) → open_in l.opens n ≡ open_pushes n [] (take l.i l.bounds);
  inside : l.i ≤ length l.bounds;
}

abbrev pub decreases-loop-i : goal.decreases-loop-i
decreases-loop-i l = length l.bounds - l.i
