use Rattle.std.proofs.Common.{◌≡◌, ◌≤◌, ◌-◌, [], length, take, drop}
use Rattle.bean_directives.specs.declared.undated.PushName.{PushName}
use Rattle.bean_pushes.specs.Gifts.{with_gifts}
use Rattle.bean_pushes.specs.Matches.{open_in}
use Rattle.bean_pushes.specs.Scope.{open_pushes, with_pushes}
use Rattle.bean_pushes.proofs.scope.give_all.Given as goal

abbrev pub invariant-loop-i : goal.invariant-loop-i
invariant-loop-i l = record {
  left : with_pushes (take l.i l.bounds) (drop l.i l.bounds)
      (with_gifts l.gifts l.directives.items)
      ≡ with_pushes [] l.bounds l.initial.directives.items;
  pushes : (n : PushName) → open_in l.opens n ≡ open_pushes n [] (take l.i l.bounds);
  inside : l.i ≤ length l.bounds;
}

abbrev pub decreases-loop-i : goal.decreases-loop-i
decreases-loop-i l = length l.bounds - l.i
