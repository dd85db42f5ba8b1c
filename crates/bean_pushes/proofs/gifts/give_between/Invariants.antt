use Rattle.std.proofs.Common.{◌≡◌, ◌-◌}
use Rattle.bean_pushes.specs.Scope.{given_between}
use Rattle.bean_pushes.proofs.gifts.give_between.Given as goal

abbrev pub invariant-loop-i : goal.invariant-loop-i
invariant-loop-i l =
    given_between l.pushed l.i l.to 0 l.directives.items
    ≡ given_between l.pushed l.from l.to 0 l.initial.directives.items

abbrev pub decreases-loop-i : goal.decreases-loop-i
decreases-loop-i l = l.to - l.i
