use Rattle.std.proofs.Common.{◌≡◌, ◌-◌, length}
use Rattle.bean_pushes.specs.Gifts.{with_items}
use Rattle.bean_pushes.proofs.GiftFacts.{left_from}
use Rattle.bean_pushes.proofs.gifts.give_each.Given as goal

abbrev pub invariant-loop-i : goal.invariant-loop-i
invariant-loop-i l =
    left_from l.i 0 l.tags l.entries l.directives.items
    ≡ with_items l.tags l.entries l.initial.directives.items

abbrev pub decreases-loop-i : goal.decreases-loop-i
decreases-loop-i l = length l.directives.items - l.i
