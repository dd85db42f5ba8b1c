use Rattle.std.proofs.Common.{◌≡◌, ◌++◌, length}
use Rattle.given_items.specs.Given.{given_at}
use Rattle.given_items.proofs.with_given.add_given.Given as goal

abbrev pub invariant-loop-item : goal.invariant-loop-item
invariant-loop-item g l = l.own ++ l.rest ≡ l.initial.own ++ given_at l.given.place l.given.items

abbrev pub decreases-loop-item : goal.decreases-loop-item
decreases-loop-item g l = length l.rest
