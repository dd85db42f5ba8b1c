use Rattle.std.proofs.Common.{◌≡◌, drop}
use Rattle.given_items.specs.Given.{given_at}
use Rattle.given_items.proofs.items.first_given.Given as goal

abbrev pub invariant-loop-i : goal.invariant-loop-i
invariant-loop-i g l = given_at l.place (drop l.i l.given) ≡ given_at l.place l.given
