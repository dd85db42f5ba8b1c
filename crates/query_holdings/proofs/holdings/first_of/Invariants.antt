use Rattle.std.proofs.Common.{◌≡◌, drop}
use Rattle.bean_lots.specs.Slots.{positions}
use Rattle.query_holdings.proofs.holdings.first_of.Given as goal

abbrev pub invariant-loop-place : goal.invariant-loop-place
invariant-loop-place l = positions (drop l.place l.slots) ≡ positions l.slots
