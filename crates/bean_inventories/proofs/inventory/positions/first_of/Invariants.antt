use Rattle.std.proofs.Common.{◌≡◌, drop}
use Rattle.bean_lots.specs.Slots.{positions}
use Rattle.bean_inventories.proofs.inventory.positions.first_of.Given as goal

abbrev pub invariant-loop-index : goal.invariant-loop-index
invariant-loop-index l = positions (drop l.index l.slots) ≡ positions l.slots
