use Rattle.std.proofs.Common.{◌≡◌, ◌≤◌, take, length}
use Rattle.bean_lots.specs.Slots.{positions}
use Rattle.bean_inventories.proofs.inventory.positions.last_of.Given as goal

abbrev pub invariant-loop-index : goal.invariant-loop-index
invariant-loop-index l = record {
  inside : l.index ≤ length l.slots;
  same : positions (take l.index l.slots) ≡ positions l.slots;
}
