use Rattle.std.proofs.Common.{take}
use Rattle.bean_inventories.specs.Table.{AreNoted}
use Rattle.bean_inventories.proofs.inventory.table.told_by.Given as goal

abbrev pub invariant-loop-index : goal.invariant-loop-index
invariant-loop-index l = AreNoted l.table (take l.index l.slots)
