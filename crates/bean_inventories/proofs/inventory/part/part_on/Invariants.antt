use Rattle.std.proofs.Common.{length}
use Rattle.bean_inventories.specs.Part.{HasAllSlots}
use Rattle.bean_inventories.proofs.inventory.part.part_on.Given as goal

abbrev pub invariant-loop-half : goal.invariant-loop-half
invariant-loop-half l = HasAllSlots l.day l.part l.initial.part

abbrev pub decreases-loop-half : goal.decreases-loop-half
decreases-loop-half l = length l.part
