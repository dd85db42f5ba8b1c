use Rattle.bean_inventories.proofs.PartFacts.{narrower, whole}
use Rattle.bean_inventories.proofs.inventory.part.part_on.Goals as goal

pub loop-half-init : goal.loop-half-init
loop-half-init c = whole c.args.day c.args.slots c.requires

pub loop-half-preserved : goal.loop-half-preserved
loop-half-preserved c =
    narrower c.args.day c.in-Some.half c.loop-half.part c.args.slots c.in-Some.ensures.half
    c.loop-half.invariant
