use Rattle.std.proofs.Common.{subst, sym}
use Rattle.bean_inventories.specs.Kept.{AreInOrder}
use Rattle.bean_inventories.proofs.PartFacts.{in_order_behind}
use Rattle.bean_inventories.proofs.inventory.positions.Positions.next_held.Goals as goal

pub invariant_of-self : goal.invariant_of-self
invariant_of-self c = λ t.
    subst AreInOrder (sym c.split_at-rest.ensures.back)
    (in_order_behind _ c.self.inside.slots (c.self.invariant t))
