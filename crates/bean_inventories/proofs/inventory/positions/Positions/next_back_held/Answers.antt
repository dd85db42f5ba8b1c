use Rattle.std.proofs.Common.{subst, sym}
use Rattle.bean_inventories.specs.Kept.{AreInOrder}
use Rattle.bean_inventories.proofs.EndFacts.{order_in_front}
use Rattle.bean_inventories.proofs.inventory.positions.Positions.next_back_held.Goals as goal

pub invariant_of-self : goal.invariant_of-self
invariant_of-self c = λ t.
    subst AreInOrder (sym c.split_at-before.ensures.front)
    (order_in_front _ c.self.inside.slots (c.self.invariant t))
