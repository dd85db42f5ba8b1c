use Rattle.std.proofs.Common.{subst, sym}
use Rattle.bean_inventories.specs.Kept.{AreInOrder}
use Rattle.bean_inventories.proofs.PartFacts.{in_order_behind}
use Rattle.bean_inventories.proofs.inventory.positions.without_first_holes.Goals as goal

pub returns-in-Some-clause-ordered : goal.returns-in-Some-clause-ordered
returns-in-Some-clause-ordered c = λ a.
    subst AreInOrder (sym c.split_at-held.ensures.back) (in_order_behind _ c.args.slots a)
