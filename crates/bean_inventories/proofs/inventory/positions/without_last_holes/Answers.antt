use Rattle.std.proofs.Common.{subst, sym}
use Rattle.bean_inventories.specs.Kept.{AreInOrder}
use Rattle.bean_inventories.proofs.EndFacts.{order_in_front}
use Rattle.bean_inventories.proofs.inventory.positions.without_last_holes.Goals as goal

pub returns-in-Some-clause-ordered : goal.returns-in-Some-clause-ordered
returns-in-Some-clause-ordered c = λ a.
    subst AreInOrder (sym c.split_at-held.ensures.front) (order_in_front _ c.args.slots a)
