use Rattle.std.proofs.Common.{subst}
use Rattle.bean_inventories.specs.Days.{RiseInDays}
use Rattle.bean_inventories.proofs.HeldFacts.{rising}
use Rattle.bean_inventories.proofs.inventory.Inventory.rises_in_days.Goals as goal

pub returns : goal.returns
returns c = λ t.
    subst RiseInDays c.self.view_is
    (rising c.self.inside.slots.counts (c.self.invariant.days t).0)
