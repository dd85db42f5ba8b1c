use Rattle.std.proofs.Common.{subst}
use Rattle.bean_lots.specs.Inventory.{IsInventory}
use Rattle.bean_lots.proofs.SlotFacts.{inventory}
use Rattle.query_holdings.proofs.holding.Holding.positions.Goals as goal

pub returns-clause-inventory : goal.returns-clause-inventory
returns-clause-inventory c =
    subst IsInventory c.self.view_is (inventory c.self.inside.counts c.len-count.ensures.unique)
