use Rattle.std.proofs.Common.{subst, sym}
use Rattle.bean_lots.specs.Inventory.{IsInventory}
use Rattle.bean_lots.specs.Slots.{positions}
use Rattle.bean_lots.proofs.SlotFacts.{inventory}
use Rattle.query_holdings.proofs.holding.Holding.kept.Goals as goal

pub of-requires-clause-inventory : goal.of-requires-clause-inventory
of-requires-clause-inventory c =
    subst (λ es. IsInventory (positions es)) (sym c.as_run.ensures)
    (inventory c.self.inside.counts c.len-count.ensures.unique)
