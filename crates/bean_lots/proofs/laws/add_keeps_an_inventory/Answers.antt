use Rattle.bean_lots.proofs.InventoryFacts.{kept}
use Rattle.bean_lots.proofs.laws.add_keeps_an_inventory.Goals as goal

pub returns : goal.returns
returns c = kept
