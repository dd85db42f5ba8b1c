use Rattle.bean_lots.proofs.InventoryFacts.{pointwise_added}
use Rattle.bean_lots.proofs.laws.add_is_pointwise.Goals as goal

pub returns : goal.returns
returns c = pointwise_added
