use Rattle.query_values.proofs.OrderFacts.{values_total}
use Rattle.query_values.proofs.comparison.values_are_in_order.Goals as goal

pub returns : goal.returns
returns c = values_total
