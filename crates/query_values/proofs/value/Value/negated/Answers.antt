use Rattle.std.proofs.Common.{IsTrue, subst}
use Rattle.query_bags.proofs.SumFacts.{both}
use Rattle.query_values.specs.Arithmetic.{negative_of}
use Rattle.query_values.specs.Held.{is_held}
use Rattle.query_values.proofs.TotalFacts.{negatable}
use Rattle.query_values.proofs.value.Value.negated.Goals as goal

pub negated-requires : goal.negated-requires
negated-requires c =
    let held = subst (λ x. IsTrue (is_held (negative_of x))) c.in-Inventory.is c.requires in
    negatable c.in-Inventory.bag.held (both _ _ held).1
