use Rattle.std.proofs.Common.{to_z, of_z, subst, sym}
use Rattle.std.specs.Int.{w128}
use Rattle.bean_inventories.specs.Costs.{IsAsTold}
use Rattle.bean_inventories.proofs.CostFacts.{still}
use Rattle.bean_inventories.proofs.inventory.costs.CostDays.note.Goals as goal

pub returns-clause-others : goal.returns-clause-others
returns-clause-others c =
    let n = to_z w128 (of_z w128 c.args.lot.now.cost.count) in
    still c.args.self.now (record { by_count = c.insert.new.self }) n c.told_with-told.result
    (λ m. c.in_ok-insert.ensures.updates.0 m)
    (λ l h. c.told_with-told.ensures.others l (subst (λ o. IsAsTold o l) (sym c.day_at.ensures) h))
