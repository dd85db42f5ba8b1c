use Rattle.std.proofs.Common.{◌≡◌, Some, None, filter, to_z, of_z, arith, ap, subst, sym, ◌∙◌}
use Rattle.std.specs.Int.{w128}
use Rattle.std.proofs.lemmas.Int.{ints}
use Rattle.bean_inventories.specs.Costs.{day_at}
use Rattle.bean_inventories.specs.Table.{AreNoted, AreTold}
use Rattle.bean_lots.specs.Lot.{same_key}
use Rattle.bean_lots.specs.Slots.{positions}
use Rattle.bean_inventories.specs.declared.inventory.costs.LotDay.TheVariants.{On}
use Rattle.bean_lots.specs.declared.lot.Position.{Position}
use Rattle.bean_inventories.proofs.AtCostFacts.{found_nowhere, found_on}
use Rattle.bean_inventories.proofs.inventory.slots.Slots.positions_at.Goals as goal

pub returns-in-Some-On : goal.returns-in-Some-On
returns-in-Some-On c =
    let es = c.args.self.now.counts in
    let cost = c.args.cost.now in
    let day = c.in-Some-On.day in
    let t = c.deref.result.now in
    let noted : AreNoted t es =
    subst (λ x. AreNoted x es) (sym c.deref.ensures)
    (subst (λ o. AreTold o es) c.in-Some.is c.requires.told) in
    let wide : to_z w128 (of_z w128 cost.count) ≡ cost.count = omega (arith, ints, cost.small) in
    let on : day_at t.costs cost.count ≡ Some (On day) =
    sym (c.day_at.ensures ∙ ap (day_at t.costs) wide) ∙ c.in-Some-On.is
    ∙ ap Some c.in-Some-On.field-0-is in
    c.positions_of.ensures
    ∙ ap (λ k. filter (λ (e : Position). same_key k e.key) (positions es)) c.key_on.ensures
    ∙ found_on t c.args.currency.now cost day on es noted

pub returns-in-None : goal.returns-in-None
returns-in-None c =
    let es = c.args.self.now.counts in
    let cost = c.args.cost.now in
    let t = c.deref.result.now in
    let noted : AreNoted t es =
    subst (λ x. AreNoted x es) (sym c.deref.ensures)
    (subst (λ o. AreTold o es) c.in-Some.is c.requires.told) in
    let wide : to_z w128 (of_z w128 cost.count) ≡ cost.count = omega (arith, ints, cost.small) in
    let none : day_at t.costs cost.count ≡ None =
    sym (c.day_at.ensures ∙ ap (day_at t.costs) wide) ∙ c.in-None.is in
    c.new-in-None.ensures ∙ ap positions c.new.ensures
    ∙ sym (found_nowhere t c.args.currency.now cost none es noted)
