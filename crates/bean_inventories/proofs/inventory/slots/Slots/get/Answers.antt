use Rattle.std.proofs.Common.{◌≡◌, pos, unwrap_or, to_z, of_z, arith, sym, ap, ◌∙◌}
use Rattle.std.specs.Int.{w128}
use Rattle.std.proofs.lemmas.Int.{ints}
use Rattle.bean_lots.proofs.SlotFacts.{counted, inventory}
use Rattle.bean_inventories.proofs.inventory.slots.Slots.get.Goals as goal

pub returns-in-Some-clause-count : goal.returns-in-Some-clause-count
returns-in-Some-clause-count c =
    let count : to_z w128 (of_z w128 c.count_at.result) ≡ c.count_at.result = omega (arith, ints) in
    count ∙ ap (λ o. unwrap_or o (pos 0)) (sym c.count_at.ensures ∙ c.in-Some.ensures.value)
    ∙ sym (counted c.args.self.now.counts c.args.key.now c.place_of.ensures.unique)

pub returns-in-Some-clause-inventory : goal.returns-in-Some-clause-inventory
returns-in-Some-clause-inventory c =
    inventory c.args.self.now.counts c.place_of.ensures.unique

pub returns-in-None-clause-count : goal.returns-in-None-clause-count
returns-in-None-clause-count c =
    ap (λ o. unwrap_or o (pos 0)) (sym c.in-None.ensures.none)
    ∙ sym (counted c.args.self.now.counts c.args.key.now c.place_of.ensures.unique)

pub returns-in-None-clause-inventory : goal.returns-in-None-clause-inventory
returns-in-None-clause-inventory c =
    inventory c.args.self.now.counts c.place_of.ensures.unique
