use Rattle.std.proofs.Common.{◌≡◌, position, Some, take, drop, ap, sym, ◌∙◌}
use Rattle.std.specs.Map.{keys_of}
use Rattle.bean_lots.specs.Lot.{same_key}
use Rattle.bean_lots.specs.Slots.{positions}
use Rattle.bean_inventories.proofs.AtCostFacts.{none_of, one_of}
use Rattle.bean_inventories.proofs.inventory.slots.Slots.positions_of.Goals as goal

pub returns-in-Some : goal.returns-in-Some
returns-in-Some c =
    let es = c.args.self.now.counts in
    let k = c.args.key.now in
    let i = c.in-Some.index in
    let at : position (same_key k) (keys_of es) ≡ Some i =
    sym c.place_of.ensures.place ∙ c.in-Some.is in
    c.held_in.ensures ∙ ap (λ l. positions (take 1 (drop i l))) c.as_run-slots.ensures
    ∙ sym (one_of k es i at c.place_of.ensures.unique)

pub returns-in-None : goal.returns-in-None
returns-in-None c =
    c.new-in-None.ensures ∙ ap positions c.new.ensures
    ∙ sym (none_of c.args.key.now c.args.self.now.counts c.in-None.ensures.none)
