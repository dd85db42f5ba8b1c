use Rattle.std.proofs.Common.{◌≡◌, Some, None, filter, ap, subst, sym, ◌∙◌}
use Rattle.bean_inventories.specs.Labels.{lot_at}
use Rattle.bean_inventories.specs.Table.{AreNoted, AreTold}
use Rattle.bean_lots.specs.Lot.{same_key}
use Rattle.bean_lots.specs.Slots.{positions}
use Rattle.bean_inventories.specs.declared.inventory.labels.LabelLot.TheVariants.{At}
use Rattle.bean_lots.specs.declared.lot.Position.{Position}
use Rattle.bean_inventories.proofs.LabelledFacts.{found_labelled, found_unlabelled}
use Rattle.bean_inventories.proofs.inventory.slots.Slots.positions_labelled.Goals as goal

pub returns-in-Some-At : goal.returns-in-Some-At
returns-in-Some-At c =
    let es = c.args.self.now.counts in
    let label = c.args.label.now in
    let cost = c.in-Some-At.cost in
    let day = c.in-Some-At.day in
    let t = c.deref.result.now in
    let noted : AreNoted t es =
    subst (λ x. AreNoted x es) (sym c.deref.ensures)
    (subst (λ o. AreTold o es) c.in-Some.is c.requires.told) in
    let at : lot_at t.labels label ≡ Some (At cost day) =
    sym c.lot_at.ensures ∙ c.in-Some-At.is ∙ ap Some c.in-Some-At.field-0-is in
    c.positions_of.ensures
    ∙ ap (λ k. filter (λ (e : Position). same_key k e.key) (positions es)) c.key_of.ensures
    ∙ found_labelled t c.args.currency.now label cost day at es noted

pub returns-in-None : goal.returns-in-None
returns-in-None c =
    let es = c.args.self.now.counts in
    let label = c.args.label.now in
    let t = c.deref.result.now in
    let noted : AreNoted t es =
    subst (λ x. AreNoted x es) (sym c.deref.ensures)
    (subst (λ o. AreTold o es) c.in-Some.is c.requires.told) in
    let none : lot_at t.labels label ≡ None = sym c.lot_at.ensures ∙ c.in-None.is in
    c.new-in-None.ensures ∙ ap positions c.new.ensures
    ∙ sym (found_unlabelled t c.args.currency.now label none es noted)
