use Rattle.std.proofs.Common.{Some, cond, subst, sym, ◌∙◌}
use Rattle.bean_inventories.specs.Labels.{IsAsNamed, lot_at}
use Rattle.bean_lots.specs.Lot.{same_text}
use Rattle.bean_inventories.proofs.LabelFacts.{still}
use Rattle.bean_inventories.proofs.inventory.labels.LabelLots.note_label.Goals as goal

pub returns-clause-others : goal.returns-clause-others
returns-clause-others c =
    let old = c.args.self.now in
    let told = c.told_with-told.result in
    still old (record { by_label = c.insert.new.self }) c.args.label.now told
    (λ m.
    c.in_ok-insert.ensures.updates.0 m
    ∙ (λ i. cond (same_text (c.lend.ensures i) m) (Some told) (lot_at old m)))
    (λ l h. c.told_with-told.ensures.others l (subst (λ o. IsAsNamed o l) (sym c.lot_at.ensures) h))
