use Rattle.std.proofs.Common.{length, drop, subst, sym, ◌∙◌, ap, ◌≤◌}
use Rattle.bean_lots.specs.Slots.{positions}
use Rattle.bean_inventories.specs.Kept.{AreInOrder}
use Rattle.bean_inventories.proofs.PartFacts.{in_order_behind}
use Rattle.bean_lots.proofs.SlotFacts.{holes_few, holes_passed}
use Rattle.bean_inventories.proofs.inventory.slots.Slots.positions.Goals as goal

pub split_at-held-requires : goal.split_at-held-requires
split_at-held-requires c =
    let s = c.args.self.now in
    subst (λ l. s.first ≤ length l) (sym c.as_run.ensures)
    (holes_few s.first s.counts c.requires.holes)

pub new-requires : goal.new-requires
new-requires c = λ t.
    let s = c.args.self.now in
    subst AreInOrder
    (sym (c.split_at-held.ensures.back ∙ ap (drop s.first) c.as_run.ensures))
    (in_order_behind s.first s.counts (c.requires.days t).0)

pub returns : goal.returns
returns c =
    let s = c.args.self.now in
    c.new.ensures ∙ ap positions c.split_at-held.ensures.back
    ∙ ap (λ l. positions (drop s.first l)) c.as_run.ensures
    ∙ holes_passed s.first s.counts c.requires.holes
