use Rattle.std.proofs.Common.{ap, ◌∙◌}
use Rattle.bean_lots.specs.Inventory.{has_lot}
use Rattle.bean_inventories.proofs.HeldFacts.{either_sign, first_sign, other_sign}
use Rattle.bean_inventories.proofs.inventory.Inventory.has_lot.Goals as goal

pub returns-then-signs-gt0 : goal.returns-then-signs-gt0
returns-then-signs-gt0 c =
    let cur = c.args.currency.now in
    first_sign _ _ _ _ _ (ap (λ s. s.long) c.signs_of-signs.ensures ∙ c.self.invariant.long cur)
    (ap (λ s. s.short) c.signs_of-signs.ensures ∙ c.self.invariant.short cur)
    (either_sign cur c.self.inside.slots.counts) c.if-signs-gt0.true
    ∙ ap (has_lot cur) c.self.view_is

pub returns-else-signs-gt0 : goal.returns-else-signs-gt0
returns-else-signs-gt0 c =
    let cur = c.args.currency.now in
    other_sign _ _ _ _ _ (ap (λ s. s.long) c.signs_of-signs.ensures ∙ c.self.invariant.long cur)
    (ap (λ s. s.short) c.signs_of-signs.ensures ∙ c.self.invariant.short cur)
    (either_sign cur c.self.inside.slots.counts) c.if-signs-gt0.false
    ∙ ap (has_lot cur) c.self.view_is
