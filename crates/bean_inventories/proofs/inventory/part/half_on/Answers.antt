use Rattle.std.proofs.Common.{subst, sym, ◌∙◌, add-one}
use Rattle.bean_inventories.specs.Part.{HasAllSlots}
use Rattle.bean_inventories.proofs.PartFacts.{before_later, behind_earlier}
use Rattle.bean_inventories.proofs.inventory.part.half_on.Goals as goal

pub returns-in-Less-clause-half : goal.returns-in-Less-clause-half
returns-in-Less-clause-half c =
    subst (λ l. HasAllSlots c.args.day l c.args.slots.now)
    (sym c.split_at-behind.ensures.back)
    (rw add-one
    (behind_earlier c.args.day c.args.slots.now _ c.slot_at.result.0.now c.slot_at.result.1
    c.requires c.slot_at.ensures (sym c.side_of.ensures ∙ c.in-Less.is)))

pub returns-in-Greater-clause-half : goal.returns-in-Greater-clause-half
returns-in-Greater-clause-half c =
    subst (λ l. HasAllSlots c.args.day l c.args.slots.now)
    (sym c.split_at-before.ensures.front)
    (before_later c.args.day c.args.slots.now _ c.slot_at.result.0.now c.slot_at.result.1
    c.requires c.slot_at.ensures (sym c.side_of.ensures ∙ c.in-Greater.is))
