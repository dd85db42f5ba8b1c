use Rattle.std.proofs.Common.{Some, subst, sym}
use Rattle.bean_inventories.specs.Part.{HasAllOf, HasAllSlots}
use Rattle.bean_lots.specs.Slots.{positions}
use Rattle.bean_inventories.proofs.PartFacts.{all_positions, positions_of}
use Rattle.bean_inventories.proofs.inventory.positions.Positions.about.Goals as goal

pub returns-in_default : goal.returns-in_default
returns-in_default c =
    subst (λ l. HasAllOf c.args.day l c.args.self.now) (sym c.lend.ensures)
    (all_positions c.args.day c.args.self.now)

pub returns-then-not-self : goal.returns-then-not-self
returns-then-not-self c =
    subst (λ l. HasAllOf c.args.day l c.args.self.now) (sym c.lend-then-not-self.ensures)
    (all_positions c.args.day c.args.self.now)

pub returns : goal.returns
returns c =
    let day = c.in-Some.day in
    subst (λ o. HasAllOf o c.new.result c.args.self.now) (sym c.in-Some.is)
    (subst (λ l. HasAllOf (Some day) l c.args.self.now) (sym c.new.ensures)
    (subst (HasAllOf (Some day) (positions c.part_on.result)) c.self.view_is
    (positions_of day c.part_on.result c.self.inside.slots
    (subst (HasAllSlots day c.part_on.result) c.split_at-slots.ensures.back c.part_on.ensures))))
