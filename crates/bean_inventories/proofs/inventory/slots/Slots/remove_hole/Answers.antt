use Rattle.std.proofs.Common.{refl, ap, ◌∙◌}
use Rattle.std.specs.Map.{lookup}
use Rattle.bean_lots.specs.Lot.{same_key}
use Rattle.bean_lots.specs.Slots.{positions}
use Rattle.bean_lots.proofs.SlotFacts.{gone_at, hole_out}
use Rattle.bean_lots.proofs.SlotFacts as slot
use Rattle.bean_inventories.proofs.KeptFacts as kept
use Rattle.bean_inventories.proofs.inventory.slots.Slots.remove_hole.Goals as goal

pub returns-clause-kept : goal.returns-clause-kept
returns-clause-kept c =
    kept.hole_out c.args.self.now _ c.args.key.now c.requires.kept c.requires.hole
    (c.remove.ensures.entries ∙ slot.out_at c.args.self.now.counts c.args.index c.args.key.now c.requires.at) c.saturating_sub-self.ensures refl refl refl

pub returns-clause-same : goal.returns-clause-same
returns-clause-same c =
    ap positions (c.remove.ensures.entries ∙ slot.out_at c.args.self.now.counts c.args.index c.args.key.now c.requires.at)
    ∙ hole_out c.args.self.now.counts c.args.key.now c.requires.hole

pub returns-clause-absent : goal.returns-clause-absent
returns-clause-absent c =
    let es = c.args.self.now.counts in
    let k = c.args.key.now in
    ap (lookup (same_key k)) (c.remove.ensures.entries ∙ slot.out_at es c.args.index k c.requires.at)
    ∙ gone_at es k c.remove.ensures.unique
