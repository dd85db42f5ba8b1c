use Rattle.std.proofs.Common.{◌∙◌, ◌++◌, ◌∷◌, [], pos, ap}
use Rattle.std.specs.Map.{lookup}
use Rattle.bean_lots.specs.Lot.{same_key}
use Rattle.bean_lots.specs.Slots.{positions}
use Rattle.bean_lots.proofs.SlotFacts.{hole_more}
use Rattle.bean_inventories.proofs.KeptFacts as kept
use Rattle.bean_inventories.proofs.inventory.slots.Slots.push_hole.Goals as goal

pub push-requires : goal.push-requires
push-requires c = record {
  absent =
      ap (λ q. lookup (same_key q) c.note_lot.new.self.counts) c.lend.ensures
      ∙ ap (lookup (same_key c.args.key.now)) c.note_lot.ensures.counts ∙ c.requires.absent;
}

pub returns-clause-kept : goal.returns-clause-kept
returns-clause-kept c =
    let u = c.note_lot.new.self in
    kept.pushed u _ c.args.key.now c.note_lot.ensures.kept
    (c.in_ok-push.ensures.ok ∙ ap (λ q. u.counts ++ (q, pos 0) ∷ []) c.lend.ensures)
    (λ i. u.first) (c.with-days.ensures u.counts (pos 0)) (λ i. u.lots) c.in_ok-note_lot.ensures.own

pub returns-clause-same : goal.returns-clause-same
returns-clause-same c =
    let k = c.args.key.now in
    ap positions
    (c.in_ok-push.ensures.ok
    ∙ ap (λ q. c.note_lot.new.self.counts ++ (q, pos 0) ∷ []) c.lend.ensures
    ∙ ap (λ l. l ++ (k, pos 0) ∷ []) c.note_lot.ensures.counts)
    ∙ hole_more c.args.self.now.counts k

pub returns-clause-ok : goal.returns-clause-ok
returns-clause-ok c =
    c.in_ok-push.ensures.ok
    ∙ ap (λ q. c.note_lot.new.self.counts ++ (q, pos 0) ∷ []) c.lend.ensures
    ∙ ap (λ l. l ++ (c.args.key.now, pos 0) ∷ []) c.note_lot.ensures.counts
