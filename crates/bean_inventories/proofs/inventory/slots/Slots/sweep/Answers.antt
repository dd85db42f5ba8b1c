use Rattle.std.proofs.Common.{◌≡◌, length, List, [], ◌∷◌, refl, sym, ap, subst, ◌∙◌, arith}
use Rattle.std.specs.Map.{lookup}
use Rattle.bean_lots.specs.Lot.{same_key}
use Rattle.bean_lots.specs.Slots.{positions}
use Rattle.bean_inventories.specs.Kept.{AreDays}
use Rattle.bean_inventories.proofs.KeptFacts as kept
use Rattle.bean_lots.proofs.SweepFacts as swept
use Rattle.bean_inventories.proofs.inventory.slots.Slots.sweep.Goals as goal

none : {A : Type 0} (l : List A) → length l ≡ 0 → l ≡ []
none [] e = refl
none (x ∷ l) e = absurd (omega (arith, e))

pub returns-then-is_empty-clause-kept : goal.returns-then-is_empty-clause-kept
returns-then-is_empty-clause-kept c =
    let gone = none _ (c.if-is_empty.ensures.0 refl) in
    kept.swept_out c.args.self.now _ c.requires c.keep_full.ensures refl
    (subst (AreDays c.new-self.result) (sym gone) c.new-self.ensures)
    (λ cur. refl) refl

pub returns-then-is_empty-clause-same : goal.returns-then-is_empty-clause-same
returns-then-is_empty-clause-same c =
    ap positions c.keep_full.ensures ∙ swept.same c.args.self.now.counts

pub returns-then-is_empty-clause-absent : goal.returns-then-is_empty-clause-absent
returns-then-is_empty-clause-absent c = λ k h.
    ap (lookup (same_key k)) c.keep_full.ensures
    ∙ swept.absent (same_key k) c.args.self.now.counts h

pub returns-else-is_empty-clause-kept : goal.returns-else-is_empty-clause-kept
returns-else-is_empty-clause-kept c =
    kept.swept_out c.args.self.now _ c.requires c.keep_full.ensures refl
    (kept.same_days c.args.self.now c.keep_full.new.self c.requires c.keep_full.ensures)
    (λ cur. refl) refl

pub returns-else-is_empty-clause-same : goal.returns-else-is_empty-clause-same
returns-else-is_empty-clause-same c =
    ap positions c.keep_full.ensures ∙ swept.same c.args.self.now.counts

pub returns-else-is_empty-clause-absent : goal.returns-else-is_empty-clause-absent
returns-else-is_empty-clause-absent c = λ k h.
    ap (lookup (same_key k)) c.keep_full.ensures
    ∙ swept.absent (same_key k) c.args.self.now.counts h
