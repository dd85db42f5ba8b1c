use Rattle.std.proofs.Common.{◌≡◌, ℕ, List, [], take, refl, sym, ap, subst, ◌∙◌}
use Rattle.std.proofs.Common.{arith}
use Rattle.bean_lots.specs.Slots.{positions}
use Rattle.bean_inventories.specs.Kept.{AreDays}
use Rattle.bean_inventories.proofs.TableFacts.{nothing_told}
use Rattle.bean_inventories.proofs.KeptFacts as kept
use Rattle.bean_lots.proofs.SweepFacts.{same}
use Rattle.bean_inventories.proofs.inventory.slots.Slots.drop_last_holes.Goals as goal

none_taken : {A : Type 0} (l : List A) (n : ℕ) → n ≡ 0 → take n l ≡ []
none_taken l n e = ap (λ m. take m l) e

pub returns-then-end-eq0-clause-kept : goal.returns-then-end-eq0-clause-kept
returns-then-end-eq0-clause-kept c =
    let es = c.args.self.now.counts in
    let end = c.end_of_held-end.result in
    let gone = c.truncate.ensures ∙ none_taken es end c.if-end-eq0.true in
    kept.in_front c.args.self.now _ end c.requires c.truncate.ensures
    c.end_of_held-end.ensures (omega (arith, c.min-self.ensures))
    (omega (arith, c.min-self.ensures))
    (subst (AreDays c.new-self.result) (sym gone) c.new-self.ensures)
    (λ cur. refl) (nothing_told _ _ refl)

pub returns-then-end-eq0-clause-same : goal.returns-then-end-eq0-clause-same
returns-then-end-eq0-clause-same c =
    let es = c.args.self.now.counts in
    ap positions c.truncate.ensures ∙ sym (same (take c.end_of_held-end.result es))
    ∙ ap positions c.end_of_held-end.ensures ∙ same es

pub returns-else-end-eq0-clause-kept : goal.returns-else-end-eq0-clause-kept
returns-else-end-eq0-clause-kept c =
    let end = c.end_of_held-end.result in
    kept.in_front c.args.self.now _ end c.requires c.truncate.ensures
    c.end_of_held-end.ensures (omega (arith, c.min-self.ensures))
    (omega (arith, c.min-self.ensures))
    (kept.front_days c.args.self.now end c.truncate.new.self c.requires
    c.truncate.ensures) (λ cur. refl)
    (kept.front_told c.args.self.now end c.truncate.new.self c.requires
    c.truncate.ensures)

pub returns-else-end-eq0-clause-same : goal.returns-else-end-eq0-clause-same
returns-else-end-eq0-clause-same c =
    let es = c.args.self.now.counts in
    ap positions c.truncate.ensures ∙ sym (same (take c.end_of_held-end.result es))
    ∙ ap positions c.end_of_held-end.ensures ∙ same es
