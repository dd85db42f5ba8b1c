use Rattle.std.proofs.Common.{◌∙◌, take, refl, sym, ap, subst, arith}
use Rattle.std.specs.Map.{lookup}
use Rattle.bean_lots.specs.Lot.{same_key}
use Rattle.bean_lots.specs.Slots.{positions}
use Rattle.bean_inventories.specs.Kept.{AreDays}
use Rattle.bean_inventories.proofs.TableFacts.{nothing_told}
use Rattle.bean_inventories.proofs.EndFacts.{none_full}
use Rattle.bean_inventories.proofs.KeptFacts as kept
use Rattle.bean_lots.proofs.SweepFacts.{same}
use Rattle.bean_inventories.proofs.inventory.slots.Slots.begin_anew.Goals as goal

pub returns-then-self-len-clause-kept : goal.returns-then-self-len-clause-kept
returns-then-self-len-clause-kept c =
    let s = c.args.self.now in
    kept.in_front s _ 0 c.requires c.truncate.ensures
    (none_full s.first s.counts c.requires.holes (c.if-self-len.true ∙ c.len.ensures.len))
    (omega arith) (omega arith)
    (subst (AreDays c.new-self.result) (sym c.truncate.ensures) c.new-self.ensures)
    (λ cur. refl) (nothing_told _ _ refl)

pub returns-then-self-len-clause-same : goal.returns-then-self-len-clause-same
returns-then-self-len-clause-same c =
    let s = c.args.self.now in
    ap positions c.truncate.ensures ∙ sym (same (take 0 s.counts))
    ∙ ap positions
    (none_full s.first s.counts c.requires.holes (c.if-self-len.true ∙ c.len.ensures.len))
    ∙ same s.counts

pub returns-then-self-len-clause-absent : goal.returns-then-self-len-clause-absent
returns-then-self-len-clause-absent c = λ k h. ap (lookup (same_key k)) c.truncate.ensures
