use Rattle.std.proofs.Common.{ap, subst, sym, ◌∙◌}
use Rattle.bean_inventories.specs.Labelled.{is_lot_labelled}
use Rattle.bean_reductions.specs.After.{AreSmall, after}
use Rattle.bean_reductions.specs.Candidate.{candidates}
use Rattle.bean_reductions.proofs.ByLabelFacts.{same_candidates}
use Rattle.bean_reductions.proofs.ThoseFacts.{if_some, small}
use Rattle.bean_reductions.proofs.reduction.by_label.positions_labelled.Goals as goal

pub returns-in-Some-clause-all : goal.returns-in-Some-clause-all
returns-in-Some-clause-all c =
    let s = c.args.selector.now in
    let es = c.args.inventory.now in
    let k = c.in-Some.label in
    if_some _ _ c.positions_labelled.result (λ part is want taken.
    ap (λ l. candidates s want (after l taken)) is
    ∙ same_candidates s k want es taken c.in-Some.is)
    c.positions_labelled.ensures

pub returns-in-Some-clause-small : goal.returns-in-Some-clause-small
returns-in-Some-clause-small c =
    let s = c.args.selector.now in
    let es = c.args.inventory.now in
    if_some _ _ c.positions_labelled.result (λ part is n a.
    subst (AreSmall n) (sym is) (small (is_lot_labelled s.currency c.in-Some.label) n es a))
    c.positions_labelled.ensures
