use Rattle.std.proofs.Common.{ap, subst, sym, ◌∙◌}
use Rattle.bean_inventories.specs.AtCost.{is_lot_at}
use Rattle.bean_reductions.specs.After.{AreSmall, after}
use Rattle.bean_reductions.specs.Candidate.{candidates}
use Rattle.bean_reductions.proofs.ByCostFacts.{same_candidates}
use Rattle.bean_reductions.proofs.ThoseFacts.{if_some, small}
use Rattle.bean_reductions.proofs.reduction.by_cost.positions_at_cost.Goals as goal

pub returns-in-Some-clause-all : goal.returns-in-Some-clause-all
returns-in-Some-clause-all c =
    let s = c.args.selector.now in
    let es = c.args.inventory.now in
    let k = c.in-Some.cost in
    if_some _ _ c.positions_at.result (λ part is want taken.
    ap (λ l. candidates s want (after l taken)) is
    ∙ same_candidates s k want es taken c.in-Some.is)
    c.positions_at.ensures

pub returns-in-Some-clause-small : goal.returns-in-Some-clause-small
returns-in-Some-clause-small c =
    let s = c.args.selector.now in
    let es = c.args.inventory.now in
    if_some _ _ c.positions_at.result (λ part is n a.
    subst (AreSmall n) (sym is) (small (is_lot_at s.currency c.in-Some.cost) n es a))
    c.positions_at.ensures
