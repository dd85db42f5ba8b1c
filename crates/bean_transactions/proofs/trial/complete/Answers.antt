use Rattle.std.proofs.Common.{ap, subst, sym, ◌∙◌, Err}
use Rattle.bean_interp.specs.Completion.{Completes}
use Rattle.bean_transactions.specs.Filled.{AreFrom}
use Rattle.bean_transactions.specs.Tried as spec
use Rattle.bean_transactions.proofs.FilledFacts.{fills_in_order}
use Rattle.bean_transactions.proofs.trial.complete.Goals as goal

pub returns-clause-err : goal.returns-clause-err
returns-clause-err c =
    let legs = spec.legs_of c.args.postings.now c.args.lines.items in
    let is =
    c.deref-2.ensures.value ∙ c.in_ok-legs.ensures
    ∙ ap (spec.legs_of c.args.postings.now) c.deref.ensures.value in
    c.refusal_of.ensures legs (subst (λ legs. Completes legs (Err c.in-Err.fault)) is c.in-Err.ensures)

pub completed-requires : goal.completed-requires
completed-requires c =
    subst (AreFrom 0) (sym c.as_slice.ensures)
    (fills_in_order c.deref-2.result.now c.in-Ok.fills c.in-Ok.ensures.2.gaps_are)
