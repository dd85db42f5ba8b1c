use Rattle.std.proofs.Common.{arith, ◌+◌, take, sym, ◌∙◌, ap, subst}
use Rattle.bean_interp.specs.Sums.{Fits, table, with_leg}
use Rattle.bean_interp.specs.Residual.{weighed}
use Rattle.bean_interp.proofs.WeighingFacts.{IsWeighed, weighs_on, no_range}
use Rattle.bean_interp.proofs.sums.Sums.weigh.Goals as goal

pub loop-leg-preserved : goal.loop-leg-preserved
loop-leg-preserved c =
    let legs = c.args.legs.now in
    let i = c.loop-leg.leg-index in
    let leg = c.leg-item.result in
    let on = weighs_on c.loop-leg.self legs i leg (omega arith) c.loop-leg.invariant
    (subst (Fits c.loop-leg.self) c.leg-item.is c.in-Ok.ensures.fits) in
    subst (λ es. IsWeighed es (take (i + 1) legs))
    (sym (c.in-Ok.ensures.added ∙ ap (with_leg c.loop-leg.self) c.leg-item.is)) on

pub returns-in-Err-clause-wide : goal.returns-in-Err-clause-wide
returns-in-Err-clause-wide c = λ is.
    let legs = c.args.legs.now in
    let i = c.loop-leg.leg-index in
    let leg = c.leg-item.result in
    no_range legs i leg (omega arith)
    (subst (λ l. ¬ Fits (table (weighed (take i legs))) l) c.leg-item.is
    (subst (λ es. ¬ Fits es leg) c.loop-leg.invariant.table_is (c.in-Err.ensures.wide is)))
