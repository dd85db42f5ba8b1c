use Rattle.std.proofs.Common.{◌++◌, ◌∙◌, arith, sym, subst, take}
use Rattle.bean_interp.specs.Completion.{gaps_from, gaps_of}
use Rattle.bean_interp.specs.Filling.{AreFilled, HaveNumbers}
use Rattle.bean_interp.specs.declared.leg.Leg.{Leg}
use Rattle.bean_interp.proofs.FillingFacts.{joined}
use Rattle.bean_interp.proofs.GapFacts.{gaps_next, leg_without}
use Rattle.bean_interp.proofs.scales.Scales.fill_all.Goals as goal

pub returns-in-Err-clause-none : goal.returns-in-Err-clause-none
returns-in-Err-clause-none c = λ is.
    let legs = c.args.legs.now in
    let i = c.loop-number.number in
    let leg = c.index-legs-number.result in
    leg_without legs legs i leg (omega arith)
    (subst (λ (l : Leg). ¬ HaveNumbers legs (gaps_of legs i l)) c.index-legs-number.is
    (c.in-Err.ensures.none legs c.requires is))

pub loop-number-preserved : goal.loop-number-preserved
loop-number-preserved c =
    let legs = c.args.legs.now in
    let i = c.loop-number.number in
    let leg = c.index-legs-number.result in
    let next =
    gaps_next legs legs i leg (omega arith)
    ∙ (λ k. gaps_from legs 0 (take i legs) ++ gaps_of legs i (sym c.index-legs-number.is k)) in
    subst (λ gs. AreFilled legs gs c.args.fills.now.items c.fill_leg.new.fills.items) (sym next)
    (joined legs _ _ c.args.fills.now.items c.loop-number.fills.items c.fill_leg.new.fills.items
    c.loop-number.invariant (c.in-Ok.ensures.filled legs c.requires))
