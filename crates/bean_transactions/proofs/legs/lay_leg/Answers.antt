use Rattle.std.proofs.Common.{◌++◌, ◌∷◌, [], List, subst, OnOk}
use Rattle.bean_interp.specs.Residual.{AreInRange}
use Rattle.bean_interp.specs.Scales.{AreWeighed}
use Rattle.bean_interp.specs.declared.leg.Leg.{Leg}
use Rattle.bean_interp.specs.declared.leg.Leg.TheVariants as leg
use Rattle.bean_transactions.proofs.legs.lay_leg.Goals as goal

pub returns-clause-weighed : goal.returns-clause-weighed
returns-clause-weighed c =
    subst (λ w. OnOk c.add.result ((legs : List Leg) → AreWeighed c.args.scales.now legs
    → AreWeighed c.add.new.self (legs ++ leg.Whole w ∷ []))) c.whole.ensures
    c.add.ensures.weighed

pub returns-clause-wide : goal.returns-clause-wide
returns-clause-wide c = λ is legs later on.
    subst (λ w. ¬ AreInRange (legs ++ leg.Whole w ∷ later)) c.whole.ensures
    (c.add.ensures.wide is legs later on)
