use Rattle.bean_interp.specs.declared.leg.Leg.TheVariants as leg
use Rattle.bean_interp.proofs.ScalesFacts.{one_more_weighed, too_wide_with}
use Rattle.bean_interp.proofs.scales.Scales.add_units.Goals as goal

pub returns-clause-weighed : goal.returns-clause-weighed
returns-clause-weighed c = λ w of.
    one_more_weighed c.args.self.now (record c.args.self.now { sums = c.add_units.new.self })
    c.add_units.result (leg.Whole w) (c.add_units.ensures.added w of)
    (c.add_units.ensures.fits w of)

pub returns-clause-wide : goal.returns-clause-wide
returns-clause-wide c = λ is w of legs later on.
    too_wide_with c.args.self.now legs (leg.Whole w) later on (c.add_units.ensures.wide is w of)
