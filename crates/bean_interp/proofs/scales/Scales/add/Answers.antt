use Rattle.bean_interp.proofs.ScalesFacts.{one_more_weighed, too_wide_with}
use Rattle.bean_interp.proofs.scales.Scales.add.Goals as goal

pub returns-clause-weighed : goal.returns-clause-weighed
returns-clause-weighed c =
    one_more_weighed c.args.self.now (record c.args.self.now { sums = c.add_leg.new.self })
    c.add_leg.result c.args.leg.now c.add_leg.ensures.added c.add_leg.ensures.fits

pub returns-clause-wide : goal.returns-clause-wide
returns-clause-wide c = λ is legs later on.
    too_wide_with c.args.self.now legs c.args.leg.now later on (c.add_leg.ensures.wide is)
