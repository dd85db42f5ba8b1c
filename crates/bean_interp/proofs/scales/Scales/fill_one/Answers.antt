use Rattle.bean_interp.proofs.FillingFacts.{one, no_fill}
use Rattle.bean_interp.proofs.scales.Scales.fill_one.Goals as goal

pub returns-in_ok-push-in-Ok-clause-filled : goal.returns-in_ok-push-in-Ok-clause-filled
returns-in_ok-push-in-Ok-clause-filled c = λ legs are.
    one legs c.args.leg c.args.currency.now c.in-Ok.fill c.args.fills.now.items
    c.push.new.self.items (c.in-Ok.ensures legs are) c.in_ok-push-in-Ok.ensures.items

pub returns-in-Err-clause-none : goal.returns-in-Err-clause-none
returns-in-Err-clause-none c =
    λ legs are is. no_fill legs c.args.leg c.args.currency.now c.in-Err.fault
    (c.in-Err.ensures legs are)
