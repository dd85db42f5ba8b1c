use Rattle.std.proofs.Common.{Ok, Err, subst, sym}
use Rattle.bean_interp.specs.Completion.{Completes}
use Rattle.bean_interp.proofs.LastFacts.{completed_last, lacking_last, stopped_last}
use Rattle.bean_interp.proofs.scales.Scales.fill_last.Goals as goal

pub returns-in-Ok : goal.returns-in-Ok
returns-in-Ok c = λ legs whole count on.
    let all = lacking_last legs in
    subst (λ fills. Completes all (Ok fills)) (sym c.new.ensures)
    (completed_last legs whole c.args.last count c.args.self.now c.in_ok-fills.fills.items
    c.fill_lacking.new.fills.items c.in_ok-fills.ensures.items on (c.in-Ok.ensures.filled all))

pub returns : goal.returns
returns c = λ legs whole count on.
    let all = lacking_last legs in
    subst (λ e. Completes all (Err e)) (sym c.completion_refusal.ensures)
    (stopped_last legs whole c.args.last count c.args.self.now c.in-Err.fault on
    (c.in-Err.ensures.none all))
