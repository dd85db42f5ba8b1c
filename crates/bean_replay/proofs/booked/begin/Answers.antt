use Rattle.std.proofs.Common.{ap, sym, ◌∙◌}
use Rattle.bean_replay.specs.Method as spec
use Rattle.bean_replay.proofs.booked.begin.Goals as goal

pub returns-clause-methods : goal.returns-clause-methods
returns-clause-methods c = λ a.
    let ds = c.directives-directives.ensures.directives in
    let otherwise = c.otherwise.ensures ∙ ap spec.otherwise c.methods.ensures in
    sym (c.in_ok-methods.ensures a ∙ (λ k. spec.method_of (otherwise k) (ds k) a))
