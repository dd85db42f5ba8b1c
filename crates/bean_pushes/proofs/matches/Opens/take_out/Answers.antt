use Rattle.std.proofs.Common.{ap, ◌∙◌}
use Rattle.bean_pushes.specs.Matches.{looked_up, pushes_at}
use Rattle.bean_pushes.proofs.MatchFacts.{kept_at}
use Rattle.bean_pushes.proofs.matches.Opens.take_out.Goals as goal

pub returns-in-Some-clause-left : goal.returns-in-Some-clause-left
returns-in-Some-clause-left c = λ n.
    ap pushes_at (c.swap_remove.ensures.updates.0 (looked_up n))
    ∙ kept_at pushes_at c.of.result c.args.name.now n _ _ c.of.ensures
