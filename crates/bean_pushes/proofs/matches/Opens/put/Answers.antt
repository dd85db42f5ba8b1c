use Rattle.std.proofs.Common.{ap, ◌∙◌}
use Rattle.bean_pushes.specs.Matches.{looked_up, pushes_at}
use Rattle.bean_pushes.proofs.MatchFacts.{kept_at}
use Rattle.bean_pushes.proofs.matches.Opens.put.Goals as goal

pub returns : goal.returns
returns c = λ n.
    ap pushes_at (c.in_ok-insert.ensures.updates.0 (looked_up n))
    ∙ kept_at pushes_at c.of.result c.args.name.now n _ _ c.of.ensures
