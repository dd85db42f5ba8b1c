use Rattle.std.proofs.Common.{[], ap, unwrap_or, ◌∙◌}
use Rattle.bean_pushes.specs.Matches.{ahead_of, looked_up}
use Rattle.bean_pushes.proofs.MatchFacts.{kept_at}
use Rattle.bean_pushes.proofs.matches.Aheads.set.Goals as goal

pub returns : goal.returns
returns c = λ n.
    ap (λ o. unwrap_or o (ahead_of n [])) (c.in_ok-insert.ensures.updates.0 (looked_up n))
    ∙ kept_at (λ o. unwrap_or o (ahead_of n [])) c.of.result c.args.name.now n _ _ c.of.ensures
