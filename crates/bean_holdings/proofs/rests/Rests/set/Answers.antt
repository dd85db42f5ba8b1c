use Rattle.std.proofs.Common.{unwrap_or, ap, ◌∙◌}
use Rattle.std.specs.Str.{bytes_eq}
use Rattle.bean_holdings.proofs.InPlace.{put_or_before}
use Rattle.bean_holdings.proofs.rests.Rests.set.Goals as goal

pub returns-in-Ok : goal.returns-in-Ok
returns-in-Ok c = λ a held.
    ap (λ o. unwrap_or o held) (c.in-Ok.ensures.updates.0 a)
    ∙ put_or_before (bytes_eq c.args.account a) c.args.rest held _
