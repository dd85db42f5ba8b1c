use Rattle.std.proofs.Common.{cond, unwrap_or, ap, ◌∙◌}
use Rattle.bean_holdings.specs.LotsLeft.{left_in, same_place, signs_in}
use Rattle.bean_holdings.proofs.InPlace.{put_or_before}
use Rattle.bean_holdings.proofs.lots_left.LotsLeft.set.Goals as goal

pub returns : goal.returns
returns c = λ a cur held.
    ap (λ o. unwrap_or o (signs_in cur held))
    (c.in_ok-insert.ensures.updates.0 (record { account = a; currency = cur }))
    ∙ put_or_before (same_place c.lend.result c.lend-2.result a cur) c.args.signs
    (signs_in cur held) _
    ∙ (λ i. cond (same_place (c.lend.ensures i) (c.lend-2.ensures i) a cur) c.args.signs
    (left_in c.args.self.now a cur held))
