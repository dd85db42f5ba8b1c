use Rattle.std.proofs.Common.{arith, sym, ◌∙◌, ◌++◌, ◌∷◌, []}
use Rattle.bean_transactions.specs.Tried as spec
use Rattle.bean_transactions.proofs.OutcomeFacts.{mapped_more}
use Rattle.bean_transactions.proofs.legs.legs_of.Goals as goal

pub loop-line-preserved : goal.loop-line-preserved
loop-line-preserved c =
    let leg_of = spec.leg_of c.args.postings.now in
    let ls = c.args.lines.now in
    let i = c.loop-line.line-index in
    c.in_ok-push.ensures.items
    ∙ (λ k. c.loop-line.invariant k ++ c.leg_of.ensures k ∷ [])
    ∙ sym (mapped_more leg_of ls i c.line-item.result (omega arith) c.line-item.is)
