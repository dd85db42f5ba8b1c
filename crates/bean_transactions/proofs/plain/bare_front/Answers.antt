use Rattle.std.proofs.Common.{[], arith, refl, ap, ◌∷◌, length, length-append, subst, ◌∙◌}
use Rattle.bean_transactions.specs.Plain.{IsAsWritten}
use Rattle.bean_transactions.proofs.BareFacts.{one_more_bare}
use Rattle.bean_transactions.proofs.plain.bare_front.Goals as goal

pub loop-posting-preserved : goal.loop-posting-preserved
loop-posting-preserved c =
    let ps = c.args.postings.now in
    let i = c.loop-posting.posting-index in
    let qs = c.loop-posting.posted.items in
    let q = c.posted_as_written.result in
    let more = c.in_ok-push.ensures.items in
    let many = c.loop-posting.invariant.0 in
    let one = ap length more ∙ length-append qs (q ∷ []) in (
      omega (arith, one, many),
      one_more_bare ps i c.posting-item.result q qs c.push.new.self.items (omega arith)
          c.posting-item.is many c.loop-posting.invariant.1 (c.if-not-is_bare.ensures refl)
          (subst (λ n. IsAsWritten n c.posting-item.result q)
          (c.len-index.ensures ∙ c.loop-posting.posted.ok.0) c.posted_as_written.ensures) more,
    )
