use Rattle.std.proofs.Common.{◌++◌, ap, append_assoc, arith, reverse, subst, sym, take, ◌∙◌, ◌∷◌, []}
use Rattle.bean_holdings.proofs.HeldFacts.{taken_more}
use Rattle.bean_transactions.specs.Plain.{AreAsWritten, IsAsWritten}
use Rattle.bean_transactions.proofs.PlainFacts.{one_more_written}
use Rattle.bean_transactions.proofs.plain.as_written.Goals as goal

pub loop-posting-preserved : goal.loop-posting-preserved
loop-posting-preserved c = λ before are.
    let rest = c.args.rest.now in
    let i = c.loop-posting.posting-index in
    let p = c.posting-item.result in
    let so_far = before ++ take i rest in
    let more =
    ap (λ l. before ++ l) (taken_more rest i p (omega arith) c.posting-item.is)
    ∙ sym (append_assoc before (take i rest) (p ∷ [])) in
    subst (λ l. AreAsWritten (reverse l) c.push.new.self.items) (sym more)
    (one_more_written so_far p c.loop-posting.posted.items c.push.new.self.items
    c.posted_as_written.result (c.loop-posting.invariant before are)
    (subst (λ n. IsAsWritten n p c.posted_as_written.result)
    (c.len-index.ensures ∙ c.loop-posting.posted.ok.0) c.posted_as_written.ensures)
    c.in_ok-push.ensures.items)
