use Rattle.bean_grammar.proofs.AppliedFacts.{when_some, when_none}
use Rattle.bean_postings.proofs.PostingFacts.{reads_with_cost, no_cost_posting, no_price_posting}
use Rattle.bean_postings.proofs.PostingFacts.{posting_is, more_than_posting}
use Rattle.bean_postings.proofs.posting_line.posting.Goals as goal

pub returns-in_default-2 : goal.returns-in_default-2
returns-in_default-2 c =
    no_cost_posting c.args.line _ _ _ _ _ (c.in-Some-posted.ensures c.args.line)
    (when_none _ _ _ c.in_default-2.is c.in_ok-found.ensures)

pub returns-in_default-3 : goal.returns-in_default-3
returns-in_default-3 c =
    let cost =
    reads_with_cost c.args.line _ _ _ _ _ _ _ (c.in-Some-posted.ensures c.args.line)
    (when_some _ _ _ _ c.in-Some-2.is c.in_ok-found.ensures) in
    no_price_posting _ _ _ _ _ _ _ cost (when_none _ _ _ c.in_default-3.is c.in_ok-found-2.ensures)

pub returns-in-Some-next : goal.returns-in-Some-next
returns-in-Some-next c =
    let cost =
    reads_with_cost c.args.line _ _ _ _ _ _ _ (c.in-Some-posted.ensures c.args.line)
    (when_some _ _ _ _ c.in-Some-2.is c.in_ok-found.ensures) in
    more_than_posting _ _ _ _ _ _ _ _ _ _ _ cost
    (when_some _ _ _ _ c.in-Some-3.is c.in_ok-found-2.ensures) c.in-Some-next.ensures.front

pub returns : goal.returns
returns c =
    let cost =
    reads_with_cost c.args.line _ _ _ _ _ _ _ (c.in-Some-posted.ensures c.args.line)
    (when_some _ _ _ _ c.in-Some-2.is c.in_ok-found.ensures) in
    rw c.in_ok-posting-in-None.ensures
    (posting_is _ _ _ _ _ _ _ _ _ cost
    (when_some _ _ _ _ c.in-Some-3.is c.in_ok-found-2.ensures) c.in-None.ensures.front)
