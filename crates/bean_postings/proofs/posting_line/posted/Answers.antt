use Rattle.bean_postings.proofs.PostingFacts.{reads_addressed, reads_posted, no_account_posting}
use Rattle.bean_postings.proofs.PostingFacts.{no_units_posting}
use Rattle.bean_postings.proofs.posting_line.posted.Goals as goal

pub returns-in_err-account : goal.returns-in_err-account
returns-in_err-account c =
    λ line. rw c.from_residual.ensures
    (no_account_posting line _ _ _ c.flag_if_due-flag.ensures c.in_err-account.ensures.front)

pub returns-in_err-units : goal.returns-in_err-units
returns-in_err-units c = λ line.
    let account =
    reads_addressed line _ _ _ _ _ c.flag_if_due-flag.ensures c.in_ok-account.ensures.front in
    rw c.from_residual-in_err-units.ensures
    (no_units_posting line _ _ _ _ account c.in_err-units.ensures)

pub returns : goal.returns
returns c = λ line.
    let account =
    reads_addressed line _ _ _ _ _ c.flag_if_due-flag.ensures c.in_ok-account.ensures.front in
    reads_posted line _ _ _ _ _ _ account c.in_ok-units.ensures
