use Rattle.bean_postings.proofs.CostPartFacts.{reads_compound, none_compound, reads_no_compound}
use Rattle.bean_postings.proofs.cost_part.compound_if_due.Goals as goal

pub returns-in_default-clause-read : goal.returns-in_default-clause-read
returns-in_default-clause-read c = reads_no_compound _ c.in_default.ensures.front

pub returns-in_err-number-clause-read : goal.returns-in_err-number-clause-read
returns-in_err-number-clause-read c =
    rw c.from_residual.ensures
    (none_compound _ _ c.in-Some.ensures.front c.in_err-number.ensures.read)

pub returns-clause-read : goal.returns-clause-read
returns-clause-read c = reads_compound _ _ _ _ c.in-Some.ensures.front c.in_ok-number.ensures.read
