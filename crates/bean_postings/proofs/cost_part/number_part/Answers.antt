use Rattle.bean_postings.proofs.CostPartFacts.{reads_number_part, none_number_part}
use Rattle.bean_postings.proofs.CostPartFacts.{none_compound_part, empty_number_part}
use Rattle.bean_postings.proofs.cost_part.number_part.Goals as goal

pub returns-in_err-number-clause-read : goal.returns-in_err-number-clause-read
returns-in_err-number-clause-read c =
    rw c.from_residual.ensures (none_number_part _ c.in_err-number.ensures.read)

pub returns-in_err-compound-clause-read : goal.returns-in_err-compound-clause-read
returns-in_err-compound-clause-read c =
    rw c.from_residual-in_err-compound.ensures
    (none_compound_part _ _ _ c.in_ok-number.ensures.read c.in_err-compound.ensures.read)

pub returns-in_err-part-clause-read : goal.returns-in_err-part-clause-read
returns-in_err-part-clause-read c =
    rw c.from_residual-in_err-part.ensures
    (empty_number_part _ _ _ _ _ _ _ c.in_ok-number.ensures.read c.in_ok-compound.ensures.read
    c.currency_if_due-currency.ensures.read c.in_err-part.ensures)

pub returns-clause-read : goal.returns-clause-read
returns-clause-read c =
    reads_number_part _ _ _ _ _ _ _ _ c.in_ok-number.ensures.read c.in_ok-compound.ensures.read
    c.currency_if_due-currency.ensures.read c.in_ok-part.ensures
