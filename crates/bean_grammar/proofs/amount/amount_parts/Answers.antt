use Rattle.bean_grammar.proofs.AmountFacts.{reads_amount_parts, none_amount_parts}
use Rattle.bean_grammar.proofs.amount.amount_parts.Goals as goal

pub returns-in_err-number-clause-read : goal.returns-in_err-number-clause-read
returns-in_err-number-clause-read c =
    rw c.from_residual.ensures (none_amount_parts _ c.in_err-number.ensures.read)

pub returns-clause-read : goal.returns-clause-read
returns-clause-read c =
    reads_amount_parts _ _ _ _ _ c.in_ok-number.ensures.read c.currency_if_due-currency.ensures.read
