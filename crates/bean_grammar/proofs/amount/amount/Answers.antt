use Rattle.bean_grammar.proofs.AmountFacts.{reads_amount, none_numbered, none_with_currency}
use Rattle.bean_grammar.proofs.amount.amount.Goals as goal

pub returns-in_err-number-clause-read : goal.returns-in_err-number-clause-read
returns-in_err-number-clause-read c =
    rw c.from_residual.ensures (none_numbered _ c.in_err-number.ensures.read)

pub returns-in_err-currency-clause-read : goal.returns-in_err-currency-clause-read
returns-in_err-currency-clause-read c =
    rw c.from_residual-in_err-currency.ensures
    (none_with_currency _ _ _ c.in_ok-number.ensures.read c.in_err-currency.ensures.front)

pub returns-clause-read : goal.returns-clause-read
returns-clause-read c =
    rw c.amount_of.ensures
    (reads_amount _ _ _ _ _ c.in_ok-number.ensures.read c.in_ok-currency.ensures.front)
