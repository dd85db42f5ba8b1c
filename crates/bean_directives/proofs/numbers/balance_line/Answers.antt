use Rattle.bean_directives.proofs.HeadFacts.{reads_balance, no_number_balance, no_tolerance_balance}
use Rattle.bean_directives.proofs.HeadFacts.{no_currency_balance, when_some, when_none}
use Rattle.bean_directives.proofs.numbers.balance_line.Goals as goal

pub returns-in_default-expression : goal.returns-in_default-expression
returns-in_default-expression c =
    no_number_balance _ _ _ c.in-Some.ensures.front c.in_default-expression.ensures.read

pub returns-in_default-2 : goal.returns-in_default-2
returns-in_default-2 c =
    no_tolerance_balance _ _ _ _ _ c.in-Some.ensures.front c.in-Some-expression.ensures.read
    (when_none _ _ _ c.in_default-2.not-Some c.in_ok-tolerated.ensures)

pub returns-in_default-after_currency : goal.returns-in_default-after_currency
returns-in_default-after_currency c =
    no_currency_balance _ _ _ _ _ _ _ c.in-Some.ensures.front c.in-Some-expression.ensures.read
    (when_some _ _ _ _ c.in-Some-2.is c.in_ok-tolerated.ensures)
    c.in_default-after_currency.ensures.front

pub returns : goal.returns
returns c =
    rw c.in_ok-balance.ensures
    (reads_balance _ _ _ _ _ _ _ _ _ c.in-Some.ensures.front c.in-Some-expression.ensures.read
    (when_some _ _ _ _ c.in-Some-2.is c.in_ok-tolerated.ensures)
    c.in-Some-after_currency.ensures.front)
