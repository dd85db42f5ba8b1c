use Rattle.bean_directives.proofs.HeadFacts.{reads_price, no_number_price, no_currency_price}
use Rattle.bean_directives.proofs.numbers.price_line.Goals as goal

pub returns-in_default-expression : goal.returns-in_default-expression
returns-in_default-expression c =
    no_number_price _ _ _ c.in-Some.ensures.front c.in_default-expression.ensures.read

pub returns-in_default-after_currency : goal.returns-in_default-after_currency
returns-in_default-after_currency c =
    no_currency_price _ _ _ _ _ c.in-Some.ensures.front c.in-Some-expression.ensures.read
    c.in_default-after_currency.ensures.front

pub returns : goal.returns
returns c =
    rw c.in_ok-price.ensures
    (reads_price _ _ _ _ _ _ _ c.in-Some.ensures.front c.in-Some-expression.ensures.read
    c.in-Some-after_currency.ensures.front)
