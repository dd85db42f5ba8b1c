use Rattle.bean_postings.proofs.PriceFacts.{reads_price, none_price, absent_price}
use Rattle.bean_postings.proofs.price.price_if_due.Goals as goal

pub returns-in_default : goal.returns-in_default
returns-in_default c = absent_price _ c.in_default.ensures.front

pub returns-in_default-amount_parts : goal.returns-in_default-amount_parts
returns-in_default-amount_parts c =
    none_price _ _ _ c.in-Some.ensures.front c.in_default-amount_parts.ensures.read

pub returns : goal.returns
returns c =
    rw c.in_ok-price.ensures
    (reads_price _ _ _ _ _ c.in-Some.ensures.front c.in-Some-amount_parts.ensures.read)
