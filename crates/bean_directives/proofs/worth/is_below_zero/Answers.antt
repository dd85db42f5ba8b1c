use Rattle.bean_directives.proofs.HeadFacts.{when_some, when_present, when_absent}
use Rattle.bean_directives.proofs.WorthFacts.{below_where_negative, not_below_where_none}
use Rattle.bean_directives.proofs.worth.is_below_zero.Goals as goal

pub returns-in-Some : goal.returns-in-Some
returns-in-Some c =
    below_where_negative _ _ _ _ (when_some _ _ _ _ c.in-Some.is c.in_ok-value.ensures.read)
    (when_present _ _ _ c.in-Some.is c.in_ok-value.ensures.ends) c.is_negative.ensures

pub returns-in-None : goal.returns-in-None
returns-in-None c =
    not_below_where_none _ (when_absent _ _ _ c.in-None.is c.in_ok-value.ensures.read)
