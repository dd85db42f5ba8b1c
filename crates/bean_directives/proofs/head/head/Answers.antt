use Rattle.bean_directives.proofs.HeadFacts.{when_some}
use Rattle.bean_directives.proofs.FirstLineFacts.{head_is, head_goes_on}
use Rattle.bean_directives.proofs.head.head.Goals as goal

pub returns-in-Some-next-2 : goal.returns-in-Some-next-2
returns-in-Some-next-2 c =
    head_goes_on _ _ _ _ _ _ _ _ _ c.in-Some.ensures.read c.in-Some-next.ensures.front
    (when_some _ _ _ _ c.in-Some-2.is c.in_ok-found.ensures) c.in-Some-next-2.ensures.front

pub returns : goal.returns
returns c =
    head_is _ _ _ _ _ _ _ c.in-Some.ensures.read c.in-Some-next.ensures.front
    (when_some _ _ _ _ c.in-Some-2.is c.in_ok-found.ensures) c.in-None.ensures.front
