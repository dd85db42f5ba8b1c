use Rattle.bean_directives.proofs.HeadFacts.{reads_open, no_account_open, no_currencies_open, when_some}
use Rattle.bean_directives.proofs.HeadFacts.{when_none}
use Rattle.bean_directives.proofs.accounts.open_line.Goals as goal

pub returns-in_default : goal.returns-in_default
returns-in_default c = no_account_open _ c.in_default.ensures.front

pub returns-in_default-2 : goal.returns-in_default-2
returns-in_default-2 c =
    no_currencies_open _ _ _ c.in-Some.ensures.front
    (when_none _ _ _ c.in_default-2.not-Some c.in_ok-found.ensures)

pub returns : goal.returns
returns c =
    reads_open _ _ _ _ _ _ _ c.in-Some.ensures.front
    (when_some _ _ _ _ c.in-Some-2.is c.in_ok-found.ensures) c.text_if_due-method.ensures
