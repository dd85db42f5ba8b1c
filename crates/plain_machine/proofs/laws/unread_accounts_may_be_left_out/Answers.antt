use Rattle.plain_machine.proofs.UnreadFacts.{answers_alike, budgets_alike, fits_alike, runs_alike}
use Rattle.plain_machine.proofs.UnreadFacts.{safe_alike}
use Rattle.plain_machine.proofs.laws.unread_accounts_may_be_left_out.Goals as goal

pub returns-clause-run : goal.returns-clause-run
returns-clause-run c = runs_alike

pub returns-clause-answers : goal.returns-clause-answers
returns-clause-answers c = answers_alike

pub returns-clause-safe : goal.returns-clause-safe
returns-clause-safe c = safe_alike

pub returns-clause-budget : goal.returns-clause-budget
returns-clause-budget c = budgets_alike

pub returns-clause-bounds : goal.returns-clause-bounds
returns-clause-bounds c = fits_alike
