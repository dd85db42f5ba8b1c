use Rattle.plain_machine.proofs.AnswerFacts.{has_answer, no_fault, one_answer, of_sections}
use Rattle.plain_machine.proofs.AnswerFacts.{within_budget}
use Rattle.plain_machine.proofs.laws.programs_have_one_answer.Goals as goal

pub returns-clause-there : goal.returns-clause-there
returns-clause-there c = has_answer

pub returns-clause-safe : goal.returns-clause-safe
returns-clause-safe c = no_fault

pub returns-clause-one : goal.returns-clause-one
returns-clause-one c = one_answer

pub returns-clause-sections : goal.returns-clause-sections
returns-clause-sections c = of_sections

pub returns-clause-budget : goal.returns-clause-budget
returns-clause-budget c = within_budget
