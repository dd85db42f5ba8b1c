use Rattle.plain_machine.specs.Gathering.{all_inputs, running_values}
use Rattle.plain_machine.proofs.RunFacts.{comes_to_answer}
use Rattle.plain_machine.proofs.laws.runs_come_to_their_answers.Goals as goal

pub returns-clause-inputs : goal.returns-clause-inputs
returns-clause-inputs c = λ p rows. comes_to_answer (all_inputs p.code.aggregates) p rows

pub returns-clause-running : goal.returns-clause-running
returns-clause-running c = λ p rows. comes_to_answer (running_values p.code.aggregates) p rows
