use Rattle.plain_machine.specs.Gathering.{all_inputs, running_values}
use Rattle.plain_machine.proofs.CountFacts.{is_reached}
use Rattle.plain_machine.proofs.laws.answers_are_reached.Goals as goal

pub returns-clause-inputs : goal.returns-clause-inputs
returns-clause-inputs c = λ p ledger rows. is_reached (all_inputs p.code.aggregates) p ledger rows

pub returns-clause-running : goal.returns-clause-running
returns-clause-running c =
    λ p ledger rows. is_reached (running_values p.code.aggregates) p ledger rows
