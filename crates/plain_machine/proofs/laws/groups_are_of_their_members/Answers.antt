use Rattle.plain_machine.specs.Gathering.{all_inputs, running_values}
use Rattle.plain_machine.proofs.GroupingFacts.{are_groups}
use Rattle.plain_machine.proofs.laws.groups_are_of_their_members.Goals as goal

pub returns-clause-inputs : goal.returns-clause-inputs
returns-clause-inputs c =
    λ aggregates members groups. are_groups (all_inputs aggregates) members groups

pub returns-clause-running : goal.returns-clause-running
returns-clause-running c =
    λ aggregates members groups. are_groups (running_values aggregates) members groups
