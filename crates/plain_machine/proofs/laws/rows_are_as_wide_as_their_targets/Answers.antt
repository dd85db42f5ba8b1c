use Rattle.plain_machine.proofs.ShownFacts.{rows_are_wide}
use Rattle.plain_machine.proofs.laws.rows_are_as_wide_as_their_targets.Goals as goal

pub returns : goal.returns
returns c = rows_are_wide
