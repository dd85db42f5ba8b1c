use Rattle.query_machine.proofs.Turning.{runs_end, steps_counted, turns_add}
use Rattle.query_machine.proofs.laws.turns_add_up.Goals as goal

pub returns-clause-sum : goal.returns-clause-sum
returns-clause-sum c = turns_add

pub returns-clause-counted : goal.returns-clause-counted
returns-clause-counted c = steps_counted

pub returns-clause-end : goal.returns-clause-end
returns-clause-end c = runs_end
