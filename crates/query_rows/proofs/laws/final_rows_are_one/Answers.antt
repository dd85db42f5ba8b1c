use Rattle.query_rows.proofs.FinalRowsFacts.{are_one, are_there}
use Rattle.query_rows.proofs.laws.final_rows_are_one.Goals as goal

pub returns-clause-there : goal.returns-clause-there
returns-clause-there c = are_there

pub returns-clause-one : goal.returns-clause-one
returns-clause-one c = are_one
