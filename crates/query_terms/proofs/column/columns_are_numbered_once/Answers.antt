use Rattle.query_terms.proofs.NumberFacts.{has_number, is_number}
use Rattle.query_terms.proofs.column.columns_are_numbered_once.Goals as goal

pub returns-clause-columns : goal.returns-clause-columns
returns-clause-columns c = has_number

pub returns-clause-numbers : goal.returns-clause-numbers
returns-clause-numbers c = is_number
