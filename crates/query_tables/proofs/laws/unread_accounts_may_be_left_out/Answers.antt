use Rattle.query_tables.proofs.UnreadFacts.{answers_alike, fits_alike, one_tells, outside_alike}
use Rattle.query_tables.proofs.UnreadFacts.{tables_alike, tabulates_alike, texts_alike}
use Rattle.query_tables.proofs.laws.unread_accounts_may_be_left_out.Goals as goal

pub returns-clause-table : goal.returns-clause-table
returns-clause-table c = tables_alike

pub returns-clause-bounds : goal.returns-clause-bounds
returns-clause-bounds c = λ b bare l alike. fits_alike bare l alike b

pub returns-clause-result : goal.returns-clause-result
returns-clause-result c = tabulates_alike

pub returns-clause-one : goal.returns-clause-one
returns-clause-one c = one_tells

pub returns-clause-text : goal.returns-clause-text
returns-clause-text c = texts_alike

pub returns-clause-outside : goal.returns-clause-outside
returns-clause-outside c = outside_alike

pub returns-clause-answers : goal.returns-clause-answers
returns-clause-answers c = answers_alike
