use Rattle.bean_grammar.proofs.ExpressionFacts.{one_expression}
use Rattle.bean_grammar.proofs.AmountFacts.{one_amount}
use Rattle.bean_grammar.proofs.MetadataFacts.{one_entry, one_all_values}
use Rattle.bean_grammar.proofs.MarkFacts.{one_marks, one_some_marks}
use Rattle.bean_grammar.proofs.grammar.a_rule_has_one_reading.Goals as goal

pub returns-clause-expression : goal.returns-clause-expression
returns-clause-expression c = one_expression

pub returns-clause-amount : goal.returns-clause-amount
returns-clause-amount c = one_amount

pub returns-clause-entry : goal.returns-clause-entry
returns-clause-entry c = one_entry

pub returns-clause-values : goal.returns-clause-values
returns-clause-values c = one_all_values

pub returns-clause-marks : goal.returns-clause-marks
returns-clause-marks c = one_marks

pub returns-clause-some_marks : goal.returns-clause-some_marks
returns-clause-some_marks c = one_some_marks
