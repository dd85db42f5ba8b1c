use Rattle.bean_grammar.proofs.ExpressionFacts.{one_computed}
use Rattle.bean_grammar.proofs.ValueFacts.{has_values}
use Rattle.bean_grammar.specs.Expression.{exactly}
use Rattle.bean_grammar.proofs.grammar.an_expression_has_one_value.Goals as goal

pub returns-clause-values : goal.returns-clause-values
returns-clause-values c = has_values

pub returns-clause-one : goal.returns-clause-one
returns-clause-one c = one_computed exactly
