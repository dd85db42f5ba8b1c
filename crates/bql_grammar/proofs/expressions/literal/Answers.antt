use Rattle.bql_grammar.specs.Nesting.{all}
use Rattle.bql_grammar.specs.Expression.{literal}
use Rattle.bql_grammar.proofs.BeginningFacts.{begun_here}
use Rattle.bql_grammar.proofs.BeginningExpressions.{begins_literal}
use Rattle.bql_grammar.proofs.StandingFacts.{stuck_here}
use Rattle.bql_grammar.proofs.expressions.literal.Goals as goal

pub returns-in_default-clause-inside : goal.returns-in_default-clause-inside
returns-in_default-clause-inside c =
    stuck_here all c.args.room c.args.tokens.now _ c.before-in_default.ensures

pub returns-in_default-clause-begun : goal.returns-in_default-clause-begun
returns-in_default-clause-begun c =
    begun_here literal c.args.tokens.now _ _ c.before-in_default.ensures begins_literal
