use Rattle.bql_grammar.specs.Expression.{counted}
use Rattle.bql_grammar.proofs.BeginningFacts.{begun_here}
use Rattle.bql_grammar.proofs.BeginningExpressions.{begins_counted, no_close_begun}
use Rattle.bql_grammar.proofs.DepthFacts.{no_close}
use Rattle.bql_grammar.proofs.expressions.counted.Goals as goal

pub returns-in_default-after-clause-inside : goal.returns-in_default-after-clause-inside
returns-in_default-after-clause-inside c =
    no_close c.args.room c.args.tokens.now _ _ _ c.before-in_default-after.ensures
    c.in-Some.ensures.front

pub returns-in_default-clause-begun : goal.returns-in_default-clause-begun
returns-in_default-clause-begun c =
    begun_here (counted c.args.name.now) c.args.tokens.now _ _ c.before-in_default.ensures
    (begins_counted c.args.name.now)

pub returns-in_default-after-clause-begun : goal.returns-in_default-after-clause-begun
returns-in_default-after-clause-begun c =
    no_close_begun c.args.name.now c.args.tokens.now _ _ _ _ c.before-in_default-after.ensures
    c.in-Some.ensures.front
