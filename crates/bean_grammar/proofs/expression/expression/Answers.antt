use Rattle.bean_grammar.specs.Lexeme.{lexemes}
use Rattle.bean_grammar.proofs.ExpressionFacts.{expression_or_none}
use Rattle.bean_grammar.proofs.expression.expression.Goals as goal

pub returns-clause-read : goal.returns-clause-read
returns-clause-read c =
    expression_or_none _ c.sum.result (λ x. lexemes x.now) c.sum.ensures.ends c.sum.ensures.read
