use Rattle.std.proofs.Common.{sym, ◌∙◌}
use Rattle.bean_grammar.proofs.ExpressionFacts.{reads_number_due, reads_no_number, none_number_due}
use Rattle.bean_grammar.proofs.expression.expression_if_due.Goals as goal

pub returns-then-not-begins_with_expression-clause-read :
    goal.returns-then-not-begins_with_expression-clause-read
returns-then-not-begins_with_expression-clause-read c =
    reads_no_number _ (sym c.begins_with_expression.ensures ∙ c.if-not-begins_with_expression.true)

pub returns-in_err-number-clause-read : goal.returns-in_err-number-clause-read
returns-in_err-number-clause-read c =
    rw c.from_residual.ensures
    (none_number_due _ (sym c.begins_with_expression.ensures
    ∙ c.if-not-begins_with_expression.false) c.in_err-number.ensures.read)

pub returns-clause-read : goal.returns-clause-read
returns-clause-read c = reads_number_due _ _ _ c.in_ok-number.ensures.read
