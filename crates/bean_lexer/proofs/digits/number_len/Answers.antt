use Rattle.std.proofs.Common.{sym, ◌∙◌}
use Rattle.bean_lexer.proofs.NumberFacts.{whole_starts, whole_goes_on, number_with_point}
use Rattle.bean_lexer.proofs.NumberFacts.{point_boundary, number_without_point}
use Rattle.bean_lexer.proofs.digits.number_len.Goals as goal

pub loop-len-init : goal.loop-len-init
loop-len-init c =
    whole_starts c.args.bytes.now c.end_of_run-len.result c.end_of_run-len.ensures.run
    c.requires.some c.requires.digit

pub loop-len-preserved : goal.loop-len-preserved
loop-len-preserved c =
    whole_goes_on c.args.bytes.now c.loop-len.len c.end_of_run-len-in-loop-len.result
    c.end_of_run-len-in-loop-len.ensures.run
    (sym c.has_more_digits.ensures ∙ c.loop-len-test.true)
    c.loop-len.invariant

pub returns-then-has_point-clause-number : goal.returns-then-has_point-clause-number
returns-then-has_point-clause-number c =
    number_with_point c.args.bytes.now c.loop-len.len c.end_of_run-len-then-has_point.result
    c.end_of_run-len-then-has_point.ensures.run (sym c.has_point.ensures ∙ c.if-has_point.true)
    c.loop-len.invariant

pub returns-then-has_point-clause-boundary : goal.returns-then-has_point-clause-boundary
returns-then-has_point-clause-boundary c =
    point_boundary c.args.bytes.now c.loop-len.len c.end_of_run-len-then-has_point.result
    c.end_of_run-len-then-has_point.ensures.run (sym c.has_point.ensures ∙ c.if-has_point.true)

pub returns-else-has_point-clause-number : goal.returns-else-has_point-clause-number
returns-else-has_point-clause-number c =
    number_without_point c.args.bytes.now c.loop-len.len
    (sym c.has_more_digits.ensures ∙ c.loop-len-test.false)
    (sym c.has_point.ensures ∙ c.if-has_point.false) c.loop-len.invariant
