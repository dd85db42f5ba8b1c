use Rattle.bean_directives.proofs.HeadFacts.{reads_tolerance, none_tolerance, negative_tolerance}
use Rattle.bean_directives.proofs.WorthFacts.{told_not}
use Rattle.bean_directives.proofs.numbers.tolerance_if_due.Goals as goal

pub returns-in_default-expression : goal.returns-in_default-expression
returns-in_default-expression c =
    none_tolerance _ _ c.in-Some.ensures.front c.in_default-expression.ensures.read

pub returns-then-branch : goal.returns-then-branch
returns-then-branch c =
    negative_tolerance _ _ c.in-Some.ensures.front
    (c.in_ok-is_below_zero.ensures.0 c.if-branch.true)

pub returns : goal.returns
returns c =
    reads_tolerance _ _ _ _ c.in-Some.ensures.front c.in-Some-expression.ensures.read
    (told_not _ _ c.if-branch.false c.in_ok-is_below_zero.ensures)
