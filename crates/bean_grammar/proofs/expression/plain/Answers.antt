use Rattle.std.proofs.Common.{sym, ◌∙◌}
use Rattle.bean_grammar.proofs.PlainFacts.{reads_plain}
use Rattle.bean_grammar.proofs.expression.plain.Goals as goal

pub returns-clause-read : goal.returns-clause-read
returns-clause-read c = λ n is.
    reads_plain _ _ _ _ _ _ c.past_sign-is_minus.ensures.front c.in_ok-written.ensures.front
    (sym c.goes_on.ensures ∙ c.if-goes_on.false) is
