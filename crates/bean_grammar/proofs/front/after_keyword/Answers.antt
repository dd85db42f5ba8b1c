use Rattle.std.proofs.Common.{sym, ◌∙◌, ap}
use denote.Enum.Bare.{sameb}
use Rattle.bean_lexer.specs.contracts.kind.Keyword as keyword_type
use Rattle.bean_grammar.proofs.LexemeFacts.{that_keyword, another_keyword, no_keyword}
use Rattle.bean_grammar.proofs.front.after_keyword.Goals.{in_default-via-in-Keyword+else-eq}
use Rattle.bean_grammar.proofs.front.after_keyword.Goals.{in_default-via-in_default}
use Rattle.bean_grammar.proofs.front.after_keyword.Goals as goal

pub returns-in-Keyword-clause-front : goal.returns-in-Keyword-clause-front
returns-in-Keyword-clause-front c = that_keyword _ _ _ _ c.in-Keyword.found _ c.in_ok-token.ensures.front c.in-Keyword.is
    (ap (λ x. sameb keyword_type.the_type x c.args.word) (sym c.in-Keyword.found-is) ∙ sym c.eq.ensures ∙ c.if-eq.true)

pub returns-in_default-clause-front : goal.returns-in_default-clause-front
returns-in_default-clause-front c = elim c.in_default.branch [
  | in_default-via-in-Keyword+else-eq w ↦ another_keyword _ _ _ _ w.in-Keyword.found _
      c.in_ok-token.ensures.front w.in-Keyword.is
      (ap (λ x. sameb keyword_type.the_type x c.args.word) (sym w.in-Keyword.found-is) ∙ sym w.eq.ensures
      ∙ w.if-eq.false)
  | in_default-via-in_default w ↦ no_keyword _ _ _ _ _ c.in_ok-token.ensures.front
      w.in_default.not-Keyword
]
