use Rattle.std.proofs.Common.{sym, ◌∙◌, ap}
use denote.Enum.Bare.{sameb}
use Rattle.bean_lexer.specs.contracts.kind.Sign as sign_type
use Rattle.bean_grammar.proofs.LexemeFacts.{that_sign, another_sign, no_sign}
use Rattle.bean_grammar.proofs.front.after_sign.Goals.{in_default-via-in-Sign+else-eq}
use Rattle.bean_grammar.proofs.front.after_sign.Goals.{in_default-via-in_default}
use Rattle.bean_grammar.proofs.front.after_sign.Goals as goal

pub returns-in-Sign-clause-front : goal.returns-in-Sign-clause-front
returns-in-Sign-clause-front c = that_sign _ _ _ _ c.in-Sign.found _ c.in_ok-token.ensures.front c.in-Sign.is
    (ap (λ x. sameb sign_type.the_type x c.args.mark) (sym c.in-Sign.found-is) ∙ sym c.eq.ensures ∙ c.if-eq.true)

pub returns-in_default-clause-front : goal.returns-in_default-clause-front
returns-in_default-clause-front c = elim c.in_default.branch [
  | in_default-via-in-Sign+else-eq w ↦ another_sign _ _ _ _ w.in-Sign.found _
      c.in_ok-token.ensures.front w.in-Sign.is
      (ap (λ x. sameb sign_type.the_type x c.args.mark) (sym w.in-Sign.found-is) ∙ sym w.eq.ensures
      ∙ w.if-eq.false)
  | in_default-via-in_default w ↦ no_sign _ _ _ _ _ c.in_ok-token.ensures.front
      w.in_default.not-Sign
]
