use Rattle.bean_grammar.proofs.AppliedFacts.{when_some, when_none}
use Rattle.bean_parser.proofs.LineFacts.{no_line_of_marks, no_posting_line}
use Rattle.bean_parser.proofs.under.transaction_line.Goals as goal
use Rattle.std.proofs.Common.{refl, sym, ◌∙◌, subst}
use Rattle.std.specs.Prelude.{MatchOption}
use Rattle.theory.specs.Form.{Is, IsNone}
use Rattle.bean_grammar.specs.Lexeme.{lexemes}
use Rattle.bean_grammar.specs.Mark.{some_marks}

pub returns-in-None : goal.returns-in-None
returns-in-None c =
    let ls = lexemes c.args.line.now in
    let none : IsNone some_marks ls =
    subst (λ o. MatchOption o (IsNone some_marks ls) (Is some_marks ls)) c.in-None.is
    c.in_ok-marks.ensures in
    no_line_of_marks _ c.requires (sym c.begins_with_mark.ensures ∙ c.if-begins_with_mark.true) none

pub returns-in-Some-2 : goal.returns-in-Some-2
returns-in-Some-2 c =
    let is = when_some _ _ _ _ c.in-Some-2.is c.in_ok-posting.ensures in
    (refl, rw (← c.first_line.ensures) is)

pub returns-in-None-2 : goal.returns-in-None-2
returns-in-None-2 c =
    let none = when_none _ _ _ c.in-None-2.is c.in_ok-posting.ensures in
    no_posting_line _ c.requires (sym c.begins_with_mark.ensures ∙ c.if-begins_with_mark.false)
    (rw (← c.first_line.ensures) none)
