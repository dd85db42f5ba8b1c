use Rattle.std.proofs.Common.{get_or, sym, ap, ◌∙◌}
use Rattle.bql_lexer.specs.Token.{sign_of, sign_of_front}
use Rattle.bql_lexer.proofs.TokenFacts.{two_boundary, sign_boundary}
use Rattle.bql_lexer.proofs.found.sign_or_fault.Goals as goal

pub cut-requires : goal.cut-requires
cut-requires c =
    two_boundary c.args.text.now _
    (ap sign_of_front (sym c.as_bytes.ensures.value) ∙ sym c.sign_of_front.ensures ∙ c.in-Some.is)
    c.utf8.text

pub cut-requires-in-Some-sign_of : goal.cut-requires-in-Some-sign_of
cut-requires-in-Some-sign_of c =
    sign_boundary c.args.text.now _ c.requires
    (ap (λ bs. sign_of (get_or bs 0 0)) (sym c.as_bytes-2.ensures.value) ∙ sym c.sign_of.ensures
    ∙ c.in-Some-sign_of.is) c.utf8.text
