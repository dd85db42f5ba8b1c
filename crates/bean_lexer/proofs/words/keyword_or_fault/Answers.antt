use Rattle.std.proofs.Common.{sym, ◌∙◌, ap, subst, length, inl, inr}
use Rattle.std.specs.Str.{IsCharBoundary}
use Rattle.bean_lexer.specs.Tokens.{IsLongestToken}
use Rattle.bean_lexer.specs.declared.kind.Kind.TheVariants.{Keyword}
use Rattle.bean_lexer.proofs.WordFacts.{word_token, word_fault, word_boundary, no_colon_at_end}
use Rattle.bean_lexer.proofs.NameFacts.{small_boundary}
use Rattle.bean_lexer.proofs.words.keyword_or_fault.Goals as goal

pub returns-in-Some-clause-token : goal.returns-in-Some-clause-token
returns-in-Some-clause-token c =
    let bs = c.args.bytes.now in
    inl (subst (IsLongestToken bs (Keyword c.in-Some.word)) (sym (ap length c.spelling.ensures))
    (word_token bs c.in-Some.word c.requires.small (no_colon_at_end bs c.requires.no_key)
    (sym c.keyword_at.ensures ∙ c.in-Some.is)))

pub returns-in-Some-clause-boundary : goal.returns-in-Some-clause-boundary
returns-in-Some-clause-boundary c = λ utf8.
    let bs = c.args.bytes.now in
    subst (IsCharBoundary bs) (sym (ap length c.spelling.ensures))
    (word_boundary bs c.in-Some.word (sym c.keyword_at.ensures ∙ c.in-Some.is) utf8)

pub returns-in-None-clause-token : goal.returns-in-None-clause-token
returns-in-None-clause-token c =
    let bs = c.args.bytes.now in
    inr (word_fault bs c.requires.some c.requires.small (no_colon_at_end bs c.requires.no_key)
    (sym c.keyword_at.ensures ∙ c.in-None.is))

pub returns-in-None-clause-boundary : goal.returns-in-None-clause-boundary
returns-in-None-clause-boundary c = small_boundary c.args.bytes.now c.requires.some c.requires.small
