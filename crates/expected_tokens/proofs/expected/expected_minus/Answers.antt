use Rattle.std.proofs.Common.{ap, sym, ◌≡◌, ◌∷◌, [], ◌<◌, inl, get_or, refl, arith, length}
use Rattle.std.specs.Prelude.{IsTrue}
use Rattle.std.proofs.lemmas.Bool.Decides.{nat_tests}
use Rattle.bean_lexer.specs.Lookahead.{begins_other}
use Rattle.bean_lexer.specs.declared.kind.Kind.TheVariants as kinds
use Rattle.bean_lexer.specs.declared.kind.Sign.TheVariants as signs
use Rattle.bean_lexer.proofs.WordFacts.{sign_token, sign_boundary, not_doubled}
use Rattle.expected_tokens.proofs.FoundFacts.{counted}
use Rattle.expected_tokens.proofs.expected.expected_minus.Goals as goal

pub on_one_line-requires-clause-token : goal.on_one_line-requires-clause-token
on_one_line-requires-clause-token c =
    let bs = c.args.bytes.now in
    let first : get_or bs 0 0 ≡ 45 = c.if-bytes-ne45.false in
    let some : 0 < length bs = grind (arith, nat_tests) in
    let other : IsTrue (begins_other (get_or bs 0 0)) = grind (arith, nat_tests) in
    inl (sign_token bs signs.Minus some other (not_doubled bs 45 first refl)
    (ap (λ b. b ∷ []) (sym first)))

pub returns-clause-found : goal.returns-clause-found
returns-clause-found c =
    let bs = c.args.bytes.now in
    let first : get_or bs 0 0 ≡ 45 = c.if-bytes-ne45.false in
    let some : 0 < length bs = grind (arith, nat_tests) in
    let other : IsTrue (begins_other (get_or bs 0 0)) = grind (arith, nat_tests) in
    let spelled = ap (λ b. b ∷ []) (sym first) in
    counted bs (kinds.Sign signs.Minus) 1 c.on_one_line.result
    (inl (sign_token bs signs.Minus some other (not_doubled bs 45 first refl) spelled))
    (sign_boundary bs signs.Minus some spelled) c.on_one_line.ensures.same.0
    c.on_one_line.ensures.same.1 c.on_one_line.ensures.feeds
