use Rattle.std.proofs.Common.{sym, ap, ◌∙◌, ◌≡◌, ◌∷◌, [], inl, inr, get_or, refl, arith}
use Rattle.std.proofs.lemmas.Bool.Decides.{nat_tests}
use Rattle.bean_lexer.specs.declared.kind.Sign.TheVariants as signs
use Rattle.bean_lexer.proofs.WordFacts.{doubled_token, doubled_boundary, sign_token, sign_boundary}
use Rattle.bean_lexer.proofs.WordFacts.{character_fault, not_doubled}
use Rattle.bean_lexer.proofs.words.sign_or_fault.Goals as goal

pub returns-in-Some-clause-token : goal.returns-in-Some-clause-token
returns-in-Some-clause-token c =
    inl (doubled_token c.args.bytes.now c.in-Some.sign c.requires.other
    (sym c.doubled_sign_at.ensures ∙ c.in-Some.is))

pub returns-in-Some-clause-boundary : goal.returns-in-Some-clause-boundary
returns-in-Some-clause-boundary c =
    doubled_boundary c.args.bytes.now c.in-Some.sign (sym c.doubled_sign_at.ensures ∙ c.in-Some.is)

pub returns-in-Some-sign_of-clause-token : goal.returns-in-Some-sign_of-clause-token
returns-in-Some-sign_of-clause-token c =
    inl (sign_token c.args.bytes.now c.in-Some-sign_of.sign c.requires.some c.requires.other
    (sym c.doubled_sign_at.ensures ∙ c.in_default.is) c.in-Some-sign_of.ensures.spelling)

pub returns-in-Some-sign_of-clause-boundary : goal.returns-in-Some-sign_of-clause-boundary
returns-in-Some-sign_of-clause-boundary c =
    sign_boundary c.args.bytes.now c.in-Some-sign_of.sign c.requires.some
    c.in-Some-sign_of.ensures.spelling

pub returns-in-None-clause-token : goal.returns-in-None-clause-token
returns-in-None-clause-token c =
    inr (character_fault c.args.bytes.now c.character_len.result c.requires.some c.requires.other
    (sym c.sign_of.ensures.value ∙ c.in-None.is) c.character_len.ensures.len)

pub returns-then-bytes-eq45-clause-token : goal.returns-then-bytes-eq45-clause-token
returns-then-bytes-eq45-clause-token c =
    let first : get_or c.args.bytes.now 0 0 ≡ 45 = grind (arith, nat_tests) in
    inl (sign_token c.args.bytes.now signs.Minus c.requires.some c.requires.other
    (not_doubled c.args.bytes.now 45 first refl) (ap (λ b. b ∷ []) (sym first)))

pub returns-then-bytes-eq45-clause-boundary : goal.returns-then-bytes-eq45-clause-boundary
returns-then-bytes-eq45-clause-boundary c =
    let first : get_or c.args.bytes.now 0 0 ≡ 45 = grind (arith, nat_tests) in
    sign_boundary c.args.bytes.now signs.Minus c.requires.some (ap (λ b. b ∷ []) (sym first))

pub returns-then-bytes-eq42-clause-token : goal.returns-then-bytes-eq42-clause-token
returns-then-bytes-eq42-clause-token c =
    let first : get_or c.args.bytes.now 0 0 ≡ 42 = grind (arith, nat_tests) in
    inl (sign_token c.args.bytes.now signs.Star c.requires.some c.requires.other
    (not_doubled c.args.bytes.now 42 first refl) (ap (λ b. b ∷ []) (sym first)))

pub returns-then-bytes-eq42-clause-boundary : goal.returns-then-bytes-eq42-clause-boundary
returns-then-bytes-eq42-clause-boundary c =
    let first : get_or c.args.bytes.now 0 0 ≡ 42 = grind (arith, nat_tests) in
    sign_boundary c.args.bytes.now signs.Star c.requires.some (ap (λ b. b ∷ []) (sym first))
