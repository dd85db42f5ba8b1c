use Rattle.std.proofs.Common.{◌≡◌, [], ◌∷◌, ◌++◌, ◌+◌, List, ℕ, length, ap, sym, ◌∙◌, arith}
use Rattle.std.specs.Fmt.{decimal}
use Rattle.number_texts.specs.Digits.{digits_of}
use Rattle.number_texts.proofs.DigitsFacts.{leading_one}
use Rattle.number_texts.proofs.digits.push_few_digits.Goals as goal

abbrev behind : List ℕ → List ℕ
behind [] = []
behind (x ∷ xs) = xs

pub returns-in_ok-extend_from_slice : goal.returns-in_ok-extend_from_slice
returns-in_ok-extend_from_slice c =
    let written =
    c.as_bytes.ensures.value ∙ c.format-text.ensures.text
    ∙ ap (λ u. decimal (u + c.args.number)) c.unit_of.ensures.value
    ∙ leading_one c.args.places c.args.number c.requires.few c.requires.small in
    let digits : c.in-Some.digits.now ≡ digits_of c.args.places c.args.number =
    ap behind (sym c.in-Some.ensures.cases.0 ∙ written) in
    c.in_ok-extend_from_slice.ensures.items ∙ ap (λ ds. c.args.out.now.items ++ ds) digits

pub returns-in_default : goal.returns-in_default
returns-in_default c =
    let written =
    c.as_bytes.ensures.value ∙ c.format-text.ensures.text
    ∙ ap (λ u. decimal (u + c.args.number)) c.unit_of.ensures.value
    ∙ leading_one c.args.places c.args.number c.requires.few c.requires.small in
    let some : length c.as_bytes.result.now ≡ length (49 ∷ digits_of c.args.places c.args.number) =
    ap length written in
    absurd (omega (arith, some, c.in_default.ensures.cases))
