use Rattle.std.proofs.Common.{◌≡◌, ◌+◌, ◌-◌, ◌/◌, ◌%◌, ◌++◌, ◌∷◌, [], ap, ◌∙◌, arith}
use Rattle.number_texts.specs.Digits.{digits_of}
use Rattle.number_texts.proofs.DigitsFacts.{last_digit}
use Rattle.number_texts.proofs.digits.+push_digits.Goals as goal

pub returns : goal.returns
returns n c =
    let out = c.args.out.now.items in
    let front = digits_of (c.args.places - 1) (c.args.number / 10) in
    let last : c.args.number % 10 % 10 ≡ c.args.number % 10 = omega arith in
    c.in_ok-push.ensures.items
    ∙ (λ k. c.in_ok-push_digits.ensures k ++ c.digit.ensures k ∷ [])
    ∙ ap (λ d. (out ++ front) ++ (48 + d) ∷ []) last
    ∙ last_digit out c.args.places c.args.number (omega (arith, c.if-places-le32.false))
