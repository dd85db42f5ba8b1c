use Rattle.std.proofs.Common.{◌≡◌, ◌<◌, ◌+◌, ◌-◌, ◌%◌, ◌^◌, ◌++◌, ℕ, ap, sym, subst, ◌∙◌, arith, rules}
use Rattle.number_texts.specs.Digits.{digits_of, exact_decimals, zeros}
use Rattle.number_texts.proofs.DigitsFacts.{filled, kept_small, stripped}
use Rattle.number_texts.proofs.digits.few_parts.Goals as goal

pub returns-clause-digits : goal.returns-clause-digits
returns-clause-digits c =
    let least = c.args.least in
    let surplus : ℕ = 8 - least in
    let same : c.in_ok-number.number ≡ c.args.number = search rules in
    let places : c.args.places ≡ 8 = omega (arith, c.if-places-ne8.false) in
    let all : surplus + least ≡ c.args.places = omega (arith, places, c.if-least-gt8.false) in
    let decimals : c.split_few_at-whole.result.1 ≡ c.args.number % 10 ^ c.args.places =
    c.split_few_at-whole.ensures.behind
    ∙ (λ i. same i % 10 ^ sym places i) in
    let ends : c.split_few_at-whole.result.1 % 10 ^ surplus ≡ 0 =
    sym c.split_few_at-digits.ensures.behind ∙ c.if-rest-ne0.false in
    ap (λ n. digits_of least n ++ zeros (least - least)) c.split_few_at-digits.ensures.before
    ∙ stripped surplus least c.split_few_at-whole.result.1 least ends (omega arith)
    ∙ (λ i. filled least (exact_decimals (all i) (decimals i)))

pub returns-clause-small : goal.returns-clause-small
returns-clause-small c =
    let least = c.args.least in
    let surplus : ℕ = 8 - least in
    let all : surplus + least ≡ 8 = omega (arith, c.if-least-gt8.false) in
    let few : c.split_few_at-whole.result.1 < 10 ^ 8 =
    omega (arith, c.split_few_at-whole.ensures.behind) in
    subst (λ n. n < 10 ^ least) (sym c.split_few_at-digits.ensures.before)
    (kept_small 8 surplus least c.split_few_at-whole.result.1 all few)
