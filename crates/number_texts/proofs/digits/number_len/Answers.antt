use Rattle.std.proofs.Common.{◌≡◌, ◌+◌, ◌-◌, ◌/◌, ◌%◌, ◌^◌, ◌++◌, ℕ, ℤ, cond, pos, int_lt, length, max, nat_lt, ap, sym, ◌∙◌, arith}
use Rattle.std.specs.Fmt.{decimal}
use Rattle.std.specs.Int.{w128}
use Rattle.std.specs.Int.RustNames.{unsigned_abs}
use Rattle.std.proofs.lemmas.Int.{to_z-of_z}
use Rattle.number_texts.specs.Digits.{digits_of, exact_decimals, number_text, zeros}
use Rattle.number_texts.proofs.DigitsFacts.{filled}
use Rattle.number_texts.proofs.NumberFacts.{length-number}
use Rattle.number_texts.proofs.digits.number_len.Goals as goal

-- the length of a number's text, of the parts of its magnitude
length-parts : (count : ℤ) (places least magnitude whole shown digits sign : ℕ)
    → magnitude ≡ unsigned_abs count
    → whole ≡ magnitude / 10 ^ places
    → digits_of shown digits ++ zeros (least - shown)
    ≡ filled least (exact_decimals places (magnitude % 10 ^ places))
    → sign ≡ cond (int_lt count (pos 0)) 1 0
    → sign + (length (decimal whole) + (cond (nat_lt 0 (max shown least)) 1 0 + max shown least))
    ≡ length (number_text count places least)
length-parts count places least magnitude whole shown digits sign is front behind signed =
    (λ i. signed i + (length (decimal ((front ∙ ap (λ n. n / 10 ^ places) is) i))
    + (cond (nat_lt 0 (max shown least)) 1 0 + max shown least)))
    ∙ sym (length-number count places least shown digits
    (behind ∙ ap (λ n. filled least (exact_decimals places (n % 10 ^ places))) is))

pub returns-in-Some-clause-len : goal.returns-in-Some-clause-len
returns-in-Some-clause-len c =
    let least = c.args.least in
    let signed = to_z-of_z w128 c.args.count c.ranges.count in
    let is = c.unsigned_abs-number.ensures.value ∙ ap unsigned_abs signed in
    let all =
    length-parts c.args.count c.args.places least c.unsigned_abs-number.result
    c.in-Some.whole least c.in-Some.field-0-1 c.len_if.result is c.in-Some.ensures.whole
    c.in-Some.ensures.digits
    (c.len_if.ensures ∙ ap (λ z. cond (int_lt z (pos 0)) 1 0) signed) in
    let most : max least least ≡ least = omega arith in
    let behind : cond (nat_lt 0 (max least least)) 1 0 ≡ cond (nat_lt 0 least) 1 0 =
    ap (λ k. cond {A = ℕ} (nat_lt 0 k) 1 0) most in
    omega (
      arith,
      all,
      most,
      behind,
      c.digits_in_word.ensures.count,
      c.len_if-in-Some.ensures,
    )

pub returns-in-None-clause-len : goal.returns-in-None-clause-len
returns-in-None-clause-len c =
    let signed = to_z-of_z w128 c.args.count c.ranges.count in
    let is = c.unsigned_abs-number.ensures.value ∙ ap unsigned_abs signed in
    let parts = c.any_parts in
    let all =
    length-parts c.args.count c.args.places c.args.least c.unsigned_abs-number.result
    parts.result.whole parts.result.shown parts.result.digits c.len_if-in-None.result is
    parts.ensures.whole parts.ensures.digits
    (c.len_if-in-None.ensures ∙ ap (λ z. cond (int_lt z (pos 0)) 1 0) signed) in
    omega (arith, all, c.parts_len.ensures.len)
