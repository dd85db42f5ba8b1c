use Rattle.std.proofs.Common.{◌≡◌, ◌≤◌, ◌+◌, ◌^◌, ◌%◌, ◌-◌, ◌++◌, ℕ, ap, sym}
use Rattle.std.proofs.Common.{◌∙◌, arith}
use Rattle.number_texts.specs.Digits.{digits_of, exact_decimals, zeros}
use Rattle.number_texts.proofs.DigitsFacts.{filled, kept_small, stripped}
use Rattle.number_texts.proofs.digits.without_zeros.Goals as goal

pub returns-then-rest-eq0 : goal.returns-then-rest-eq0
returns-then-rest-eq0 c =
    let surplus = c.saturating_sub-surplus.result in
    let least = c.args.least in
    let kept : ℕ = c.args.places - surplus in
    let ends : c.args.decimals % 10 ^ surplus ≡ 0 =
    sym c.split_at-digits.ensures.behind ∙ c.if-rest-eq0.true in
    let fits : kept ≤ least = omega (arith, c.saturating_sub-surplus.ensures) in
    let all : surplus + kept ≡ c.args.places = omega (arith, c.saturating_sub-surplus.ensures) in
    let small = kept_small c.args.places surplus kept c.args.decimals all c.requires in record {
      digits = ap (λ n. digits_of kept n ++ zeros (least - kept)) c.split_at-digits.ensures.before
          ∙ stripped surplus kept c.args.decimals least ends fits
          ∙ ap (λ p. filled least (exact_decimals p c.args.decimals)) all;
      few = omega arith;
      small = omega (arith, c.split_at-digits.ensures.before, small);
    }
