use Rattle.std.proofs.Common.{◌^◌, ◌/◌, ◌%◌, ◌<◌, ap, ◌∙◌, sym, subst, arith}
use Rattle.std.proofs.Math.Nat.{one-le-pow, mod-lt, mod-eq_of_lt, div-eq_of_lt}
use Rattle.number_texts.proofs.DigitsFacts.{wide}
use Rattle.number_texts.proofs.digits.split_at.Goals as goal

pub returns-in-Ok : goal.returns-in-Ok
returns-in-Ok c =
    let below = mod-lt c.args.number (one-le-pow c.args.places 10 (omega arith)) in
    let behind = c.split_few_at-before.ensures.behind ∙ ap (λ n. n % 10 ^ c.args.places) c.in-Ok.ensures.1 in record {
      before = c.split_few_at-before.ensures.before ∙ ap (λ n. n / 10 ^ c.args.places) c.in-Ok.ensures.1;
      behind = behind;
      small = subst (λ n. n < 10 ^ c.args.places) (sym behind) below;
    }

pub returns-then-places-gt38 : goal.returns-then-places-gt38
returns-then-places-gt38 c =
    let fewer : c.args.number < 10 ^ c.args.places =
    omega (arith, wide c.args.places c.if-places-gt38.true, c.ranges.number.fits) in record {
      before = sym (div-eq_of_lt fewer);
      behind = sym (mod-eq_of_lt fewer);
      small = fewer;
    }
