use Rattle.std.proofs.Common.{◌≡◌, ◌^◌, min, ◌+◌, ◌-◌, ◌*◌, ◌<◌, length, drop, true, false, cond, get_or}
use Rattle.std.proofs.Common.{arith, ap, ◌∙◌, sym}
use Rattle.std.proofs.lemmas.Bool.Decides.{nat_tests}
use Rattle.std.specs.List.{before_first}
use Rattle.std.specs.Char.{is_ascii_digit}
use Rattle.bean_base.specs.Numeral.{is_point, goes_on}
use Rattle.bean_base.proofs.NumeralFacts.{completes}
use Rattle.bean_base.proofs.OnePassFacts.{whole_kept, place_step, counted_byte}
use Rattle.bean_base.proofs.num.whole_part.Goals as goal

pub loop-at-preserved : goal.loop-at-preserved
loop-at-preserved c =
    let bs = c.args.bytes.now in let at = c.loop-at.at in let b = get_or bs at 0 in
    let so_far = c.loop-at.invariant in
    let here : at < length bs = c.loop-at-test.true in
    let not_46 = c.if-bytes-at-ne46.true in
    let other : is_point b ≡ false = grind (arith, nat_tests) in
    let holds : goes_on c.loop-at.after_digit b ≡ true =
    sym c.goes_on.ensures ∙ c.if-not-goes_on.false in
    let step = place_step bs at here other in let place = so_far.place in
    record {
      inside = omega arith;
      rest = ap (λ d. completes d (before_first is_point (drop (at + 1) bs)))
          c.is_ascii_digit-after_digit.ensures.value
          ∙ whole_kept c.loop-at.after_digit bs at _ here other holds so_far.rest;
      place = omega arith;
      counted = c.counted-count.ensures
          ∙ ap (λ n. cond (is_ascii_digit b) (min (10 ^ 18) (n * 10 + (b - 48))) n) so_far.counted
          ∙ sym (counted_byte bs at here);
    }
