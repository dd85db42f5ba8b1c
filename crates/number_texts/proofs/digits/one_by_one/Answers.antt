use Rattle.std.proofs.Common.{ap, ◌∙◌, arith}
use Rattle.std.proofs.lemmas.Bool.Decides.{nat_tests}
use Rattle.number_texts.proofs.DigitsFacts.{filled, all_exact, all_shown}
use Rattle.number_texts.proofs.digits.one_by_one.Goals as goal

pub returns-else-decimals-eq0 : goal.returns-else-decimals-eq0
returns-else-decimals-eq0 c = record {
  digits = all_exact c.loop-places.places c.loop-places.decimals c.args.least
      (grind (arith, nat_tests, c.if-decimals-eq0.false))
      ∙ ap (filled c.args.least) c.loop-places.invariant.digits;
  few = c.loop-places.invariant.few;
  small = c.loop-places.invariant.small;
}

pub returns-after-loop-places : goal.returns-after-loop-places
returns-after-loop-places c = record {
  digits = all_shown c.loop-places.places c.loop-places.decimals c.args.least
      c.loop-places-test.false ∙ ap (filled c.args.least) c.loop-places.invariant.digits;
  few = c.loop-places.invariant.few;
  small = c.loop-places.invariant.small;
}
