use Rattle.std.proofs.Common.{◌≡◌, ◌<◌, ◌≤◌, ◌^◌}
use Rattle.number_texts.specs.Digits.{exact_decimals}
use Rattle.number_texts.proofs.digits.one_by_one.Given as goal

abbrev pub invariant-loop-places : goal.invariant-loop-places
invariant-loop-places l = record {
  digits : exact_decimals l.places l.decimals ≡ exact_decimals l.fn.places l.fn.decimals;
  few : l.places ≤ l.fn.places;
  small : l.decimals < 10 ^ l.places;
}

abbrev pub decreases-loop-places : goal.decreases-loop-places
decreases-loop-places l = l.places
