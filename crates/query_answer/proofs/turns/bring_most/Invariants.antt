use Rattle.std.proofs.Common.{◌≡◌, length}
use Rattle.arranging.specs.Places.{AreMixed}
use Rattle.query_answer.specs.Places.{GoAlike}
use Rattle.query_answer.proofs.turns.bring_most.Given as goal

abbrev pub invariant-loop : goal.invariant-loop
invariant-loop l = record {
  rows : GoAlike l.spans l.fn.values l.fn.places l.values l.places;
  lasts : length l.values ≡ length l.fn.values;
  mixed : AreMixed l.places;
  count : length l.places ≡ length l.fn.places;
}
