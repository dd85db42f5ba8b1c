use Rattle.std.proofs.Common.{◌≡◌, length}
use Rattle.arranging.specs.Places.{AreMixed}
use Rattle.query_answer.specs.Places.{GoAlike}
use Rattle.query_answer.proofs.turns.bring_each.Given as goal

abbrev pub invariant-loop-turn : goal.invariant-loop-turn
invariant-loop-turn l = record {
  rows : GoAlike l.spans l.initial.values l.initial.places l.values l.places;
  lasts : length l.values ≡ length l.initial.values;
  mixed : AreMixed l.places;
  count : length l.places ≡ length l.initial.places;
}
