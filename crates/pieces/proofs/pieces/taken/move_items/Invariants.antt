use Rattle.std.proofs.Common.{◌≡◌, ◌++◌, drop, take}
use Rattle.pieces.proofs.pieces.taken.move_items.Given as goal

abbrev pub invariant-loop-i : goal.invariant-loop-i
invariant-loop-i g l = record {
  moved : l.to ≡ l.initial.to ++ take l.i l.initial.from;
  rest : l.from ≡ drop l.i l.initial.from;
}
