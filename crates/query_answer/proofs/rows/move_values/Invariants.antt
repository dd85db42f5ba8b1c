use Rattle.std.proofs.Common.{◌≡◌, ◌++◌, drop, length, take}
use Rattle.query_answer.proofs.rows.move_values.Given as goal

abbrev pub invariant-loop-i : goal.invariant-loop-i
invariant-loop-i l = record {
  moved : l.to.items ≡ l.initial.to.items ++ take l.i l.initial.from;
  left : drop l.i l.from ≡ drop l.i l.initial.from;
  count : length l.from ≡ length l.initial.from;
}
