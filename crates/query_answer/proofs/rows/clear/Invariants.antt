use Rattle.std.proofs.Common.{◌≡◌, ◌++◌, drop, take}
use Rattle.query_answer.specs.Rows.{nulls}
use Rattle.query_answer.proofs.rows.clear.Given as goal

abbrev pub invariant-loop-i : goal.invariant-loop-i
invariant-loop-i l = l.values ≡ nulls (take l.i l.initial.values) ++ drop l.i l.initial.values
