use Rattle.std.proofs.Common.{◌≡◌, ◌++◌, drop, map, take}
use Rattle.query_answer.specs.Spans.{narrowed_to}
use Rattle.query_answer.proofs.rows.narrow_all.Given as goal

abbrev pub invariant-loop-i : goal.invariant-loop-i
invariant-loop-i l =
    l.spans ≡ map (narrowed_to l.width) (take l.i l.initial.spans) ++ drop l.i l.initial.spans
