use Rattle.std.proofs.Common.{◌≡◌, drop}
use Rattle.std.specs.Cmp.Lexicographic.{pointwise}
use Rattle.query_values.specs.Choice.{same_day}
use Rattle.bql_code.proofs.pool.same_days.Given as goal

-- all are the same where those that are left are
abbrev pub invariant-loop-i : goal.invariant-loop-i
invariant-loop-i l =
    pointwise same_day (drop l.i l.a) (drop l.i l.b) ≡ pointwise same_day l.a l.b
