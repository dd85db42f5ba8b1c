use Rattle.std.proofs.Common.{◌≡◌, length}
use Rattle.std.specs.List.{list_all}
use Rattle.query_values.specs.Equality.{agree_at}
use Rattle.query_values.proofs.comparison.agree_in.Given as goal

-- whether they agree at all is left to the rest
abbrev pub invariant-loop-key : goal.invariant-loop-key
invariant-loop-key l =
    list_all (agree_at l.a l.b) l.rest ≡ list_all (agree_at l.a l.b) l.fn.rest

abbrev pub decreases-loop-key : goal.decreases-loop-key
decreases-loop-key l = length l.rest
