use Rattle.std.proofs.Common.{◌≡◌, ◌++◌, length}
use Rattle.query_holdings.proofs.kept.Kept.grown.Given as goal

-- those so far and the rest are all
abbrev pub invariant-loop-key : goal.invariant-loop-key
invariant-loop-key l = l.held ++ l.rest ≡ l.self

abbrev pub decreases-loop-key : goal.decreases-loop-key
decreases-loop-key l = length l.rest
