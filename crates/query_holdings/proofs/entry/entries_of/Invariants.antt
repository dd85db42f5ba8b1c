use Rattle.std.proofs.Common.{◌≡◌, ◌++◌, length}
use Rattle.query_holdings.proofs.entry.entries_of.Given as goal

-- those so far and the rest are all
abbrev pub invariant-loop-key : goal.invariant-loop-key
invariant-loop-key l = l.entries.items ++ l.rest ≡ l.held

abbrev pub decreases-loop-key : goal.decreases-loop-key
decreases-loop-key l = length l.rest
