use Rattle.std.proofs.Common.{length, ◌-◌}
use Rattle.query_groups.proofs.AddingFacts.{IsAdding}
use Rattle.query_groups.proofs.totals.gather_each.Given as goal

abbrev pub invariant-loop-k : goal.invariant-loop-k
invariant-loop-k l = IsAdding l.aggregates l.fn.totals.items l.inputs l.totals.items l.k l.at

abbrev pub decreases-loop-k : goal.decreases-loop-k
decreases-loop-k l = length l.aggregates - l.k
