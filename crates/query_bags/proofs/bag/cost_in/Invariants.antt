use Rattle.std.proofs.Common.{length}
use Rattle.query_bags.proofs.SumFacts.{IsUpTo}
use Rattle.query_holdings.specs.Total.{at_cost}
use Rattle.query_bags.proofs.bag.cost_in.Given as goal

abbrev pub invariant-loop-key : goal.invariant-loop-key
invariant-loop-key l = IsUpTo at_cost l.fn.rest l.held l.rest

abbrev pub decreases-loop-key : goal.decreases-loop-key
decreases-loop-key l = length l.rest
