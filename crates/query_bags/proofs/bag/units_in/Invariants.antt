use Rattle.std.proofs.Common.{length}
use Rattle.query_bags.proofs.SumFacts.{IsUpTo}
use Rattle.query_holdings.specs.Total.{without_lot}
use Rattle.query_bags.proofs.bag.units_in.Given as goal

abbrev pub invariant-loop-key : goal.invariant-loop-key
invariant-loop-key l = IsUpTo without_lot l.fn.rest l.held l.rest

abbrev pub decreases-loop-key : goal.decreases-loop-key
decreases-loop-key l = length l.rest
