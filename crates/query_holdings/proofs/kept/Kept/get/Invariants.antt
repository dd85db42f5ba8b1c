use Rattle.std.proofs.Common.{◌≡◌, length}
use Rattle.bean_lots.specs.Inventory.{count_of}
use Rattle.query_holdings.proofs.kept.Kept.get.Given as goal

-- it is left to the rest
abbrev pub invariant-loop-own : goal.invariant-loop-own
invariant-loop-own l = count_of l.rest l.key ≡ count_of l.self l.key

abbrev pub decreases-loop-own : goal.decreases-loop-own
decreases-loop-own l = length l.rest
