use Rattle.std.proofs.Common.{◌≡◌, take}
use Rattle.query_holdings.specs.Placed.{placed_from}
use Rattle.query_holdings.proofs.keys.placed_in.Given as goal

abbrev pub invariant-loop-place : goal.invariant-loop-place
invariant-loop-place l = l.placed.items ≡ placed_from 0 (take l.place l.keys)
