use Rattle.std.proofs.Common.{◌≡◌, ◌++◌, drop}
use Rattle.query_code.proofs.upgrading.pool_again.Given as goal

abbrev pub invariant-loop-constant : goal.invariant-loop-constant
invariant-loop-constant l = l.list ++ drop l.constant-index l.pool ≡ l.pool
