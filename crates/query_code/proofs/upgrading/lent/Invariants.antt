use Rattle.std.proofs.Common.{◌≡◌, ◌++◌, drop}
use Rattle.query_code.proofs.upgrading.lent.Given as goal

abbrev pub invariant-loop-slice : goal.invariant-loop-slice
invariant-loop-slice l = l.list ++ drop l.slice-index l.slices ≡ l.slices
