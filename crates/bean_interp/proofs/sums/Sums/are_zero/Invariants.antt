use Rattle.std.proofs.Common.{◌≡◌, take, true}
use Rattle.std.specs.List.{list_all}
use Rattle.bean_interp.specs.Sums.{is_zero}
use Rattle.bean_interp.proofs.sums.Sums.are_zero.Given as goal

abbrev pub invariant-loop-index : goal.invariant-loop-index
invariant-loop-index l = list_all is_zero (take l.index l.self) ≡ true
