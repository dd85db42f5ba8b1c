use Rattle.std.proofs.Common.{◌≡◌, List, take, true}
use Rattle.std.specs.List.{list_all}
use Rattle.bean_interp.specs.Balance.{is_even}
use Rattle.bean_interp.specs.Filling.{all_currencies}
use Rattle.bean_interp.specs.Scales.{AreSet}
use Rattle.bean_interp.specs.declared.leg.Leg.{Leg}
use Rattle.bean_interp.proofs.scales.Scales.are_even.Given as goal

abbrev pub invariant-loop-index : goal.invariant-loop-index
invariant-loop-index l = (legs : List Leg) → AreSet l.self legs
    → list_all (is_even legs) (take l.index (all_currencies legs)) ≡ true
