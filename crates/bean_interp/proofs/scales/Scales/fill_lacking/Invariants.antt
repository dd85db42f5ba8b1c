use Rattle.std.proofs.Common.{List, take}
use Rattle.bean_interp.specs.Filling.{AreFilled, all_currencies, gaps_in}
use Rattle.bean_interp.specs.Scales.{AreSet}
use Rattle.bean_interp.specs.declared.leg.Leg.{Leg}
use Rattle.bean_interp.proofs.scales.Scales.fill_lacking.Given as goal

abbrev pub invariant-loop-index : goal.invariant-loop-index
invariant-loop-index l = (legs : List Leg) → AreSet l.self legs
    → AreFilled legs (gaps_in legs l.leg (take l.index (all_currencies legs))) l.initial.fills.items
    l.fills.items
