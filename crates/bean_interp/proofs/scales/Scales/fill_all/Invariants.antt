use Rattle.std.proofs.Common.{take}
use Rattle.bean_interp.specs.Completion.{gaps_from}
use Rattle.bean_interp.specs.Filling.{AreFilled}
use Rattle.bean_interp.proofs.scales.Scales.fill_all.Given as goal

abbrev pub invariant-loop-number : goal.invariant-loop-number
invariant-loop-number l =
    AreFilled l.legs (gaps_from l.legs 0 (take l.number l.legs)) l.initial.fills.items l.fills.items
