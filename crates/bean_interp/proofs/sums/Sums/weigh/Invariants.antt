use Rattle.std.proofs.Common.{take}
use Rattle.bean_interp.proofs.WeighingFacts.{IsWeighed}
use Rattle.bean_interp.proofs.sums.Sums.weigh.Given as goal

abbrev pub invariant-loop-leg : goal.invariant-loop-leg
invariant-loop-leg l = IsWeighed l.self (take l.leg-index l.legs)
