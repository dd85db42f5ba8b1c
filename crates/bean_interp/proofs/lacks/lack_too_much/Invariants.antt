use Rattle.std.proofs.Common.{◌≡◌, false, take}
use Rattle.bean_interp.specs.Lacking.{AreLacked, lack_too_much}
use Rattle.bean_interp.proofs.lacks.lack_too_much.Given as goal

abbrev pub invariant-loop-leg : goal.invariant-loop-leg
invariant-loop-leg l = record {
  are : AreLacked l.lacks (take l.leg-index l.legs);
  not_yet : lack_too_much (take l.leg-index l.legs) ≡ false;
}
