use Rattle.std.proofs.Common.{◌≡◌, map, take}
use Rattle.bean_transactions.specs.Tried as spec
use Rattle.bean_transactions.proofs.legs.legs_of.Given as goal

abbrev pub invariant-loop-line : goal.invariant-loop-line
invariant-loop-line l = l.legs.items ≡ map (spec.leg_of l.postings) (take l.line-index l.lines)
