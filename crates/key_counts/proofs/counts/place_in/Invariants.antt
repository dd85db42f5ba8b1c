use Rattle.std.proofs.Common.{take}
use Rattle.key_counts.proofs.PlaceFacts.{IsNoneOf}
use Rattle.key_counts.proofs.counts.place_in.Given as goal

abbrev pub invariant-loop-place : goal.invariant-loop-place
invariant-loop-place g l = IsNoneOf (g.Q.Equivalent.equivalent l.fn.key) (take l.place l.slots)
