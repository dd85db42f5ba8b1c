use Rattle.std.proofs.Common.{map, take}
use Rattle.bean_interp.specs.Scales.{AreNoted, AreWeighed}
use Rattle.bean_transactions.specs.Tried as spec
use Rattle.bean_transactions.proofs.legs.note.Given as goal

-- those of the postings so far
abbrev pub invariant-loop-one : goal.invariant-loop-one
invariant-loop-one l = record {
  weighed : AreWeighed l.scales (spec.booked_legs l.postings l.posted);
  noted : AreNoted l.scales (map (spec.booked_leg l.postings) (take l.one-index l.posted));
}
