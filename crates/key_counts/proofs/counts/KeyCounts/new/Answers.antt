use Rattle.std.proofs.Common.{subst, sym}
use Rattle.std.specs.List.{IsDistinct}
use Rattle.std.specs.Map.{keys_of}
use Rattle.key_counts.proofs.PlaceFacts.{none_distinct}
use Rattle.key_counts.proofs.counts.KeyCounts.new.Goals as goal

pub invariant_of-result : goal.invariant_of-result
invariant_of-result g c = record {
  distinct =
      subst (λ l. IsDistinct g.K.PartialEq.eq (keys_of l)) (sym c.new.ensures.items)
      (none_distinct g.K.PartialEq.eq);
  places_are = tt;
}
