use Rattle.std.proofs.Common.{◌∙◌, ap, subst, sym}
use Rattle.std.specs.List.{IsDistinct}
use Rattle.std.specs.Map.{keys_of}
use Rattle.key_counts.specs.Kept.{ArePlaces}
use Rattle.key_counts.proofs.PlaceFacts.{distinct_without, keys_without}
use Rattle.key_counts.proofs.counts.KeyCounts.remove.Goals as goal

pub invariant_of-self : goal.invariant_of-self
invariant_of-self g c =
    let es = c.self.inside.slots.items in
    let keys = ap keys_of c.remove.ensures.items ∙ keys_without es c.args.place in
    record {
      distinct =
          subst (IsDistinct g.K.PartialEq.eq) (sym keys)
          (distinct_without g.K.PartialEq.eq (keys_of es) c.args.place c.self.invariant.distinct);
      places_are =
          subst (ArePlaces c.forget.new.places) (sym keys)
          (c.forget.ensures (keys_of es) c.self.invariant.places_are);
    }
