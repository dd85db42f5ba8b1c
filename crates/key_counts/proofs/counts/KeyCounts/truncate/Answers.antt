use Rattle.std.proofs.Common.{◌∙◌, ap, subst, sym}
use Rattle.std.specs.List.{IsDistinct}
use Rattle.std.specs.Map.{keys_of}
use Rattle.indexmap.proofs.MapLemmas.{distinct-take}
use Rattle.key_counts.specs.Kept.{ArePlaces}
use Rattle.key_counts.proofs.PlaceFacts.{keys_before}
use Rattle.key_counts.proofs.counts.KeyCounts.truncate.Goals as goal

pub invariant_of-self : goal.invariant_of-self
invariant_of-self g c =
    let es = c.self.inside.slots.items in
    let keys = ap keys_of c.truncate.ensures.items ∙ keys_before es c.args.len in
    record {
      distinct =
          subst (IsDistinct g.K.PartialEq.eq) (sym keys)
          (distinct-take g.met.K.Eq.laws c.args.len (keys_of es) c.self.invariant.distinct);
      places_are =
          subst (ArePlaces c.keep_before.new.places) (sym keys)
          (c.keep_before.ensures (keys_of es) c.self.invariant.places_are);
    }
