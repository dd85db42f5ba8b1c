use Rattle.std.proofs.Common.{◌≡◌, ◌<◌, ◌∙◌, Some, length, refl, ap, arith, slice_get, subst, sym, to_z, of_z}
use Rattle.std.specs.Int.{w128}
use Rattle.std.specs.List.{IsDistinct}
use Rattle.std.specs.Map.{keys_of}
use Rattle.std.proofs.lemmas.Int.{ints}
use Rattle.std.proofs.lemmas.Option.{slice_get_read}
use Rattle.indexmap.specs.IndexMap.{set_value_at}
use Rattle.key_counts.specs.Kept.{ArePlaces}
use Rattle.key_counts.proofs.PlaceFacts.{keys_written, written}
use Rattle.key_counts.proofs.counts.KeyCounts.set.Goals as goal

pub invariant_of-self : goal.invariant_of-self
invariant_of-self g c =
    let es = c.self.inside.slots.items in
    let n = to_z w128 (of_z w128 c.args.count) in
    let inside = subst (λ l. c.args.place < length l) (sym c.self.view_is) c.requires in
    let at : slice_get es c.args.place ≡ Some c.index_mut.result.now =
    slice_get_read es (length es) c.args.place _ refl inside c.index_mut.ensures.value in
    let keys =
    ap keys_of (written es c.args.place c.index_mut.result.now n at)
    ∙ keys_written es c.args.place n in
    record {
      distinct = subst (IsDistinct g.K.PartialEq.eq) (sym keys) c.self.invariant.distinct;
      places_are = subst (ArePlaces c.self.inside.places) (sym keys) c.self.invariant.places_are;
    }

pub returns : goal.returns
returns g c =
    let es = c.self.inside.slots.items in
    let n = to_z w128 (of_z w128 c.args.count) in
    let inside = subst (λ l. c.args.place < length l) (sym c.self.view_is) c.requires in
    let at : slice_get es c.args.place ≡ Some c.index_mut.result.now =
    slice_get_read es (length es) c.args.place _ refl inside c.index_mut.ensures.value in
    let wide : n ≡ c.args.count = omega (arith, ints) in
    written es c.args.place c.index_mut.result.now n at
    ∙ ap (set_value_at es c.args.place) wide
    ∙ ap (λ l. set_value_at l c.args.place c.args.count) c.self.view_is
