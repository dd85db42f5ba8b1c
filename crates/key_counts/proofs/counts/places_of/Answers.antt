use Rattle.std.proofs.Common.{◌≡◌, ◌∙◌, Some, length, refl, take, ap, slice_get}
use Rattle.std.specs.List.{list_any}
use Rattle.std.specs.Map.{keys_of}
use Rattle.std.proofs.lemmas.Option.{slice_get_read}
use Rattle.key_counts.proofs.PlaceFacts.{new_in_front}
use Rattle.key_counts.proofs.counts.places_of.Goals as goal

pub push-requires : goal.push-requires
push-requires g c =
    let es = c.args.slots.now in
    let i = c.loop-place.place in
    let at : slice_get es i ≡ Some c.index-slots-place.result =
    slice_get_read es (length es) i _ refl c.loop-place-test.true c.index-slots-place.is in
    ap (list_any (g.K.PartialEq.eq c.lend.result)) c.loop-place.invariant
    ∙ ap (λ k. list_any (g.K.PartialEq.eq k) (keys_of (take i es))) c.lend.ensures
    ∙ new_in_front g.met.K.Eq.laws es i c.index-slots-place.result c.requires at
