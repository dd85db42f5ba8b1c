use Rattle.std.proofs.Common.{◌≡◌, ◌∙◌, ap, position, subst}
use Rattle.std.specs.Map.{keys_of}
use Rattle.key_counts.specs.Kept.{ArePlaces}
use Rattle.key_counts.proofs.PlaceFacts.{found_nowhere, found_value}
use Rattle.key_counts.proofs.counts.KeyCounts.place_of.Goals as goal

pub returns-in-Some-clause-value : goal.returns-in-Some-clause-value
returns-in-Some-clause-value g c =
    let t = g.Q.Equivalent.equivalent c.args.key in
    let keys : c.in-Some.places ≡ keys_of c.self.inside.slots.items =
    subst (λ o. ArePlaces o (keys_of c.self.inside.slots.items)) c.in-Some.is
    c.self.invariant.places_are in
    found_value t c.args.self.now c.of.result
    (c.of.ensures ∙ ap (position t) (keys ∙ ap keys_of c.self.view_is))

pub returns-in-Some-clause-none : goal.returns-in-Some-clause-none
returns-in-Some-clause-none g c =
    let t = g.Q.Equivalent.equivalent c.args.key in
    let keys : c.in-Some.places ≡ keys_of c.self.inside.slots.items =
    subst (λ o. ArePlaces o (keys_of c.self.inside.slots.items)) c.in-Some.is
    c.self.invariant.places_are in
    found_nowhere t c.args.self.now c.of.result
    (c.of.ensures ∙ ap (position t) (keys ∙ ap keys_of c.self.view_is))

pub returns-in-None-clause-value : goal.returns-in-None-clause-value
returns-in-None-clause-value g c =
    let t = g.Q.Equivalent.equivalent c.args.key in
    found_value t c.args.self.now c.place_in.result
    (c.place_in.ensures
    ∙ ap (λ l. position t (keys_of l)) (c.as_slice.ensures.value ∙ c.self.view_is))

pub returns-in-None-clause-none : goal.returns-in-None-clause-none
returns-in-None-clause-none g c =
    let t = g.Q.Equivalent.equivalent c.args.key in
    found_nowhere t c.args.self.now c.place_in.result
    (c.place_in.ensures
    ∙ ap (λ l. position t (keys_of l)) (c.as_slice.ensures.value ∙ c.self.view_is))
