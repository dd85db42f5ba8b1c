use Rattle.std.proofs.Common.{◌≡◌, ◌∙◌, ◌++◌, ◌∷◌, [], false, IfSome, to_z, of_z, ap, subst, sym}
use Rattle.std.specs.Int.{w128}
use Rattle.std.specs.List.{IsDistinct, list_any}
use Rattle.std.specs.Map.{keys_of}
use Rattle.std.proofs.lemmas.Map.Keys.{IsDistinct-push}
use Rattle.key_counts.specs.Kept.{ArePlaces}
use Rattle.key_counts.proofs.PlaceFacts.{keys_pushed, none_among, none_in}
use Rattle.key_counts.proofs.counts.KeyCounts.push_hashed.Goals as goal

pub hash_key-requires : goal.hash_key-requires
hash_key-requires g c =
    let es = c.self.inside.slots.items in
    let k = c.args.key in
    let absent =
    ap (λ l. list_any (g.K.PartialEq.eq k) (keys_of l)) c.self.view_is
    ∙ none_in (g.K.PartialEq.eq k) c.args.self.now c.requires.absent in
    subst
    (λ q. IfSome c.self.inside.places (λ keys. list_any (g.K.PartialEq.eq q) keys ≡ false))
    (sym c.lend.ensures)
    (none_among (g.K.PartialEq.eq k) c.self.inside.places (keys_of es)
    c.self.invariant.places_are absent)

pub invariant_of-self-2 : goal.invariant_of-self-2
invariant_of-self-2 g c =
    let es = c.self.inside.slots.items in
    let k = c.args.key in
    let absent =
    ap (λ l. list_any (g.K.PartialEq.eq k) (keys_of l)) c.self.view_is
    ∙ none_in (g.K.PartialEq.eq k) c.args.self.now c.requires.absent in
    let same = c.in_ok-reserve.ensures.items in
    let n = to_z w128 (of_z w128 c.args.count) in
    let keys =
    ap keys_of (c.in_ok-push.ensures.items ∙ ap (λ l. l ++ (k, n) ∷ []) same)
    ∙ keys_pushed es k n in
    record {
      distinct =
          subst (IsDistinct g.K.PartialEq.eq) (sym keys)
          (IsDistinct-push g.met.K.Eq.laws (keys_of es) k c.self.invariant.distinct absent);
      places_are =
          subst (ArePlaces c.hash_key.new.places)
          (ap (λ q. keys_of es ++ q ∷ []) c.lend.ensures ∙ sym keys)
          (c.in_ok-hash_key.ensures.ok (keys_of es) c.self.invariant.places_are);
    }
