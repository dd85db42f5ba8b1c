use Rattle.std.proofs.Common.{◌∙◌, not, ap, subst, sym}
use Rattle.std.specs.List.{IsDistinct, list_any}
use Rattle.std.specs.Map.{keys_of}
use Rattle.std.proofs.lemmas.Map.Keys.{IsDistinct-push}
use Rattle.key_counts.proofs.PlaceFacts.{keys_pushed, none_hashed, none_in}
use Rattle.key_counts.proofs.counts.KeyCounts.push.Goals as goal

pub invariant_of-self-then-len-lt-FEW : goal.invariant_of-self-then-len-lt-FEW
invariant_of-self-then-len-lt-FEW g c =
    let es = c.self.inside.slots.items in
    let k = c.args.key in
    let absent =
    ap (λ l. list_any (g.K.PartialEq.eq k) (keys_of l)) c.self.view_is
    ∙ none_in (g.K.PartialEq.eq k) c.args.self.now c.requires.absent in
    let keys = ap keys_of c.in_ok-push.ensures.items ∙ keys_pushed es k _ in
    record {
      distinct =
          subst (IsDistinct g.K.PartialEq.eq) (sym keys)
          (IsDistinct-push g.met.K.Eq.laws (keys_of es) k c.self.invariant.distinct absent);
      places_are =
          none_hashed c.self.inside.places (keys_of c.push.new.self.items)
          (c.is_none.ensures ∙ ap not c.if-is_none.true);
    }
