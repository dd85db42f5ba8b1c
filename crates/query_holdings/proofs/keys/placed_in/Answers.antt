use Rattle.std.proofs.Common.{◌++◌, [], ◌∷◌, sym, ap₂, ◌∙◌}
use Rattle.query_holdings.proofs.KeptFacts.{placed_more}
use Rattle.query_holdings.proofs.keys.placed_in.Goals as goal

pub loop-place-preserved : goal.loop-place-preserved
loop-place-preserved c =
    let keys = c.args.keys.now in
    let i = c.loop-place.place in
    let k = c.index-keys-place.result in
    c.in_ok-push.ensures.items
    ∙ ap₂ (λ l q. l ++ record { key = q; place = i } ∷ []) c.loop-place.invariant c.lend.ensures
    ∙ sym (placed_more keys i k c.loop-place-test.true c.index-keys-place.is)
