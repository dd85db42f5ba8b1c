use Rattle.std.proofs.Common.{◌++◌, ◌∷◌, [], sym, ap₂, ◌∙◌}
use Rattle.query_holdings.proofs.KeptFacts.{key_more}
use Rattle.query_holdings.proofs.keys.keys_in.Goals as goal

pub loop-place-preserved : goal.loop-place-preserved
loop-place-preserved c =
    c.in_ok-push.ensures.items
    ∙ ap₂ (λ l k. l ++ k ∷ []) c.loop-place.invariant c.lend.ensures
    ∙ sym (key_more c.args.slots.now c.loop-place.place c.slot_at.result.0.now
    c.slot_at.result.1 c.slot_at.ensures)
