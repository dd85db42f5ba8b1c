use Rattle.std.proofs.Common.{◌++◌, ◌∷◌, [], ap, refl, ◌∙◌}
use Rattle.bean_book.proofs.TakenFacts.{pad_more}
use Rattle.bean_book.proofs.ledger.LedgerRows.pad.Goals as goal

pub returns : goal.returns
returns c = λ details ds so_far.
    let old = c.args.self.now in
    pad_more details ds old _ so_far refl
    (c.in_ok-push.ensures.items
    ∙ ap (λ n. old.places.items ++ n ∷ []) c.len-place.ensures.count)
