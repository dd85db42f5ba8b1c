use Rattle.std.proofs.Common.{unwrap_or, ap, ◌∙◌}
use Rattle.bean_lots.specs.Lot.{same_text}
use Rattle.bean_inventories.specs.Signs.{no_signs}
use Rattle.bean_inventories.proofs.SignFacts.{put_or_before}
use Rattle.bean_inventories.proofs.inventory.signs.SignTable.set.Goals as goal

pub returns-clause-ok : goal.returns-clause-ok
returns-clause-ok c = λ cur.
    ap (λ o. unwrap_or o no_signs) (c.in_ok-insert.ensures.updates.0 (record { currency = cur }))
    ∙ put_or_before (same_text c.args.currency cur) c.args.signs no_signs _
