use Rattle.std.proofs.Common.{◌++◌, ◌∷◌, [], ap, ◌∙◌}
use Rattle.table_printer.specs.Growing.{together}
use Rattle.table_printer.proofs.GrowingFacts.{behind_head}
use Rattle.table_printer.proofs.text.behind.Goals as goal

pub returns : goal.returns
returns c =
    let full = c.args.lines.full.items in
    let last = c.args.lines.last.items in
    ap together
    (c.in_ok-insert.ensures.items
    ∙ (λ i. c.new-2.ensures i ∷ (c.in_ok-push.ensures.items ∙ ap (λ p. full ++ p ∷ []) c.new.ensures) i))
    ∙ behind_head full c.args.head.items last
