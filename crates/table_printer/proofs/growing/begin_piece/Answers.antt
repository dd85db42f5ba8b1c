use Rattle.std.proofs.Common.{◌∷◌, [], ◌++◌, ap, ◌∙◌}
use Rattle.table_printer.proofs.growing.begin_piece.Goals as goal

pub returns-clause-begun : goal.returns-clause-begun
returns-clause-begun c =
    c.in_ok-push.ensures.items
    ∙ ap (λ p. c.args.full.now.items ++ p ∷ [])
    (c.new.ensures ∙ ap (λ v. v.items) c.replace.ensures.value)
