use Rattle.std.proofs.Common.{◌++◌, ◌∷◌, [], ap, ◌∙◌}
use Rattle.pieces.specs.Pieces.{pieced}
use Rattle.pieces.proofs.PieceFacts.{turned}
use Rattle.pieces.proofs.pieces.parts.Parts.new.Goals as goal

pub returns : goal.returns
returns g c =
    let full = c.list.inside.full.items in
    let last = c.list.inside.last.items in
    let all = c.into_iter.ensures.rest ∙ c.in_ok-push.ensures.items ∙ ap (λ p. full ++ p ∷ []) c.new.ensures in
    (λ i. pieced (all i) []) ∙ turned full last ∙ c.list.view_is
