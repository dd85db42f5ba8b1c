use Rattle.std.proofs.Common.{◌++◌, ◌∷◌, [], ap, ◌∙◌}
use Rattle.pieces.specs.Pieces.{pieced}
use Rattle.pieces.proofs.PieceFacts.{turned}
use Rattle.pieces.proofs.pieces.taken.Taken.new.Goals as goal

pub returns : goal.returns
returns g c =
    let full = c.list.inside.full.items in
    let last = c.list.inside.last.items in
    let none = c.into_iter.ensures.rest ∙ c.new-2.ensures.items in
    let all =
    c.into_iter-2.ensures.rest ∙ c.in_ok-push.ensures.items ∙ ap (λ p. full ++ p ∷ []) c.new.ensures
    in
    (λ i. none i ++ pieced (all i) []) ∙ turned full last ∙ c.list.view_is
