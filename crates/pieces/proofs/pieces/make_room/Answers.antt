use Rattle.std.proofs.Common.{◌∙◌}
use Rattle.pieces.specs.Pieces.{pieced}
use Rattle.pieces.proofs.PieceFacts.{turned}
use Rattle.pieces.proofs.pieces.make_room.Goals as goal

pub returns-in_ok-begin_piece-clause-same : goal.returns-in_ok-begin_piece-clause-same
returns-in_ok-begin_piece-clause-same g c =
    (λ i. pieced (c.in_ok-begin_piece.ensures.begun i) (c.in_ok-begin_piece.ensures.empty i))
    ∙ turned c.args.full.now.items c.args.last.now.items
