use Rattle.std.proofs.Common.{◌∙◌}
use Rattle.pieces.specs.Pieces.{pieced}
use Rattle.pieces.proofs.PieceFacts.{turned}
use Rattle.table_printer.proofs.growing.Growing.make_room.Goals as goal

pub returns-in_ok-begin_piece : goal.returns-in_ok-begin_piece
returns-in_ok-begin_piece c =
    (λ i. pieced (c.in_ok-begin_piece.ensures.begun i) (c.in_ok-begin_piece.ensures.empty i))
    ∙ turned c.args.self.now.full.items c.args.self.now.last.items
