use Rattle.std.proofs.Common.{◌≡◌, length, take}
use Rattle.outputs.specs.Output.{TookInPieces}
use Rattle.table_printer.specs.Growing.{together}
use Rattle.table_printer.proofs.text.write_pieces.Given as goal

abbrev pub invariant-loop-piece : goal.invariant-loop-piece
invariant-loop-piece g l = record {
  took : TookInPieces g.W.Output l.initial.out l.out (together (take l.piece-index l.pieces)) l.written;
  whole : l.written ≡ length (together (take l.piece-index l.pieces));
}
