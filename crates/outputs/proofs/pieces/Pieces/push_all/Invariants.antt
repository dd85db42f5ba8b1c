use Rattle.std.proofs.Common.{◌≡◌, ◌+◌, length, take}
use Rattle.outputs.proofs.PieceFacts.{MovesOn}
use Rattle.outputs.specs.Pieces.{length_so_far, together}
use Rattle.outputs.proofs.pieces.Pieces.push_all.Given as goal

abbrev pub invariant-loop-piece : goal.invariant-loop-piece
invariant-loop-piece g l = record {
  moves : MovesOn g.W.Output l.initial.out l.out l.initial.self l.self
      (together (take l.piece-index l.pieces));
  length : length_so_far l.self
      ≡ length_so_far l.initial.self + length (together (take l.piece-index l.pieces));
}
