use Rattle.std.proofs.Common.{◌≡◌, [], length}
use Rattle.pieces.specs.Pieces.{pieced}
use Rattle.pieces.proofs.pieces.parts.next_of.Given as goal

abbrev pub invariant-loop-piece : goal.invariant-loop-piece
invariant-loop-piece g l =
    pieced l.pieces.rest.items [] ≡ pieced l.initial.pieces.rest.items []

abbrev pub decreases-loop-piece : goal.decreases-loop-piece
decreases-loop-piece g l = length l.pieces.rest.items
