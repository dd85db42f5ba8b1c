use Rattle.std.proofs.Common.{length}
use Rattle.pieces.proofs.pieces.parts.forget_items.Given as goal

abbrev pub decreases-loop-item : goal.decreases-loop-item
decreases-loop-item g l = length l.items.items
