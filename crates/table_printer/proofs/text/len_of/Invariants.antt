use Rattle.std.proofs.Common.{◌≡◌, length, take}
use Rattle.table_printer.specs.Growing.{together}
use Rattle.table_printer.proofs.text.len_of.Given as goal

abbrev pub invariant-loop-piece : goal.invariant-loop-piece
invariant-loop-piece l = l.len ≡ length (together (take l.piece-index l.pieces))
