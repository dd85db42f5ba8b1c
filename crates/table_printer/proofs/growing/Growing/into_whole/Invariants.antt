use Rattle.std.proofs.Common.{◌≡◌, take}
use Rattle.table_printer.specs.Growing.{together}
use Rattle.table_printer.proofs.growing.Growing.into_whole.Given as goal

abbrev pub invariant-loop-piece : goal.invariant-loop-piece
invariant-loop-piece l = l.text.items ≡ together (take l.piece-index l.piece-items)
