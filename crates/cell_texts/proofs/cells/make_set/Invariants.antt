use Rattle.std.proofs.Common.{◌≡◌, take}
use Rattle.std.specs.String.{string_bytes}
use Rattle.cell_texts.specs.CellText.{set_text}
use Rattle.cell_texts.proofs.cells.make_set.Given as goal

abbrev pub invariant-loop-i : goal.invariant-loop-i
invariant-loop-i l = string_bytes l.clean ≡ set_text (take l.i l.set)
