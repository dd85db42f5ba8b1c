use Rattle.std.proofs.Common.{◌≡◌, drop}
use Rattle.std.specs.List.{list_all}
use Rattle.cell_texts.specs.CellText.{is_plain}
use Rattle.cell_texts.proofs.inventories.are_plain.Given as goal

-- whether all are is left to the rest
abbrev pub invariant-loop-place : goal.invariant-loop-place
invariant-loop-place l = list_all is_plain (drop l.place l.entries) ≡ list_all is_plain l.entries
