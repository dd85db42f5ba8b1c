-- Texts that stand in pieces of memory.
use Rattle.std.specs.Prelude.{ℕ, List}
use Rattle.std.specs.List.{flat_map}
use Rattle.pieces.specs.Pieces.{pieced}
use Rattle.table_printer.specs.declared.growing.Growing.{Growing}

-- all lines, one behind the other
abbrev pub grown : Growing → List ℕ
grown lines = pieced lines.full.items lines.last.items

-- pieces, one behind the other
abbrev pub together : List (List ℕ) → List ℕ
together pieces = flat_map (λ p. p) pieces
