-- The bytes of a text for standard output.
use Rattle.std.specs.Prelude.{ℕ, List}
use Rattle.bq.specs.declared.text.Kept.{Kept}
use Rattle.bq.specs.declared.text.Kept.TheVariants.{Whole, Lines, Table}

-- those that stand whole, those of lines, or those of a table
abbrev pub bytes_of : Kept → List ℕ
bytes_of (Whole bytes) = bytes
bytes_of (Lines lines) = lines
bytes_of (Table table) = table
