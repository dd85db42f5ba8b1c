-- What rows have beside what all have.
use Rattle.std.specs.Prelude.{ℕ, ℤ, [], None}
use Rattle.posting_table.specs.declared.beside.BesideParts.{BesideParts}
use Rattle.posting_table.specs.declared.beside.Kept.{Kept}
use Rattle.posting_table.specs.declared.beside.Kept.TheVariants as kept

-- a count and a line with nothing else
abbrev pub count_and_line : ℤ → ℕ → BesideParts
count_and_line count line = record {
  count = count;
  weight = None;
  price = None;
  metadata = [];
  line = line;
  flag = None;
}

-- the parts that are kept
abbrev pub parts_of : Kept → BesideParts
parts_of (kept.Few line count) = count_and_line count line
parts_of (kept.Parts parts) = parts
