-- What stands over a column.
use Rattle.std.specs.Prelude.{ℕ, max, ◌||◌, false, List, [], ◌∷◌}
use Rattle.query_values.specs.declared.value.Value.{Value}
use Rattle.cell_texts.specs.CellText.{cell_text, clean_text, is_number}
use Rattle.table_printer.specs.Table.{PlacedText}
use Rattle.cell_texts.specs.Width.{text_width}
use Rattle.table_printer.specs.declared.headings.Heading.{Heading}

-- the name of a column, as it stands in the header line
abbrev pub heading_text : Heading → PlacedText
heading_text heading = record { text = clean_text heading.name; stands_right = heading.has_numbers }

abbrev pub width_of : Heading → ℕ
width_of heading = heading.width

-- the heading of a column without rows
abbrev pub bare_heading : List ℕ → Heading
bare_heading name =
    record { name = name; width = max (text_width (clean_text name)) 1; has_numbers = false }

-- the heading with one more cell under it
abbrev pub with_cell : (List ℕ → ℕ) → Heading → Value → Heading
with_cell display h v = record {
  name = h.name;
  width = max h.width (text_width (cell_text display v));
  has_numbers = h.has_numbers || is_number v;
}

-- the headings with one more row under them
abbrev pub with_row : (List ℕ → ℕ) → List Heading → List Value → List Heading
with_row display [] vs = []
with_row display (h ∷ hs) [] = h ∷ hs
with_row display (h ∷ hs) (v ∷ vs) = with_cell display h v ∷ with_row display hs vs
