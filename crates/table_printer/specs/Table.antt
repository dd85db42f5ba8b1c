-- The text of a table: a header line, a rule and the rows.
use Rattle.std.specs.Prelude.{◌≡◌, ◌<◌, ℕ, ◌+◌, max, Bool, false, List, [], ◌∷◌, ◌++◌, length, map, fold}
use Rattle.std.specs.Prelude.{slice_get, slice_index_or}
use Rattle.std.specs.List.{flat_map, list_any, range_with_len}
use Rattle.std.specs.Option.{option_map_or}
use Rattle.bean_base.specs.Character.{line_feed}
use Rattle.table_printer.specs.Layout.{trimmed, joined, rule_of}
use Rattle.cell_texts.specs.Width.{filled, text_width}
use Rattle.cell_texts.specs.CellText.{is_number, clean_text, cell_text}
use Rattle.query_values.specs.declared.value.Value.{Value}

-- a text in a line of the table, and whether it stands at the right of its column
pub record PlacedText : Type 0 where
  pub text : List ℕ
  pub stands_right : Bool

abbrev pub text_of : (List ℕ → ℕ) → Value → PlacedText
text_of display value = record { text = cell_text display value; stands_right = is_number value }

-- a row: none behind the last
abbrev pub row_at : List (List Value) → ℕ → List Value
row_at rows i = slice_index_or rows i []

abbrev pub is_number_at : ℕ → List Value → Bool
is_number_at i row = option_map_or is_number (slice_get row i) false

-- some row has a number in the column i
abbrev pub has_number : ℕ → List (List Value) → Bool
has_number i rows = list_any (is_number_at i) rows

-- no row has a number in the column i
abbrev pub HasNoNumber : ℕ → List (List Value) → Type 0
HasNoNumber i rows = (k : ℕ) → k < length rows → is_number_at i (row_at rows k) ≡ false

-- the names of the columns from i on; a name stands right over numbers
abbrev pub headers_from : ℕ → List (List Value) → List (List ℕ) → List PlacedText
headers_from i rows [] = []
headers_from i rows (name ∷ names) =
    record { text = clean_text name; stands_right = has_number i rows }
    ∷ headers_from (i + 1) rows names

-- the width of a line's cell in the column i
abbrev pub width_at : ℕ → List PlacedText → ℕ
width_at i cells = option_map_or (λ cell. text_width cell.text) (slice_get cells i) 0

-- the greatest width of a column's cells, and at least 1
abbrev pub column_width : List (List PlacedText) → ℕ → ℕ
column_width lines i = fold max 1 (map (width_at i) lines)

abbrev pub padded : ℕ → PlacedText → List ℕ
padded column cell = filled cell.stands_right column (text_width cell.text) cell.text

abbrev pub pieces : List ℕ → List PlacedText → List (List ℕ)
pieces [] cells = []
pieces (width ∷ widths) [] = []
pieces (width ∷ widths) (cell ∷ cells) = padded width cell ∷ pieces widths cells

-- two spaces between columns, no spaces at the end, and a line feed
abbrev pub line_of : List ℕ → List PlacedText → List ℕ
line_of widths cells = trimmed (joined (pieces widths cells)) ++ line_feed ∷ []

abbrev pub widths_of : List PlacedText → List (List PlacedText) → List ℕ
widths_of headers rows = map (column_width (headers ∷ rows)) (range_with_len 0 (length headers))

abbrev pub lines_of : List PlacedText → List (List PlacedText) → List ℕ
lines_of headers rows =
    let widths = widths_of headers rows in
    line_of widths headers ++ rule_of widths ++ flat_map (line_of widths) rows

-- names and rows under them, where `display` has the display decimals of the currencies
abbrev pub table_text : List (List ℕ) → List (List Value) → (List ℕ → ℕ) → List ℕ
table_text names rows display =
    lines_of (headers_from 0 rows names) (map (map (text_of display)) rows)
