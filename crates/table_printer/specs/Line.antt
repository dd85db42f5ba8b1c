-- What stands in a line, before its texts are made.
use Rattle.std.specs.Prelude.{◌≡◌, ◌≤◌, ℕ, List, Option, None, Some, IfSome, map, take}
use Rattle.std.specs.List.{flat_map}
use Rattle.query_values.specs.declared.value.Value.{Value}
use Rattle.query_values.specs.declared.value.Value.TheVariants.{Text}
use Rattle.cell_texts.specs.CellText.{is_number, cell_text}
use Rattle.table_printer.specs.Layout.{before_gap}
use Rattle.table_printer.specs.Table.{PlacedText, pieces, text_of}
use Rattle.table_printer.specs.declared.fronts.Front.{Front}
use Rattle.table_printer.specs.declared.headings.Heading.{Heading}
use Rattle.table_printer.specs.declared.lines.Placed.{Placed}

-- its text, where these are the display decimals of the currencies
abbrev pub placed_text : (List ℕ → ℕ) → Placed → PlacedText
placed_text display placed =
    record { text = cell_text display placed.cell; stands_right = placed.stands_right }

-- the names of columns
abbrev pub header_cells : List Heading → List Placed
header_cells headings =
    map (λ heading. record { cell = Text heading.name; stands_right = heading.has_numbers })
    headings

-- a row
abbrev pub row_cells : List Value → List Placed
row_cells row = map (λ value. record { cell = value; stands_right = is_number value }) row

-- the first cells of a row, so many, each in its column and with the gap behind it
abbrev pub front_text : (List ℕ → ℕ) → List ℕ → ℕ → List Value → List ℕ
front_text display widths count row =
    flat_map before_gap (take count (pieces widths (map (placed_text display) (row_cells row))))

-- what is kept is the front of its row
abbrev pub IsKept : {R : Type 0} → (R → List Value) → (List ℕ → ℕ) → List ℕ → ℕ → Option (Front R)
    → Type 0
IsKept values display widths count kept =
    IfSome kept (λ front. (front.len ≤ 32)
    × (take front.len front.text ≡ front_text display widths count (values front.row)))

-- so many cells at the front of a row show what those of the row before it do, none where there is none
abbrev pub AreAlike : {R : Type 0} → (R → List Value) → ℕ → R → Option R → Type 0
AreAlike values known row None = known ≡ 0
AreAlike values known row (Some before) =
    (display : List ℕ → ℕ) → take known (map (text_of display) (values row))
    ≡ take known (map (text_of display) (values before))
