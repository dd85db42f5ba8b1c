-- What stands of a table of which some rows are printed.
use Rattle.std.specs.Prelude.{◌≡◌, ℕ, ◌+◌, List, [], ◌∷◌, ◌++◌, Option, None, Some, ⊤, fold, length, map, max, take}
use Rattle.std.specs.Prelude.{false, slice_get}
use Rattle.std.specs.List.{flat_map}
use Rattle.cell_texts.specs.CellText.{clean_text}
use Rattle.cell_texts.specs.Width.{text_width}
use Rattle.query_values.specs.declared.value.Value.{Value}
use Rattle.table_printer.specs.Growing.{grown}
use Rattle.table_printer.specs.Heading.{heading_text, width_of}
use Rattle.table_printer.specs.Layout.{rule_of}
use Rattle.table_printer.specs.Table.{HasNoNumber, PlacedText, headers_from, line_of, text_of, width_at, widths_of}
use Rattle.table_printer.specs.declared.headings.Heading.{Heading}
use Rattle.table_printer.specs.declared.printer.Printer.{Printer}

-- the head of a table: its header line and its rule
abbrev pub head_of : List ℕ → List PlacedText → List ℕ
head_of widths headers = line_of widths headers ++ rule_of widths

-- Of a table of these names and these rows, where `display` has the display decimals, the columns are
-- measured over all rows, and the text is that of the head and the lines of some.
pub record IsMeasured (names : List (List ℕ)) (all done : List (List Value)) (display : List ℕ → ℕ)
    (headings : List Heading) (text : List ℕ) : Type 0 where
  pub headers : map heading_text headings ≡ headers_from 0 all names
  pub widths : map width_of headings
      ≡ widths_of (headers_from 0 all names) (map (map (text_of display)) all)
  pub lines : text ≡ head_of (map width_of headings) (map heading_text headings)
      ++ flat_map (line_of (map width_of headings)) (map (map (text_of display)) done)

-- The same where the last column has no numbers, and is measured over the rows whose lines there are:
-- how wide it is shows in none of these, but in the head, which isn't made yet.
pub record IsLeftOpen (names : List (List ℕ)) (all done : List (List Value)) (display : List ℕ → ℕ)
    (headings : List Heading) (last : Heading) (text : List ℕ) : Type 0 where
  pub many : length headings + 1 ≡ length names
  pub none : HasNoNumber (length headings) all
  pub headers : map heading_text headings ≡ headers_from 0 all (take (length headings) names)
  pub widths : map width_of headings
      ≡ widths_of (headers_from 0 all (take (length headings) names))
      (map (map (text_of display)) all)
  pub name : Some last.name ≡ slice_get names (length headings)
  pub left : last.has_numbers ≡ false
  pub width : last.width ≡ fold max (max (text_width (clean_text last.name)) 1)
      (map (width_at (length headings)) (map (map (text_of display)) done))
  pub lines : (w : ℕ) → text ≡ flat_map (line_of (map width_of headings ++ w ∷ []))
      (map (map (text_of display)) done)

abbrev pub Stands : List (List ℕ) → List (List Value) → List (List Value) → (List ℕ → ℕ)
    → Option Heading → List Heading → List ℕ → Type 0
Stands names all done display None headings text = IsMeasured names all done display headings text
Stands names all done display (Some last) headings text =
    IsLeftOpen names all done display headings last text

-- of the table of these names and all of these rows some are printed
abbrev pub IsPrinted : List (List ℕ) → List (List Value) → List (List Value) → (List ℕ → ℕ) → Printer
    → Type 0
IsPrinted names all done display p =
    Stands names all done display p.own p.headings.items (grown p.lines)

-- how many columns there are
abbrev pub count_with : Option Heading → ℕ → ℕ
count_with None n = n
count_with (Some last) n = n + 1

abbrev pub columns_of : Printer → ℕ
columns_of p = count_with p.own (length p.headings.items)

-- where the last column is left open, none of the rows has a number there
abbrev pub NoneIn : Option Heading → ℕ → List (List Value) → Type 0
NoneIn None n rows = ⊤
NoneIn (Some last) n rows = HasNoNumber n rows

abbrev pub MayLeaveOpen : Printer → List (List Value) → Type 0
MayLeaveOpen p rows = NoneIn p.own (length p.headings.items) rows
