-- What a table's rows and names have in a column.
use Rattle.std.proofs.Common.{◌≡◌, ℕ, zero, suc, ◌+◌, ◌<◌, List, []}
use Rattle.std.proofs.Common.{◌∷◌, length, get_or, map, Some, unwrap_or, refl, sym, ap}
use Rattle.std.proofs.Common.{◌∙◌, arith}
use Rattle.std.specs.List.{slice_get}
use Rattle.std.specs.Option.{option_map, option_map_or}
use Rattle.std.proofs.lemmas.Option.{slice_get-map, slice_get_read, slice_get-get_or}
use Rattle.std.proofs.lemmas.Option.{slice_get_within, get_or_from_slice_get}
use Rattle.query_values.specs.declared.value.Value.{Value}
use Rattle.table_printer.specs.Table.{headers_from, row_at, text_of, width_at}
use Rattle.cell_texts.specs.Width.{text_width}
use Rattle.cell_texts.specs.CellText.{clean_text, cell_text}
use Rattle.table_printer.specs.Heading.{heading_text}
use Rattle.table_printer.specs.Line.{placed_text, header_cells, row_cells}
use Rattle.table_printer.specs.declared.headings.Heading.{Heading}

-- a row of rows
pub row_seen : {X : Type 0} (rows : List (List X)) (i : ℕ) (row : List X) → i < length rows
    → row ≡ get_or rows i row → row ≡ get_or rows i []
row_seen rows i row within is =
    sym (get_or_from_slice_get rows i row []
    (slice_get_read rows (length rows) i row refl within is))

-- what a row has
pub cell_seen : {X : Type 0} (row : List X) (j : ℕ) (x : X) → j < length row → x ≡ get_or row j x
    → Some x ≡ slice_get row j
cell_seen row j x within is = sym (slice_get_read row (length row) j x refl within is)

-- a row is what stands at its place, whatever stands behind the last
pub row_is : (rows : List (List Value)) (i : ℕ) → i < length rows
    → row_at rows i ≡ get_or rows i (row_at rows i)
row_is rows i within =
    sym (get_or_from_slice_get rows i (row_at rows i) (row_at rows i)
    (slice_get-get_or rows i [] within))

pub width_seen : (places : List ℕ → ℕ) (row : List Value) (i : ℕ) (v : Value)
    → Some v ≡ slice_get row i
    → width_at i (map (text_of places) row) ≡ text_width (cell_text places v)
width_seen places row i v is =
    ap (λ o. option_map_or (λ cell. text_width cell.text) o 0)
    (slice_get-map (text_of places) row i ∙ ap (option_map (text_of places)) (sym is))

pub name_width : (k : ℕ) (rows : List (List Value)) (names : List (List ℕ)) (i : ℕ) (name : List ℕ)
    → Some name ≡ slice_get names i
    → width_at i (headers_from k rows names) ≡ text_width (clean_text name)
name_width k rows [] i name is = let within = slice_get_within [] i name (sym is) in
    absurd (omega arith)
name_width k rows (n ∷ ns) zero name is = ap (λ o. text_width (clean_text (unwrap_or o n))) (sym is)
name_width k rows (n ∷ ns) (suc i) name is = name_width (k + 1) rows ns i name is

pub length-headers_from : (k : ℕ) (rows : List (List Value)) (names : List (List ℕ))
    → length (headers_from k rows names) ≡ length names
length-headers_from k rows [] = refl
length-headers_from k rows (n ∷ ns) = ap suc (length-headers_from (k + 1) rows ns)

-- the texts of the header line and of a row
pub header_texts : (places : List ℕ → ℕ) (columns : List Heading)
    → map (placed_text places) (header_cells columns) ≡ map heading_text columns
header_texts places [] = refl
header_texts places (c ∷ cs) = ap (λ l. heading_text c ∷ l) (header_texts places cs)

pub row_texts : (places : List ℕ → ℕ) (row : List Value)
    → map (placed_text places) (row_cells row) ≡ map (text_of places) row
row_texts places [] = refl
row_texts places (v ∷ vs) = ap (λ l. text_of places v ∷ l) (row_texts places vs)
