-- Rows whose last cell stands left.
use Rattle.std.proofs.Common.{◌≡◌, ℕ, ◌+◌, ◌-◌, ◌<◌, max, Bool, true, false, List, []}
use Rattle.std.proofs.Common.{◌∷◌, ◌++◌, length, take, drop, map, fold, Some, replicate}
use Rattle.std.proofs.Common.{refl, sym, ap, ◌∙◌, arith, cond, length-take-le}
use Rattle.std.proofs.Common.{nat_lt}
use Rattle.std.proofs.lemmas.Bool.Decides.{nat_tests}
use Rattle.std.specs.Option.{option_map_or}
use Rattle.std.specs.List.{flat_map, slice_get}
use Rattle.std.proofs.lemmas.List.{map-append, take_all, take_more}
use Rattle.std.proofs.lemmas.List.Folds.{list_any_none}
use Rattle.std.proofs.lemmas.List.Sums.{fold-append}
use Rattle.std.proofs.lemmas.Option.{get_or_from_slice_get, slice_get_within, slice_get-get_or}
use Rattle.query_values.specs.declared.value.Value.{Value}
use Rattle.cell_texts.specs.CellText.{cell_text, clean_text, is_number}
use Rattle.table_printer.specs.Heading.{heading_text, width_of}
use Rattle.table_printer.specs.Layout.{before_gap, joined}
use Rattle.table_printer.specs.Line.{placed_text, row_cells}
use Rattle.table_printer.specs.Table.{HasNoNumber, has_number, headers_from, is_number_at}
use Rattle.table_printer.specs.Table.{padded, pieces, row_at, text_of, width_at, widths_of}
use Rattle.cell_texts.specs.Width.{text_width}
use Rattle.table_printer.specs.declared.headings.Heading.{Heading}
use Rattle.table_printer.proofs.LayoutFacts.{behind_of, front_of}
use Rattle.table_printer.proofs.InColumn.{row_texts}
use Rattle.table_printer.proofs.TableFacts.{line_joined}
use Rattle.table_printer.proofs.HeadingFacts.{texts_are, under, widest, widths_are}

-- one more row without a number in a column
pub one_more_without : (rows : List (List Value)) (column n : ℕ) (row : List Value) (v : Value)
    → ((k : ℕ) → k < n → is_number_at column (row_at rows k) ≡ false)
    → row ≡ row_at rows n → Some v ≡ slice_get row column → is_number v ≡ false
    → (k : ℕ) → k < n + 1 → is_number_at column (row_at rows k) ≡ false
one_more_without rows column n row v before at is none k within = by (nat_lt k n) refl
  where
    here : is_number_at column (row_at rows n) ≡ false
    here = ap (is_number_at column) (sym at) ∙ ap (λ o. option_map_or is_number o false) (sym is)
        ∙ none

    by : (b : Bool) → nat_lt k n ≡ b → is_number_at column (row_at rows k) ≡ false
    by true less = before k (let e : k < n = grind (arith, nat_tests, less) in e)
    by false less =
        let e : k ≡ n = grind (arith, nat_tests, less, within) in
        ap (λ i. is_number_at column (row_at rows i)) e ∙ here

-- no row has one
pub none_has : (column : ℕ) (rows : List (List Value)) → HasNoNumber column rows
    → has_number column rows ≡ false
none_has column rows none =
    list_any_none (is_number_at column) rows
    (λ k d within. ap (is_number_at column)
    (get_or_from_slice_get rows k (row_at rows k) d (slice_get-get_or rows k [] within))
    ∙ none k within)

-- a line whose last cell is left open
pub open_line : (d : List ℕ → ℕ) (ws : List ℕ) (w : ℕ) (row : List Value) (v : Value)
    → Some v ≡ slice_get row (length ws)
    → flat_map before_gap (pieces ws (map (placed_text d) (row_cells row))) ++ padded w (text_of d v)
    ≡ joined (pieces (ws ++ w ∷ []) (map (text_of d) row))
open_line d ws w row v is =
    ap (λ l. flat_map before_gap (pieces ws l) ++ padded w (text_of d v)) (row_texts d row)
    ∙ line_joined (text_of d) ws w row v is

-- a cell that is no number is filled behind
pub left_filled : (d : List ℕ → ℕ) (n w : ℕ) (row : List Value) (v : Value)
    → Some v ≡ slice_get row n → is_number_at n row ≡ false
    → cell_text d v ++ replicate (w - text_width (cell_text d v)) 32 ≡ padded w (text_of d v)
left_filled d n w row v is none =
    let text = cell_text d v in
    ap (λ b. cond b (replicate (w - text_width text) 32 ++ text)
    (text ++ replicate (w - text_width text) 32))
    (sym (ap (λ o. option_map_or is_number o false) is ∙ none))

-- the greatest width of one more row
pub most_more : (d : List ℕ → ℕ) (k start : ℕ) (rows : List (List Value)) (i : ℕ)
    → i < length rows
    → max (fold max start (map (width_at k) (map (map (text_of d)) (take i rows))))
    (width_at k (map (text_of d) (row_at rows i)))
    ≡ fold max start (map (width_at k) (map (map (text_of d)) (take (i + 1) rows)))
most_more d k start rows i within =
    let front = take i rows in
    let row = row_at rows i in
    let texts = map (map (text_of d)) front in
    sym (fold-append max start (map (width_at k) texts) (width_at k (map (text_of d) row) ∷ []))
    ∙ ap (fold max start) (sym (map-append (width_at k) texts (map (text_of d) row ∷ [])))
    ∙ ap (λ l. fold max start (map (width_at k) l))
    (sym (map-append (map (text_of d)) front (row ∷ [])))
    ∙ ap (λ l. fold max start (map (width_at k) (map (map (text_of d)) l)))
    (sym (take_more rows i [] within))

-- the headings of two runs of columns
under_both : (d : List ℕ → ℕ) (k m : ℕ) (rows : List (List Value)) (names : List (List ℕ))
    (name : List ℕ) → m ≡ k + length names
    → under d k rows (names ++ name ∷ []) ≡ under d k rows names ++ under d m rows (name ∷ [])
under_both d k m rows [] name at = ap (λ j. under d j rows (name ∷ [])) (let e : k ≡ m = omega (arith, at) in e)
under_both d k m rows (n ∷ names) name at =
    ap
    (λ l. record { name = n; width = widest d k rows n; has_numbers = has_number k rows } ∷ l)
    (under_both d (k + 1) m rows names name (omega (arith, at)))

module _ (d : List ℕ → ℕ) (rows : List (List Value)) (names : List (List ℕ)) (last : ℕ)
    (name : List ℕ) where
  abbrev pub front : List (List ℕ)
  front = take last names

  all_names : last + 1 ≡ length names → Some name ≡ slice_get names last
      → front ++ name ∷ [] ≡ names
  all_names many is =
      ap (λ x. front ++ x ∷ []) (sym (get_or_from_slice_get names last name name (sym is)))
      ∙ sym (take_more names last name (slice_get_within names last name (sym is)))
      ∙ take_all (last + 1) names (omega (arith, many))

  all_under : last + 1 ≡ length names → Some name ≡ slice_get names last
      → under d 0 rows front ++ under d last rows (name ∷ []) ≡ under d 0 rows names
  all_under many is =
      sym (under_both d 0 last rows front name
      (let e = length-take-le last names (omega (arith, many)) in omega (arith, e)))
      ∙ ap (under d 0 rows) (all_names many is)

  -- the widths of all columns
  pub all_widths : (hs : List Heading) (h : Heading) → last + 1 ≡ length names
      → Some name ≡ slice_get names last
      → map width_of hs ≡ widths_of (headers_from 0 rows front) (map (map (text_of d)) rows)
      → h.width ≡ fold max (max (text_width (clean_text name)) 1)
      (map (width_at last) (map (map (text_of d)) rows))
      → map width_of (hs ++ h ∷ [])
      ≡ widths_of (headers_from 0 rows names) (map (map (text_of d)) rows)
  all_widths hs h many is before wide =
      let w = text_width (clean_text name) in
      let e : max w 1 ≡ max 1 w = omega arith in
      map-append width_of hs (h ∷ [])
      ∙ (λ i. (before ∙ sym (widths_are d rows front)) i
      ++ (wide ∙ ap (λ s. fold max s (map (width_at last) (map (map (text_of d)) rows))) e) i ∷ [])
      ∙ sym (map-append width_of (under d 0 rows front) (under d last rows (name ∷ [])))
      ∙ ap (map width_of) (all_under many is) ∙ widths_are d rows names

  -- the names over all columns
  pub all_headers : (hs : List Heading) (h : Heading) → last + 1 ≡ length names
      → Some name ≡ slice_get names last → HasNoNumber last rows
      → map heading_text hs ≡ headers_from 0 rows front
      → heading_text h ≡ record { text = clean_text name; stands_right = false }
      → map heading_text (hs ++ h ∷ []) ≡ headers_from 0 rows names
  all_headers hs h many is none before own =
      map-append heading_text hs (h ∷ [])
      ∙ (λ i. (before ∙ sym (texts_are d 0 rows front)) i
      ++ (own ∙ ap (λ b. record { text = clean_text name; stands_right = b })
      (sym (none_has last rows none))) i ∷ [])
      ∙ sym (map-append heading_text (under d 0 rows front) (under d last rows (name ∷ [])))
      ∙ ap (map heading_text) (all_under many is) ∙ texts_are d 0 rows names

-- rows before which their head is put
pub turned : (rows head all : List ℕ) (n : ℕ) → n ≡ length rows → all ≡ rows ++ head
    → drop n all ++ take n all ≡ head ++ rows
turned rows head all n at is =
    (λ i. drop (at i) (is i) ++ take (at i) (is i))
    ∙ (λ i. behind_of rows head i ++ front_of rows head i)
