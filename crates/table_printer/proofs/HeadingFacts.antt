-- Headings, row by row.
use Rattle.std.proofs.Common.{◌≡◌, ℕ, zero, suc, ◌+◌, ◌<◌, ◌≤◌, max, Bool, true, false, ◌||◌, List, []}
use Rattle.std.proofs.Common.{◌∷◌, ◌++◌, length, get_or, take, map, fold, Option, None, Some, IfSome, unwrap_or, refl}
use Rattle.std.proofs.Common.{sym, ap, ◌∙◌, arith}
use Rattle.std.specs.List.{slice_get, slice_set, range_with_len}
use Rattle.std.specs.Option.{option_map_or}
use Rattle.std.proofs.lemmas.List.{map-append, take-map, take_more}
use Rattle.std.proofs.lemmas.List.Folds.{list_any-append}
use Rattle.std.proofs.lemmas.List.Sums.{fold-append}
use Rattle.std.proofs.lemmas.Option.{get_or_from_slice_get, slice_get_within}
use Rattle.query_values.specs.declared.value.Value.{Value}
use Rattle.cell_texts.specs.CellText.{is_number, clean_text, cell_text}
use Rattle.table_printer.specs.Heading.{bare_heading, heading_text, width_of, with_cell, with_row}
use Rattle.table_printer.specs.Line.{AreAlike}
use Rattle.table_printer.specs.Table.{PlacedText, text_of, width_at, column_width}
use Rattle.cell_texts.specs.Width.{text_width}
use Rattle.table_printer.specs.Table.{is_number_at, has_number, headers_from, row_at, widths_of}
use Rattle.table_printer.specs.declared.headings.Heading.{Heading}
use Rattle.table_printer.proofs.InColumn.{width_seen, name_width, length-headers_from}

-- the greatest width of a name and of what rows have in its column, and at least 1
abbrev pub widest : (List ℕ → ℕ) → ℕ → List (List Value) → List ℕ → ℕ
widest display k rows name =
    fold max (max 1 (text_width (clean_text name)))
    (map (width_at k) (map (map (text_of display)) rows))

-- the headings of the columns from k on, over these rows
abbrev pub under : (List ℕ → ℕ) → ℕ → List (List Value) → List (List ℕ) → List Heading
under display k rows [] = []
under display k rows (name ∷ names) =
    record {
      name = name;
      width = widest display k rows name;
      has_numbers = has_number k rows;
    } ∷ under display (k + 1) rows names

pub with_none : (display : List ℕ → ℕ) (hs : List Heading) → with_row display hs [] ≡ hs
with_none display [] = refl
with_none display (h ∷ hs) = refl

-- cells without a heading change none
pub with_front : (display : List ℕ → ℕ) (hs : List Heading) (vs : List Value) (n : ℕ)
    → length hs ≤ n → with_row display hs (take n vs) ≡ with_row display hs vs
with_front display [] vs n few = refl
with_front display (h ∷ hs) vs zero few = absurd (omega (arith, few))
with_front display (h ∷ hs) [] (suc n) few = refl
with_front display (h ∷ hs) (v ∷ vs) (suc n) few =
    ap (λ l. with_cell display h v ∷ l) (with_front display hs vs n (omega (arith, few)))

-- the heading with one more text under it
abbrev with_text : Heading → PlacedText → Heading
with_text h t = record {
  name = h.name;
  width = max h.width (text_width t.text);
  has_numbers = h.has_numbers || t.stands_right;
}

abbrev with_texts : List Heading → List PlacedText → List Heading
with_texts [] ts = []
with_texts (h ∷ hs) [] = h ∷ hs
with_texts (h ∷ hs) (t ∷ ts) = with_text h t ∷ with_texts hs ts

-- what a row shows decides what it makes of headings
by_texts : (display : List ℕ → ℕ) (hs : List Heading) (row : List Value)
    → with_row display hs row ≡ with_texts hs (map (text_of display) row)
by_texts display [] row = refl
by_texts display (h ∷ hs) [] = refl
by_texts display (h ∷ hs) (v ∷ vs) =
    ap (λ l. with_cell display h v ∷ l) (by_texts display hs vs)

-- a text that was measured changes nothing
again : (h : Heading) (t : PlacedText) → with_text (with_text h t) t ≡ with_text h t
again h t = λ i. record {
  name = h.name;
  width = wide i;
  has_numbers = twice h.has_numbers t.stands_right i;
}
  where
    wide : max (max h.width (text_width t.text)) (text_width t.text)
        ≡ max h.width (text_width t.text)
    wide = let w = text_width t.text in omega arith

    twice : (a b : Bool) → ((a || b) || b) ≡ (a || b)
    twice true b = refl
    twice false true = refl
    twice false false = refl

measured : (hs : List Heading) (ts : List PlacedText) (n : ℕ)
    → with_texts (with_texts hs ts) (take n ts) ≡ with_texts hs ts
measured [] ts n = refl
measured (h ∷ hs) [] zero = refl
measured (h ∷ hs) [] (suc n) = refl
measured (h ∷ hs) (t ∷ ts) zero = refl
measured (h ∷ hs) (t ∷ ts) (suc n) = λ i. again h t i ∷ measured hs ts n i

-- what a row shows as one did that was measured changes nothing
pub known_cells : {R : Type 0} (values : R → List Value) (display : List ℕ → ℕ) (hs : List Heading)
    (row : R) (known : ℕ) (before : Option R) → AreAlike values known row before
    → IfSome before (λ r. (old : List Heading) × (with_row display old (values r) ≡ hs))
    → with_row display hs (take known (values row)) ≡ hs
known_cells values display hs row known None alike before =
    ap (λ n. with_row display hs (take n (values row))) alike ∙ with_none display hs
known_cells values display hs row known (Some r) alike before =
    let old = before.0 in
    let seen : List PlacedText = map (text_of display) (values r) in
    let made : with_texts old seen ≡ hs = sym (by_texts display old (values r)) ∙ before.1 in
    by_texts display hs (take known (values row))
    ∙ ap (with_texts hs) (sym (take-map (text_of display) known (values row)) ∙ alike display)
    ∙ (λ i. with_texts (sym made i) (take known seen))
    ∙ measured old seen known
    ∙ made

next : (display : List ℕ → ℕ) (hs : List Heading) (row : List Value) (i : ℕ) (h : Heading)
    (v : Value) → length hs ≤ length row → i < length hs
    → h ≡ get_or (with_row display hs (take i row)) i h → Some v ≡ slice_get row i
    → slice_set (with_row display hs (take i row)) i (with_cell display h v)
    ≡ with_row display hs (take (suc i) row)
next display hs [] i h v same within at is = absurd (omega (arith, same, within))
next display [] (w ∷ row) i h v same within at is = absurd (omega (arith, within))
next display (g ∷ hs) (w ∷ row) zero h v same within at is =
    let cell : v ≡ w = ap (λ o. unwrap_or o v) is in
    λ k. with_cell display (at k) (cell k) ∷ sym (with_none display hs) k
next display (g ∷ hs) (w ∷ row) (suc i) h v same within at is =
    ap (λ l. with_cell display g w ∷ l)
    (next display hs row i h v (omega (arith, same)) (omega (arith, within)) at is)

-- one more cell of a row
pub next_cell : (display : List ℕ → ℕ) (hs : List Heading) (row : List Value) (i : ℕ)
    (h : Heading) (v : Value) → length hs ≤ length row → i < length hs → Some v ≡ slice_get row i
    → h ≡ get_or (with_row display hs (take i row)) i h
    → slice_set (with_row display hs (take i row)) i (with_cell display h v)
    ≡ with_row display hs (take (i + 1) row)
next_cell display hs row i h v same within is at =
    let e : suc i ≡ i + 1 = omega arith in
    next display hs row i h v same within at is
    ∙ ap (λ n. with_row display hs (take n row)) e

-- one more name
pub next_name : (names : List (List ℕ)) (i : ℕ) (name : List ℕ) → Some name ≡ slice_get names i
    → map bare_heading (take (i + 1) names)
    ≡ map bare_heading (take i names) ++ bare_heading name ∷ []
next_name names i name is =
    ap (map bare_heading)
    (take_more names i name (slice_get_within names i name (sym is))
    ∙ ap (λ x. take i names ++ x ∷ []) (get_or_from_slice_get names i name name (sym is)))
    ∙ map-append bare_heading (take i names) (name ∷ [])

pub over_none : (display : List ℕ → ℕ) (k : ℕ) (names : List (List ℕ))
    → map bare_heading names ≡ under display k [] names
over_none display k [] = refl
over_none display k (n ∷ ns) =
    let w = text_width (clean_text n) in
    let e : max w 1 ≡ max 1 w = omega arith in
    λ i. record { name = n; width = e i; has_numbers = false } ∷ over_none display (k + 1) ns i

pub length-under : (display : List ℕ → ℕ) (k : ℕ) (rows : List (List Value))
    (names : List (List ℕ)) → length (under display k rows names) ≡ length names
length-under display k rows [] = refl
length-under display k rows (n ∷ ns) = ap suc (length-under display (k + 1) rows ns)

or_none : (b : Bool) → (b || false) ≡ b
or_none true = refl
or_none false = refl

-- what is left of a row stands at its places from k on
abbrev IsLeft : ℕ → List Value → List Value → Type 0
IsLeft k vs row = (j m : ℕ) → m ≡ k + j → slice_get vs j ≡ slice_get row m

-- one more row
more : (display : List ℕ → ℕ) (k : ℕ) (rows : List (List Value)) (names : List (List ℕ))
    (row vs : List Value) → IsLeft k vs row → length names ≤ length vs
    → with_row display (under display k rows names) vs
    ≡ under display k (rows ++ row ∷ []) names
more display k rows [] row vs left same = refl
more display k rows (n ∷ ns) row [] left same = absurd (omega (arith, same))
more display k rows (n ∷ ns) row (v ∷ vs) left same =
    let is : Some v ≡ slice_get row k = left 0 k (omega arith) in
    let start = max 1 (text_width (clean_text n)) in
    let texts = map (map (text_of display)) rows in
    let seen = width_seen display row k v is in
    let wide : max (fold max start (map (width_at k) texts)) (text_width (cell_text display v))
    ≡ widest display k (rows ++ row ∷ []) n =
    (λ i. max (fold max start (map (width_at k) texts)) (sym seen i))
    ∙ sym (fold-append max start (map (width_at k) texts)
    (width_at k (map (text_of display) row) ∷ []))
    ∙ ap (fold max start) (sym (map-append (width_at k) texts (map (text_of display) row ∷ [])))
    ∙ ap (λ l. fold max start (map (width_at k) l))
    (sym (map-append (map (text_of display)) rows (row ∷ []))) in
    let numbers : (has_number k rows || is_number v) ≡ has_number k (rows ++ row ∷ []) =
    ap (λ b. has_number k rows || b) (sym (or_none (is_number v)))
    ∙ ap (λ o. has_number k rows || (option_map_or is_number o false || false)) is
    ∙ sym (list_any-append (is_number_at k) rows (row ∷ [])) in
    λ i. record { name = n; width = wide i; has_numbers = numbers i }
    ∷ more display (k + 1) rows ns row vs (λ j m e. left (suc j) m (omega (arith, e)))
    (omega (arith, same)) i

pub one_more : (display : List ℕ → ℕ) (rows : List (List Value)) (names : List (List ℕ)) (i : ℕ)
    → i < length rows → length names ≤ length (row_at rows i)
    → with_row display (under display 0 (take i rows) names) (row_at rows i)
    ≡ under display 0 (take (i + 1) rows) names
one_more display rows names i within same =
    let row = row_at rows i in
    more display 0 (take i rows) names row row
    (λ j m e. ap (slice_get row) (let s : j ≡ m = omega (arith, e) in s)) same
    ∙ ap (λ rs. under display 0 rs names) (sym (take_more rows i [] within))

pub texts_are : (display : List ℕ → ℕ) (k : ℕ) (rows : List (List Value)) (names : List (List ℕ))
    → map heading_text (under display k rows names) ≡ headers_from k rows names
texts_are display k rows [] = refl
texts_are display k rows (n ∷ ns) =
    ap (λ l. record { text = clean_text n; stands_right = has_number k rows } ∷ l)
    (texts_are display (k + 1) rows ns)

widths_from : (display : List ℕ → ℕ) (k : ℕ) (rows : List (List Value)) (all names :
    List (List ℕ)) → ((j m : ℕ) → m ≡ k + j → slice_get names j ≡ slice_get all m)
    → map width_of (under display k rows names)
    ≡ map (column_width (headers_from 0 rows all ∷ map (map (text_of display)) rows))
    (range_with_len k (length names))
widths_from display k rows all [] left = refl
widths_from display k rows all (n ∷ ns) left =
    let lines : List (List PlacedText) =
    headers_from 0 rows all ∷ map (map (text_of display)) rows in
    let named = name_width 0 rows all k n (left 0 k (omega arith)) in
    (λ i. fold max (max 1 (sym named i)) (map (width_at k) (map (map (text_of display)) rows))
    ∷ widths_from display (k + 1) rows all ns (λ j m e. left (suc j) m (omega (arith, e))) i)

pub widths_are : (display : List ℕ → ℕ) (rows : List (List Value)) (names : List (List ℕ))
    → map width_of (under display 0 rows names)
    ≡ widths_of (headers_from 0 rows names) (map (map (text_of display)) rows)
widths_are display rows names =
    widths_from display 0 rows names names
    (λ j m e. ap (slice_get names) (let s : j ≡ m = omega (arith, e) in s))
    ∙ ap (λ n. map (column_width (headers_from 0 rows names ∷ map (map (text_of display)) rows))
    (range_with_len 0 n)) (sym (length-headers_from 0 rows names))
