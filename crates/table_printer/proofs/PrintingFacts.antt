-- Tables of which some rows are printed.
use Rattle.std.proofs.Common.{◌≡◌, ℕ, ◌+◌, List, [], ◌∷◌, ◌++◌, Option, None, Some, length, map, sym, ap, ◌∙◌}
use Rattle.std.proofs.Common.{arith, subst, take}
use Rattle.std.specs.List.{flat_map, slice_get}
use Rattle.std.proofs.lemmas.List.{append-nil, map-append, take_all}
use Rattle.cell_texts.specs.CellText.{clean_text}
use Rattle.query_values.specs.declared.value.Value.{Value}
use Rattle.table_printer.specs.Heading.{bare_heading, heading_text, width_of}
use Rattle.table_printer.specs.Printing.{IsLeftOpen, IsMeasured, NoneIn, Stands, head_of}
use Rattle.table_printer.specs.Table.{HasNoNumber, headers_from, line_of, table_text, text_of, widths_of}
use Rattle.table_printer.specs.declared.headings.Heading.{Heading}
use Rattle.table_printer.proofs.OpenFacts.{all_headers, all_widths}

-- no rows are printed so far
module _ (names : List (List ℕ)) (all : List (List Value)) (d : List ℕ → ℕ) (hs : List Heading)
    (k : ℕ) (text : List ℕ) where
  pub begun : k ≡ length names → map heading_text hs ≡ headers_from 0 all (take k names)
      → map width_of hs ≡ widths_of (headers_from 0 all (take k names)) (map (map (text_of d)) all)
      → text ≡ head_of (map width_of hs) (map heading_text hs) → IsMeasured names all [] d hs text
  begun many headers widths head =
      let whole = take_all k names (omega (arith, many)) in record {
        headers = headers ∙ ap (headers_from 0 all) whole;
        widths = widths
            ∙ ap (λ ns. widths_of (headers_from 0 all ns) (map (map (text_of d)) all)) whole;
        lines = head ∙ sym (append-nil (head_of (map width_of hs) (map heading_text hs)));
      }

  pub begun_open : (h : Heading) → k + 1 ≡ length names → length hs ≡ k → HasNoNumber k all
      → map heading_text hs ≡ headers_from 0 all (take k names)
      → map width_of hs ≡ widths_of (headers_from 0 all (take k names)) (map (map (text_of d)) all)
      → Some h.name ≡ slice_get names k → h ≡ bare_heading h.name → text ≡ []
      → IsLeftOpen names all [] d hs h text
  begun_open h many few left headers widths name bare none = record {
    many = ap (λ n. n + 1) few ∙ many;
    none = subst (λ n. HasNoNumber n all) (sym few) left;
    headers = headers ∙ ap (λ n. headers_from 0 all (take n names)) (sym few);
    widths = widths
        ∙ ap (λ n. widths_of (headers_from 0 all (take n names)) (map (map (text_of d)) all)) (sym few);
    name = name ∙ ap (slice_get names) (sym few);
    left = ap (λ b. b.has_numbers) bare;
    width = ap (λ b. b.width) bare;
    lines = λ w. none;
  }

-- where the last column is left open, no row has a number there
pub may_be : (names : List (List ℕ)) (all done : List (List Value)) (d : List ℕ → ℕ)
    (own : Option Heading) (hs : List Heading) (text : List ℕ) → Stands names all done d own hs text
    → NoneIn own (length hs) all
may_be names all done d None hs text is = tt
may_be names all done d (Some h) hs text is = is.none

-- all rows are printed
pub whole : (names : List (List ℕ)) (all : List (List Value)) (d : List ℕ → ℕ) (hs : List Heading)
    (text : List ℕ) → IsMeasured names all all d hs text → text ≡ table_text names all d
whole names all d hs text is =
    is.lines
    ∙ (λ i. head_of (is.widths i) (is.headers i)
    ++ flat_map (line_of (is.widths i)) (map (map (text_of d)) all))

pub whole_open : (names : List (List ℕ)) (all : List (List Value)) (d : List ℕ → ℕ)
    (hs : List Heading) (h : Heading) (text : List ℕ) → IsLeftOpen names all all d hs h text
    → head_of (map width_of (hs ++ h ∷ [])) (map heading_text (hs ++ h ∷ [])) ++ text
    ≡ table_text names all d
whole_open names all d hs h text is =
    let k = length hs in
    let ws = all_widths d all names k h.name hs h is.many is.name is.widths is.width in
    let headers =
    all_headers d all names k h.name hs h is.many is.name is.none is.headers
    (λ i. record { text = clean_text h.name; stands_right = is.left i }) in
    ap (λ l. head_of (map width_of (hs ++ h ∷ [])) (map heading_text (hs ++ h ∷ [])) ++ l)
    (is.lines h.width
    ∙ ap (λ l. flat_map (line_of l) (map (map (text_of d)) all)) (sym (map-append width_of hs (h ∷ []))))
    ∙ (λ i. head_of (ws i) (headers i) ++ flat_map (line_of (ws i)) (map (map (text_of d)) all))
