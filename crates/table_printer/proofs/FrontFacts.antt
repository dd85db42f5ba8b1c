-- The fronts of rows that have so many cells in common.
use Rattle.std.proofs.Common.{◌≡◌, ◌≤◌, ℕ, zero, suc, List, [], ◌∷◌, map, take, Option, None, Some, IfSome, refl, sym, ap, ◌∙◌}
use Rattle.std.specs.List.{flat_map}
use Rattle.std.proofs.lemmas.List.{take-take}
use Rattle.query_values.specs.declared.value.Value.{Value}
use Rattle.table_printer.specs.Layout.{before_gap}
use Rattle.table_printer.specs.Line.{IsKept, front_text}
use Rattle.table_printer.specs.declared.fronts.Front.{Front}
use Rattle.table_printer.specs.Table.{PlacedText, padded, pieces, text_of}
use Rattle.table_printer.proofs.InColumn.{row_texts}

-- the first pieces are those of the first cells
take_pieces : (n : ℕ) (ws : List ℕ) (cs : List PlacedText)
    → take n (pieces ws cs) ≡ pieces (take n ws) (take n cs)
take_pieces zero ws cs = refl
take_pieces (suc n) [] cs = refl
take_pieces (suc n) (w ∷ ws) [] = refl
take_pieces (suc n) (w ∷ ws) (c ∷ cs) = ap (λ l. padded w c ∷ l) (take_pieces n ws cs)

-- the front of a row is told by its first texts
told : (d : List ℕ → ℕ) (ws : List ℕ) (n : ℕ) (row : List Value)
    → front_text d ws n row
    ≡ flat_map before_gap (pieces (take n ws) (take n (map (text_of d) row)))
told d ws n row =
    ap (λ cs. flat_map before_gap (take n (pieces ws cs))) (row_texts d row)
    ∙ ap (flat_map before_gap) (take_pieces n ws (map (text_of d) row))

-- rows of which more cells show the same have one front
pub one_front : (d : List ℕ → ℕ) (ws : List ℕ) (n known : ℕ) (row other : List Value) → n ≤ known
    → take known (map (text_of d) row) ≡ take known (map (text_of d) other)
    → front_text d ws n other ≡ front_text d ws n row
one_front d ws n known row other few same =
    let texts : List Value → List PlacedText = map (text_of d) in
    told d ws n other
    ∙ ap (λ ts. flat_map before_gap (pieces (take n ws) ts))
    (sym (take-take n known (texts other) few) ∙ ap (take n) (sym same)
    ∙ take-take n known (texts row) few)
    ∙ sym (told d ws n row)

-- what is kept of the text of a front
pub kept_front : {R : Type 0} (values : R → List Value) (d : List ℕ → ℕ) (ws : List ℕ) (n : ℕ)
    (row : R) (text : List ℕ) (kept : Option (Front R)) → IfSome kept (λ f. f.row ≡ row)
    → IfSome kept (λ f. f.len ≤ 32) → IfSome kept (λ f. take f.len f.text ≡ text)
    → text ≡ front_text d ws n (values row) → IsKept values d ws n kept
kept_front values d ws n row text None of few is all = tt
kept_front values d ws n row text (Some f) of few is all =
    (few, is ∙ all ∙ ap (λ r. front_text d ws n (values r)) (sym of))
