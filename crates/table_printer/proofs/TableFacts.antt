-- The pieces of a line, one by one.
use Rattle.std.proofs.Common.{◌≡◌, ℕ, zero, suc, ◌+◌, ◌<◌, ◌≤◌, map, List, [], ◌∷◌, ◌++◌}
use Rattle.std.proofs.Common.{length, get_or, take, Some, unwrap_or, arith, sym, ap, ◌∙◌}
use Rattle.table_printer.specs.Layout.{before_gap, joined}
use Rattle.std.proofs.lemmas.List.{append-nil, get_or-map, map-append, take_more}
use Rattle.std.proofs.lemmas.Grind.{flat_map-append}
use Rattle.std.specs.List.{flat_map, slice_get}
use Rattle.std.specs.Option.{option_map}
use Rattle.std.proofs.lemmas.Option.{slice_get_within, slice_get-map}
use Rattle.table_printer.specs.Table.{PlacedText, padded, pieces}
use Rattle.table_printer.specs.Heading.{width_of}
use Rattle.table_printer.specs.declared.headings.Heading.{Heading}
use Rattle.table_printer.proofs.LayoutFacts.{joined_last}

-- the width of the column at a place
pub width_is : (headings : List Heading) (i : ℕ) (heading : Heading) → i < length headings
    → heading ≡ get_or headings i heading → heading.width ≡ get_or (map width_of headings) i 0
width_is headings i heading within is =
    ap width_of is ∙ sym (get_or-map width_of headings i heading 0 within)

pub pieces-le : (ws : List ℕ) (cs : List PlacedText) → length (pieces ws cs) ≤ length ws
pieces-le [] cs = omega arith
pieces-le (w ∷ ws) [] = omega arith
pieces-le (w ∷ ws) (c ∷ cs) = let rest = pieces-le ws cs in omega (arith, rest)

take_suc : (i : ℕ) (ws : List ℕ) (cs : List PlacedText) (c : PlacedText) → i < length ws
    → Some c ≡ slice_get cs i
    → take (suc i) (pieces ws cs) ≡ take i (pieces ws cs) ++ padded (get_or ws i 0) c ∷ []
take_suc i [] cs c within is = absurd (omega (arith, within))
take_suc i (w ∷ ws) [] c within is =
    let some = slice_get_within [] i c (sym is) in absurd (omega (arith, some))
take_suc zero (w ∷ ws) (d ∷ cs) c within is =
    ap (λ o. padded w (unwrap_or o d) ∷ []) (sym is)
take_suc (suc i) (w ∷ ws) (d ∷ cs) c within is =
    ap (λ t. padded w d ∷ t) (take_suc i ws cs c (omega (arith, within)) is)

-- the next piece
pub pieces_more : {X : Type 0} (f : X → PlacedText) (ws : List ℕ) (xs : List X) (i : ℕ) (x : X)
    → i < length ws → Some x ≡ slice_get xs i →
    take (i + 1) (pieces ws (map f xs))
    ≡ take i (pieces ws (map f xs)) ++ padded (get_or ws i 0) (f x) ∷ []
pieces_more f ws xs i x within is =
    let e : i + 1 ≡ suc i = omega arith in
    ap (λ n. take n (pieces ws (map f xs))) e
    ∙ take_suc i ws (map f xs) (f x) within (ap (option_map f) is ∙ sym (slice_get-map f xs i))

-- the last piece
pub pieces_last : (ws : List ℕ) (w : ℕ) (cs : List PlacedText) (c : PlacedText)
    → Some c ≡ slice_get cs (length ws)
    → pieces (ws ++ w ∷ []) cs ≡ pieces ws cs ++ padded w c ∷ []
pieces_last [] w [] c is =
    let some = slice_get_within [] 0 c (sym is) in absurd (omega (arith, some))
pieces_last [] w (d ∷ cs) c is = ap (λ o. padded w (unwrap_or o d) ∷ []) (sym is)
pieces_last (x ∷ ws) w [] c is =
    let some = slice_get_within [] (length (x ∷ ws)) c (sym is) in absurd (omega (arith, some))
pieces_last (x ∷ ws) w (d ∷ cs) c is = ap (λ l. padded x d ∷ l) (pieces_last ws w cs c is)

-- the pieces of a line, joined
pub line_joined : {X : Type 0} (f : X → PlacedText) (ws : List ℕ) (w : ℕ) (xs : List X) (x : X)
    → Some x ≡ slice_get xs (length ws)
    → flat_map before_gap (pieces ws (map f xs)) ++ padded w (f x)
    ≡ joined (pieces (ws ++ w ∷ []) (map f xs))
line_joined f ws w xs x is =
    sym (ap joined (pieces_last ws w (map f xs) (f x)
    (ap (option_map f) is ∙ sym (slice_get-map f xs (length ws))))
    ∙ joined_last (pieces ws (map f xs)) (padded w (f x)))

-- the line of one more row
pub lines_more :
    {X : Type 0} (line : List PlacedText → List ℕ) (f : X
    → List PlacedText) (xs : List X) (i : ℕ) (x : X) → i < length xs → x ≡ get_or xs i x →
    flat_map line (map f (take (i + 1) xs)) ≡ flat_map line (map f (take i xs)) ++ line (f x)
lines_more line f xs i x within is =
    ap (λ l. flat_map line (map f l))
    (take_more xs i x within ∙ ap (λ y. take i xs ++ y ∷ []) (sym is))
    ∙ ap (flat_map line) (map-append f (take i xs) (x ∷ []))
    ∙ flat_map-append line (map f (take i xs)) (f x ∷ [])
    ∙ ap (λ l. flat_map line (map f (take i xs)) ++ l) (append-nil (line (f x)))
