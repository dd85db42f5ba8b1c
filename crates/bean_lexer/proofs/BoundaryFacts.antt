-- Where runs and gaps end, a character ends.
use Rattle.std.proofs.Common.{◌≡◌, ℕ, add-zero, ◌+◌, ◌<◌, ◌≤◌, false, Option}
use Rattle.std.proofs.Common.{Some, None, List, [], ◌∷◌, length, get_or, drop, IsUtf8, arith, ap}
use Rattle.std.proofs.Common.{sym, ◌∙◌, subst, refl, length-drop}
use Rattle.std.specs.Option.{option_map_or}
use Rattle.std.proofs.lemmas.Bool.Decides.{nat_tests}
use Rattle.std.proofs.lemmas.Str.{IsCharBoundary-end, IsCharBoundary-after_ascii}
use Rattle.std.proofs.lemmas.List.Sums.{prefix_len_stops, prefix_len-le-length}
use Rattle.std.proofs.lemmas.List.{get_or-drop}
use Rattle.std.specs.List.{prefix_len}
use Rattle.std.specs.Str.{IsCharBoundary}
use Rattle.bean_base.proofs.NumeralFacts.{drop_more}
use Rattle.bean_lexer.specs.Tokens.{goes_on_character}
use Rattle.bean_lexer.specs.Gap.{gap_len, gap_step, is_comment}
use Rattle.bean_lexer.specs.declared.gaps.Spot.{Spot}
use Rattle.bean_lexer.specs.declared.gaps.Spot.TheVariants as spots

-- where a token begins one is in no comment
none_in_comment : (at : Spot) (b : ℕ) → gap_step at b ≡ None → is_comment at ≡ false
none_in_comment spots.LineStart b h = refl
none_in_comment spots.Indent b h = refl
none_in_comment spots.Behind b h = refl
none_in_comment spots.Comment b h = absurd (grind (arith, nat_tests))

-- a byte that leads out of a comment, or before none, is ASCII
steps_by_ascii : (at next : Spot) (b : ℕ) → gap_step at b ≡ Some next → is_comment next ≡ false
    → b < 128
steps_by_ascii at next b h e = grind (arith, nat_tests)

-- a run of bytes that go on a character ends where one ends
stops_well : (b : ℕ) → goes_on_character b ≡ false → 128 ≤ b → 192 ≤ b
stops_well b h low = grind (arith, nat_tests)

pub character_boundary : (bs : List ℕ) (n : ℕ) → 0 < length bs
    → n ≡ 1 + prefix_len goes_on_character (drop 1 bs) → IsCharBoundary bs n
character_boundary bs n some is =
    let l = length-drop 1 bs in
    let w = prefix_len-le-length goes_on_character (drop 1 bs) in (
      omega arith,
      λ inside.
          stops_well (get_or bs n 0)
          (ap (λ k. goes_on_character (get_or bs k 0)) is
          ∙ ap goes_on_character
          (sym (get_or-drop 1 bs (prefix_len goes_on_character (drop 1 bs)) 0))
          ∙ prefix_len_stops goes_on_character (drop 1 bs) 0 (omega arith)),
    )

gap_boundary_by : (text : List ℕ) (b : ℕ) (bs : List ℕ) (i : ℕ) (at : Spot) (step : Option Spot)
    → gap_step at b ≡ step → i < length text → get_or text i 0 ≡ b → IsUtf8 text
    → (is_comment at ≡ false → IsCharBoundary text i) →
    ((next : Spot) → (is_comment next ≡ false → IsCharBoundary text (i + 1))
    → IsCharBoundary text (i + 1 + gap_len next bs)) →
    IsCharBoundary text (i + option_map_or (λ next. 1 + gap_len next bs) step 0)
gap_boundary_by text b bs i at None e low first utf8 so_far rest =
    rw add-zero (so_far (none_in_comment at b e))
gap_boundary_by text b bs i at (Some next) e low first utf8 so_far rest =
    let same : i + 1 + gap_len next bs ≡ i + (1 + gap_len next bs) = omega arith in
    subst (IsCharBoundary text) same
    (rest next (λ out. IsCharBoundary-after_ascii text i utf8 low (let a : b < 128 =
    steps_by_ascii at next b e out in let g : get_or text i 0 < 128 = omega arith in g)))

-- where a gap ends, a character begins or the text ends
pub gap_boundary : (text bs : List ℕ) (i : ℕ) (at : Spot) → drop i text ≡ bs → i ≤ length text
    → IsUtf8 text → (is_comment at ≡ false → IsCharBoundary text i)
    → IsCharBoundary text (i + gap_len at bs)
gap_boundary text [] i at e inside utf8 so_far =
    let l = length-drop i text in
    let n = ap length e in
    let same : length text ≡ i + 0 = omega arith in
    subst (IsCharBoundary text) same (IsCharBoundary-end text)
gap_boundary text (b ∷ bs) i at e inside utf8 so_far =
    let l = length-drop i text in
    let n = ap length e in
    let low : i < length text = omega arith in
    let more = drop_more i text low in
    let first : get_or text i 0 ≡ b = cc in
    let rest : drop (i + 1) text ≡ bs = cc in
    gap_boundary_by text b bs i at (gap_step at b) refl low first utf8 so_far
    (λ next ends. gap_boundary text bs (i + 1) next rest (omega arith) utf8 ends)
