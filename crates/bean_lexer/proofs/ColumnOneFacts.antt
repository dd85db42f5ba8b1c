-- What stands in the first column stands at the text's start, or behind a line feed.
use Rattle.std.proofs.Common.{◌≡◌, ℕ, zero, suc, ◌+◌, ◌⊎◌, ⊎_elim, inl, inr, List, [], ◌∷◌, Option}
use Rattle.std.proofs.Common.{Some, None, get_or, drop, arith, sym, ap, ◌∙◌, refl}
use Rattle.std.proofs.lemmas.Bool.Decides.{nat_tests}
use Rattle.std.proofs.lemmas.List.{get_or-drop}
use Rattle.std.specs.Option.{option_map_or}
use Rattle.bean_lexer.specs.Gap.{gap_len, gap_step, behind_gap, gap_from, place_behind, place_of}
use Rattle.bean_lexer.specs.Gap.{spot_at}
use Rattle.bean_lexer.specs.declared.gaps.Spot.{Spot}
use Rattle.bean_lexer.specs.declared.gaps.Spot.TheVariants as spots
use Rattle.bean_lexer.specs.declared.kind.Place.TheVariants as places

-- the byte before a place is a line feed
abbrev FeedBefore : List ℕ → ℕ → Type 0
FeedBefore bs n = (k : ℕ) × (n ≡ suc k) × (get_or bs k 0 ≡ 10)

step_feeds : (at : Spot) (b : ℕ) → gap_step at b ≡ Some spots.LineStart → b ≡ 10
step_feeds spots.LineStart b h = grind (arith, nat_tests)
step_feeds spots.Indent b h = grind (arith, nat_tests)
step_feeds spots.Behind b h = grind (arith, nat_tests)
step_feeds spots.Comment b h = grind (arith, nat_tests)

-- where a gap leads to a line's start
abbrev EndsLine : Spot → List ℕ → ℕ → Type 0
EndsLine at bs n = ((n ≡ 0) × (at ≡ spots.LineStart)) ⊎ FeedBefore bs n

ends_line_by : (at : Spot) (b : ℕ) (bs : List ℕ) (step : Option Spot) → gap_step at b ≡ step
    → option_map_or (λ next. behind_gap next bs) step at ≡ spots.LineStart
    → ((next : Spot) → behind_gap next bs ≡ spots.LineStart → EndsLine next bs (gap_len next bs))
    → EndsLine at (b ∷ bs) (option_map_or (λ next. 1 + gap_len next bs) step 0)
ends_line_by at b bs None e h rest = inl (refl, h)
ends_line_by at b bs (Some next) e h rest =
    ⊎_elim
    (λ here. inr (
      0,
      let n : 1 + gap_len next bs ≡ 1 = let z = here.0 in omega arith in n,
      step_feeds at b (e ∙ ap (λ s. Some s) here.1),
    ))
    (λ behind. inr (
      suc behind.0,
      let n : 1 + gap_len next bs ≡ suc (suc behind.0) = let z = behind.1 in omega arith in n,
      behind.2,
    ))
    (rest next h)

ends_line : (at : Spot) (bs : List ℕ) → behind_gap at bs ≡ spots.LineStart
    → EndsLine at bs (gap_len at bs)
ends_line at [] h = inl (refl, h)
ends_line at (b ∷ bs) h =
    ends_line_by at b bs (gap_step at b) refl h (λ next e. ends_line next bs e)

line_start : (at : Spot) → place_of at ≡ places.ColumnOne → at ≡ spots.LineStart
line_start spots.LineStart h = refl
line_start spots.Indent h = absurd (cc)
line_start spots.Behind h = absurd (cc)
line_start spots.Comment h = absurd (cc)

text_start : (at : ℕ) → spot_at at ≡ spots.LineStart → at ≡ 0
text_start zero h = refl
text_start (suc at) h = absurd (cc)

pub begins_line : (text : List ℕ) (at : ℕ) → place_behind text at ≡ places.ColumnOne
    → (at + gap_from text at ≡ 0) ⊎ FeedBefore text (at + gap_from text at)
begins_line text at h =
    ⊎_elim
    (λ here. inl (
    let z = here.0 in
    let s = text_start at here.1 in
    let n : at + gap_from text at ≡ 0 = omega arith in
    n))
    (λ behind. inr (
      at + behind.0,
      let e = behind.1 in
          let n : at + gap_from text at ≡ suc (at + behind.0) = omega arith in
          n,
      sym (get_or-drop at text behind.0 0) ∙ behind.2,
    ))
    (ends_line (spot_at at) (drop at text)
    (line_start (behind_gap (spot_at at) (drop at text)) h))
