-- A gap goes on over spaces, and ends where a token begins.
use Rattle.std.proofs.Common.{◌≡◌, ℕ, suc, ◌+◌, ◌<◌, Bool, true, false, List, [], ◌∷◌, cond, length}
use Rattle.std.proofs.Common.{get_or, take, drop, arith, sym, ap, subst, ◌∙◌, refl}
use Rattle.std.proofs.lemmas.Bool.Decides.{nat_tests}
use Rattle.std.proofs.Common.{None, length-drop}
use Rattle.std.proofs.lemmas.List.{drop-drop, get_or-drop}
use Rattle.std.specs.Option.{option_map_or}
use Rattle.std.specs.List.{count_by, prefix_len}
use Rattle.bean_lexer.specs.Gap.{is_line_feed, is_space, gap_len, gap_step, behind_gap, behind_white}
use Rattle.bean_lexer.specs.Gap.{begins_token, is_comment, is_line_start, place_of}
use Rattle.bean_lexer.specs.InGap.{IsLead}
use Rattle.bean_lexer.specs.declared.gaps.Spot.{Spot}
use Rattle.bean_lexer.specs.declared.gaps.Spot.TheVariants as spot
use Rattle.bean_lexer.proofs.TokensFacts.{feeds_add}

-- a gap goes on over n bytes at the front, without a line feed, from a spot to another
pub record GoesOn (start end : Spot) (bs : List ℕ) (n : ℕ) : Type 0 where
  pub gap : n + gap_len end (drop n bs) ≡ gap_len start bs
  pub behind : behind_gap end (drop n bs) ≡ behind_gap start bs
  pub feeds : count_by is_line_feed (take n bs) ≡ 0

settled : (at : Spot) → behind_white (behind_white at) ≡ behind_white at
settled spot.LineStart = refl
settled spot.Indent = refl
settled spot.Behind = refl
settled spot.Comment = refl

nothing : (at : Spot) (bs : List ℕ) → GoesOn at at bs 0
nothing at bs = record { gap = omega arith; behind = refl; feeds = refl }

one_more : (start end : Spot) (bs : List ℕ) (n : ℕ) → behind_white start ≡ end
    → GoesOn end end bs n → GoesOn start end (32 ∷ bs) (suc n)
one_more start end bs n white rest =
    let step : gap_len start (32 ∷ bs) ≡ 1 + gap_len (behind_white start) bs = refl in
    let same = ap (λ spot. gap_len spot bs) white in
    let more = rest.gap in
    record {
      gap = omega (arith, step, same, more);
      behind = rest.behind ∙ sym (ap (λ spot. behind_gap spot bs) white);
      feeds = rest.feeds;
    }

space_first : (start end : Spot) (b : ℕ) (bs : List ℕ) (n : ℕ) → b ≡ 32
    → behind_white start ≡ end → GoesOn end end bs n → GoesOn start end (b ∷ bs) (1 + n)
space_first start end b bs n space white rest =
    let len : suc n ≡ 1 + n = omega arith in
    subst (λ k. GoesOn start end (b ∷ bs) k) len
    (subst (λ k. GoesOn start end (k ∷ bs) (suc n)) (sym space)
    (one_more start end bs n white rest))

run_by : (t : Bool) (at : Spot) (b : ℕ) (bs : List ℕ) → is_space b ≡ t → behind_white at ≡ at
    → GoesOn at at bs (prefix_len is_space bs)
    → GoesOn at at (b ∷ bs) (cond t (1 + prefix_len is_space bs) 0)
run_by true at b bs is white rest =
    space_first at at b bs (prefix_len is_space bs) (grind (arith, nat_tests)) white rest
run_by false at b bs is white rest = nothing at (b ∷ bs)

-- behind white space
run : (at : Spot) (bs : List ℕ) → behind_white at ≡ at → GoesOn at at bs (prefix_len is_space bs)
run at [] white = nothing at []
run at (b ∷ bs) white = run_by (is_space b) at b bs refl white (run at bs white)

spaces : (at : Spot) (bs : List ℕ) → get_or bs 0 0 ≡ 32
    → GoesOn at (behind_white at) bs (prefix_len is_space bs)
spaces at [] first = absurd (omega arith)
spaces at (b ∷ bs) first =
    let is : is_space b ≡ true = grind (arith, nat_tests) in
    subst (λ t. GoesOn at (behind_white at) (b ∷ bs) (cond t (1 + prefix_len is_space bs) 0)) (sym is)
    (space_first at (behind_white at) b bs (prefix_len is_space bs) first refl
    (run (behind_white at) bs (settled at)))

-- and behind a front of a gap
pub record IsFront (start : Spot) (bs : List ℕ) (end : Spot) (n count : ℕ) : Type 0 where
  pub gap : n + gap_len end (drop n bs) ≡ gap_len start bs
  pub behind : behind_gap end (drop n bs) ≡ behind_gap start bs
  pub feeds : count ≡ count_by is_line_feed (take n bs)

pub over_spaces : (start : Spot) (bs : List ℕ) (end : Spot) (n feeds : ℕ)
    → IsFront start bs end n feeds → get_or (drop n bs) 0 0 ≡ 32
    → IsFront start bs (behind_white end) (n + prefix_len is_space (drop n bs)) feeds
over_spaces start bs end n feeds front first =
    let p = prefix_len is_space (drop n bs) in
    let on = spaces end (drop n bs) first in
    let rest : drop p (drop n bs) ≡ drop (n + p) bs = drop-drop p n bs in
    let gap = on.gap in
    let before = front.gap in
    let same = ap (gap_len (behind_white end)) rest in
    let none = on.feeds in
    let seen = front.feeds in
    let sum = feeds_add bs n p in
    record {
      gap = omega (arith, gap, before, same);
      behind = sym (ap (behind_gap (behind_white end)) rest) ∙ on.behind ∙ front.behind;
      feeds = omega (arith, none, seen, sum);
    }

-- a gap ends at once where a token begins
ends_at : (at : Spot) (bs : List ℕ) → 0 < length bs → gap_step at (get_or bs 0 0) ≡ None
    → (gap_len at bs ≡ 0) × (behind_gap at bs ≡ at)
ends_at at [] some none = absurd (omega arith)
ends_at at (b ∷ bs) some none = (
  ap (λ o. option_map_or (λ next. 1 + gap_len next bs) o 0) none,
  ap (λ o. option_map_or (λ next. behind_gap next bs) o at) none,
)

pub begins_at : (at : Spot) (b : ℕ) → begins_token b ≡ true → is_comment at ≡ false
    → is_line_start at ≡ false → gap_step at b ≡ None
begins_at at b begins comment start = grind (arith, nat_tests)

-- a front of a gap is the gap, if a token begins behind it
pub whole_gap : (start : Spot) (bs : List ℕ) (end : Spot) (n feeds : ℕ)
    → IsFront start bs end n feeds → n < length bs → gap_step end (get_or bs n 0) ≡ None
    → IsLead start bs (record { len = n; line_feeds = feeds; place = place_of end })
whole_gap start bs end n feeds front low none =
    let same : n + 0 ≡ n = omega arith in
    let here : get_or (drop n bs) 0 0 ≡ get_or bs n 0 =
    get_or-drop n bs 0 0 ∙ ap (λ k. get_or bs k 0) same in
    let long = length-drop n bs in
    let ends = ends_at end (drop n bs) (omega arith) (ap (gap_step end) here ∙ none) in
    let gap = front.gap in
    let none_behind = ends.0 in
    record {
      inside = omega arith;
      gap = omega (arith, gap, none_behind);
      place = ap place_of (sym ends.1 ∙ front.behind);
      feeds = front.feeds;
    }

-- spaces behind a token
pub spaces_front : (bs : List ℕ) (n : ℕ) → n ≡ prefix_len is_space bs
    → IsFront spot.Behind bs spot.Behind n 0
spaces_front bs n is =
    subst (λ k. IsFront spot.Behind bs spot.Behind k 0) (sym is)
    (let on = run spot.Behind bs refl in
    record { gap = on.gap; behind = on.behind; feeds = sym on.feeds })

-- a line feed
pub feed_front : (start : Spot) (bs : List ℕ) → 0 < length bs → get_or bs 0 0 ≡ 10
    → IsFront start bs spot.LineStart 1 1
feed_front start [] some feed = absurd (omega arith)
feed_front start (b ∷ bs) some feed =
    subst (λ k. IsFront start (k ∷ bs) spot.LineStart 1 1) (sym feed)
    (record { gap = refl; behind = refl; feeds = refl })
