-- A gap is what stands between tokens.
use Rattle.std.proofs.Common.{◌≡◌, ℕ, zero, suc, ◌+◌, ◌<◌, ◌≤◌, ◌&&◌, ◌||◌, ◌==◌, cond, Bool, true}
use Rattle.std.proofs.Common.{false, List, [], ◌∷◌, ◌++◌, length, get_or, take, drop, Option, Some}
use Rattle.std.proofs.Common.{None, arith, refl, sym, ap, ◌∙◌, subst, if◌then◌else◌, append_assoc}
use Rattle.std.proofs.lemmas.Bool.Decides.{nat_tests}
use Rattle.std.proofs.lemmas.List.{append-nil}
use Rattle.std.proofs.lemmas.List.Folds.{list_any-append}
use Rattle.std.specs.Option.{option_map_or}
use Rattle.std.specs.List.{list_any}
use Rattle.bean_lexer.specs.Gap.{is_line_feed, gap_len, is_white, begins_skipped, spot_at}
use Rattle.bean_lexer.specs.Gap.{behind_white, is_comment, is_line_start}
use Rattle.bean_lexer.specs.Between.{is_semicolon, last_line, line_begins, first_is_skipped}
use Rattle.bean_lexer.specs.Between.{is_between, HasGaps}
use Rattle.bean_lexer.specs.declared.gaps.Spot.{Spot}
use Rattle.bean_lexer.specs.declared.gaps.Spot.TheVariants as spots

-- one more byte

or_false : (a b : Bool) → b ≡ false → (a || b) ≡ a
or_false true b h = refl
or_false false b h = h

or_true : (a b : Bool) → b ≡ true → (a || b) ≡ true
or_true true b h = refl
or_true false b h = h

any_more : (p : ℕ → Bool) (bs : List ℕ) (b : ℕ) (t : Bool) → p b ≡ t
    → list_any p (bs ++ b ∷ []) ≡ (list_any p bs || t)
any_more p bs b t e =
    list_any-append p bs (b ∷ []) ∙ ap (λ x. list_any p bs || x) (or_false (p b) false refl ∙ e)

line_after_feed : (bs : List ℕ) (b : ℕ) → is_line_feed b ≡ true → last_line (bs ++ b ∷ []) ≡ []
line_after_feed [] b e = ap (λ t. cond t [] (b ∷ [])) (or_false (is_line_feed b) false refl ∙ e)
line_after_feed (c ∷ bs) b e =
    ap (λ t. cond t (last_line (bs ++ b ∷ [])) (c ∷ (bs ++ b ∷ [])))
    (any_more is_line_feed (c ∷ bs) b true e
    ∙ or_true (list_any is_line_feed (c ∷ bs)) true refl)
    ∙ line_after_feed bs b e

line_step : (t : Bool) (bs more : List ℕ) (c b : ℕ) → more ≡ last_line bs ++ b ∷ []
    → cond t more (c ∷ (bs ++ b ∷ [])) ≡ cond t (last_line bs) (c ∷ bs) ++ b ∷ []
line_step true bs more c b e = e
line_step false bs more c b e = refl

line_goes_on : (bs : List ℕ) (b : ℕ) → is_line_feed b ≡ false
    → last_line (bs ++ b ∷ []) ≡ last_line bs ++ b ∷ []
line_goes_on [] b e = ap (λ t. cond t [] (b ∷ [])) (or_false (is_line_feed b) false refl ∙ e)
line_goes_on (c ∷ bs) b e =
    ap (λ t. cond t (last_line (bs ++ b ∷ [])) (c ∷ (bs ++ b ∷ [])))
    (any_more is_line_feed (c ∷ bs) b false e
    ∙ or_false (list_any is_line_feed (c ∷ bs)) false refl)
    ∙ line_step (list_any is_line_feed (c ∷ bs)) bs (last_line (bs ++ b ∷ [])) c b
    (line_goes_on bs b e)

is_nothing : List ℕ → Bool
is_nothing [] = true
is_nothing (b ∷ bs) = false

-- what the bytes of a line so far say of it: that one is in a comment or in a skipped line, and
-- that nothing stands in it
abbrev in_note : Bool → List ℕ → Bool
in_note begins line = list_any is_semicolon line || (begins && first_is_skipped line)

abbrev is_fresh : Bool → List ℕ → Bool
is_fresh begins line = begins && is_nothing line

-- a spot is where the bytes of the gap so far lead
record Stands (starts : Bool) (spot : Spot) (before : List ℕ) : Type 0 where
  note : is_comment spot ≡ in_note (line_begins starts before) (last_line before)
  fresh : is_line_start spot ≡ is_fresh (line_begins starts before) (last_line before)

-- how a byte goes on a gap, by what it is and by the spot
abbrev goes_on : Bool → Bool → Bool → Bool → Bool → Bool → Bool
goes_on feed white comment semicolon start skipped =
    feed || (white || (comment || semicolon || (start && skipped)))

fresh_between : (begins feed white semicolon skipped : Bool) →
    (white || feed || (semicolon || false) || (begins && skipped))
    ≡ goes_on feed white (false || (begins && false)) semicolon (begins && true) skipped
fresh_between begins true true semicolon skipped = refl
fresh_between begins true false semicolon skipped = refl
fresh_between begins false true semicolon skipped = refl
fresh_between true false false true skipped = refl
fresh_between true false false false skipped = refl
fresh_between false false false true skipped = refl
fresh_between false false false false skipped = refl

used_between : (begins feed white any semicolon skipped first : Bool) →
    (white || feed || (any || semicolon) || (begins && first))
    ≡ goes_on feed white (any || (begins && first)) semicolon (begins && false) skipped
used_between begins true true any semicolon skipped first = refl
used_between begins true false any semicolon skipped first = refl
used_between begins false true any semicolon skipped first = refl
used_between begins false false true semicolon skipped first = refl
used_between true false false false true skipped true = refl
used_between true false false false true skipped false = refl
used_between true false false false false skipped true = refl
used_between true false false false false skipped false = refl
used_between false false false false true skipped first = refl
used_between false false false false false skipped first = refl

between_in : (begins : Bool) (line : List ℕ) (b : ℕ) →
    (is_white b || is_line_feed b || list_any is_semicolon (line ++ b ∷ [])
    || (begins && first_is_skipped (line ++ b ∷ [])))
    ≡ goes_on (is_line_feed b) (is_white b) (in_note begins line) (is_semicolon b)
    (is_fresh begins line) (begins_skipped b)
unfolding is_nothing
between_in begins [] b =
    fresh_between begins (is_line_feed b) (is_white b) (is_semicolon b) (begins_skipped b)
between_in begins (c ∷ cs) b =
    ap (λ t. is_white b || is_line_feed b || t || (begins && begins_skipped c))
    (any_more is_semicolon (c ∷ cs) b (is_semicolon b) refl)
    ∙ used_between begins (is_line_feed b) (is_white b) (list_any is_semicolon (c ∷ cs))
    (is_semicolon b) (begins_skipped b) (begins_skipped c)

-- a byte stands between tokens exactly where the gap goes on with it
between_by : (starts : Bool) (spot : Spot) (before : List ℕ) (b : ℕ) → Stands starts spot before →
    is_between starts before b
    ≡ goes_on (is_line_feed b) (is_white b) (is_comment spot) (is_semicolon b)
    (is_line_start spot) (begins_skipped b)
between_by starts spot before b s =
    between_in (line_begins starts before) (last_line before) b
    ∙ (λ i. goes_on (is_line_feed b) (is_white b) (sym s.note i) (is_semicolon b) (sym s.fresh i)
    (begins_skipped b))

-- Where one is behind a byte of a gap.

behind_feed : (starts : Bool) (before : List ℕ) (b : ℕ) → is_line_feed b ≡ true
    → Stands starts spots.LineStart (before ++ b ∷ [])
unfolding is_nothing
behind_feed starts before b e =
    let line = line_after_feed before b e in
    let begins : line_begins starts (before ++ b ∷ []) ≡ true =
    or_true starts (list_any is_line_feed (before ++ b ∷ []))
    (any_more is_line_feed before b true e
    ∙ or_true (list_any is_line_feed before) true refl) in
    record {
      note = sym ((λ i. in_note (begins i) (line i)));
      fresh = sym ((λ i. is_fresh (begins i) (line i)));
    }

same_begins : (starts : Bool) (before : List ℕ) (b : ℕ) → is_line_feed b ≡ false
    → line_begins starts (before ++ b ∷ []) ≡ line_begins starts before
same_begins starts before b e =
    ap (λ t. starts || t) (any_more is_line_feed before b false e
    ∙ or_false (list_any is_line_feed before) false refl)

and_false : (a : Bool) → (a && false) ≡ false
and_false true = refl
and_false false = refl

not_fresh : (begins : Bool) (line : List ℕ) (b : ℕ) → is_fresh begins (line ++ b ∷ []) ≡ false
unfolding is_nothing
not_fresh begins [] b = and_false begins
not_fresh begins (c ∷ cs) b = and_false begins

white_note : (begins : Bool) (line : List ℕ) (b : ℕ) → is_semicolon b ≡ false
    → begins_skipped b ≡ false → in_note begins (line ++ b ∷ []) ≡ in_note begins line
white_note begins [] b e f = (λ i. (e i || false) || (begins && f i))
white_note begins (c ∷ cs) b e f =
    ap (λ t. t || (begins && begins_skipped c))
    (any_more is_semicolon (c ∷ cs) b false e
    ∙ or_false (list_any is_semicolon (c ∷ cs)) false refl)

white_comment : (spot : Spot) → is_comment (behind_white spot) ≡ is_comment spot
white_comment spots.LineStart = refl
white_comment spots.Indent = refl
white_comment spots.Behind = refl
white_comment spots.Comment = refl

white_start : (spot : Spot) → is_line_start (behind_white spot) ≡ false
white_start spots.LineStart = refl
white_start spots.Indent = refl
white_start spots.Behind = refl
white_start spots.Comment = refl

behind_space : (starts : Bool) (spot : Spot) (before : List ℕ) (b : ℕ) → Stands starts spot before
    → is_line_feed b ≡ false → is_white b ≡ true
    → Stands starts (behind_white spot) (before ++ b ∷ [])
behind_space starts spot before b s feed white =
    let line = line_goes_on before b feed in
    let begins = same_begins starts before b feed in
    let semicolon : is_semicolon b ≡ false = grind (arith, nat_tests) in
    let skipped : begins_skipped b ≡ false = grind (arith, nat_tests) in
    record {
      note = white_comment spot ∙ s.note
          ∙ sym (white_note (line_begins starts before) (last_line before) b semicolon skipped)
          ∙ sym ((λ i. in_note (begins i) (line i)));
      fresh = white_start spot ∙ sym (not_fresh (line_begins starts before) (last_line before) b)
          ∙ sym ((λ i. is_fresh (begins i) (line i)));
    }

noted : (begins : Bool) (line : List ℕ) (b : ℕ)
    → (in_note begins line || is_semicolon b || (is_fresh begins line && begins_skipped b)) ≡ true
    → in_note begins (line ++ b ∷ []) ≡ true
unfolding is_nothing
noted true [] b h = h' (is_semicolon b) (begins_skipped b) h
  where
    h' : (s k : Bool) → (false || s || k) ≡ true → ((s || false) || k) ≡ true
    h' true k e = refl
    h' false k e = e
noted false [] b h = h' (is_semicolon b) h
  where
    h' : (s : Bool) → (s || false) ≡ true → ((s || false) || false) ≡ true
    h' true e = refl
    h' false e = e
noted begins (c ∷ cs) b h =
    ap (λ t. t || (begins && begins_skipped c))
    (any_more is_semicolon (c ∷ cs) b (is_semicolon b) refl)
    ∙ h' (list_any is_semicolon (c ∷ cs)) (begins && begins_skipped c) (is_semicolon b) begins
    (begins_skipped b) h
  where
    h' : (a k s e f : Bool) → ((a || k) || s || ((e && false) && f)) ≡ true → ((a || s) || k) ≡ true
    h' true k s e f g = refl
    h' false true true e f g = refl
    h' false true false e f g = refl
    h' false false true e f g = refl
    h' false false false true f g = g
    h' false false false false f g = g

behind_note : (starts : Bool) (spot : Spot) (before : List ℕ) (b : ℕ) → Stands starts spot before
    → is_line_feed b ≡ false
    → (is_comment spot || is_semicolon b || (is_line_start spot && begins_skipped b)) ≡ true
    → Stands starts spots.Comment (before ++ b ∷ [])
behind_note starts spot before b s feed h =
    let line = line_goes_on before b feed in
    let begins = same_begins starts before b feed in
    let here :
    (in_note (line_begins starts before) (last_line before) || is_semicolon b
    || (is_fresh (line_begins starts before) (last_line before) && begins_skipped b))
    ≡ (is_comment spot || is_semicolon b || (is_line_start spot && begins_skipped b)) =
    (λ i. sym s.note i || is_semicolon b || (sym s.fresh i && begins_skipped b)) in
    record {
      note = sym ((λ i. in_note (begins i) (line i))
          ∙ noted (line_begins starts before) (last_line before) b (here ∙ h));
      fresh = sym ((λ i. is_fresh (begins i) (line i))
          ∙ not_fresh (line_begins starts before) (last_line before) b);
    }

-- The gap from a spot on, behind bytes of it.
record GapBehind (starts : Bool) (before bs : List ℕ) (n : ℕ) : Type 0 where
  inside : n ≤ length bs
  between : (k : ℕ) → k < n → is_between starts (before ++ take k bs) (get_or bs k 0) ≡ true
  ends : n < length bs → is_between starts (before ++ take n bs) (get_or bs n 0) ≡ false

gap_goes_on : (starts : Bool) (before : List ℕ) (b : ℕ) (bs : List ℕ) (n : ℕ)
    → is_between starts before b ≡ true → GapBehind starts (before ++ b ∷ []) bs n
    → GapBehind starts before (b ∷ bs) (1 + n)
gap_goes_on starts before b bs n first more = record {
  inside = omega (arith, more.inside);
  between = between;
  ends = λ low.
      let e : 1 + n ≡ suc n = omega arith in
      subst (λ m. is_between starts (before ++ take m (b ∷ bs)) (get_or (b ∷ bs) m 0)
      ≡ false) (sym e)
      (ap (λ l. is_between starts l (get_or bs n 0))
      (sym (append_assoc before (b ∷ []) (take n bs))) ∙ more.ends (omega arith));
}
  where
    between : (k : ℕ) → k < 1 + n
        → is_between starts (before ++ take k (b ∷ bs)) (get_or (b ∷ bs) k 0) ≡ true
    between zero low = ap (λ l. is_between starts l b) (append-nil before) ∙ first
    between (suc k) low =
        ap (λ l. is_between starts l (get_or bs k 0))
        (sym (append_assoc before (b ∷ []) (take k bs))) ∙ more.between k (omega arith)

gap_ends : (starts : Bool) (before : List ℕ) (b : ℕ) (bs : List ℕ)
    → is_between starts before b ≡ false → GapBehind starts before (b ∷ bs) 0
gap_ends starts before b bs first = record {
  inside = omega arith;
  between = λ k low. absurd (omega arith);
  ends = λ low. ap (λ l. is_between starts l b) (append-nil before) ∙ first;
}

abbrev notes : Spot → ℕ → Bool
notes spot b = is_comment spot || is_semicolon b || (is_line_start spot && begins_skipped b)

abbrev len_of : List ℕ → Option Spot → ℕ
len_of bs next = option_map_or (λ at. 1 + gap_len at bs) next 0

-- what stands behind a byte, from each spot that it may lead to
abbrev Behind : Bool → List ℕ → List ℕ → Type 0
Behind starts before bs = (next : Spot) → Stands starts next before
    → GapBehind starts before bs (gap_len next bs)

by_note : (starts : Bool) (spot : Spot) (before : List ℕ) (b : ℕ) (bs : List ℕ) (t : Bool)
    → Stands starts spot before → Behind starts (before ++ b ∷ []) bs → is_line_feed b ≡ false
    → notes spot b ≡ t → is_between starts before b ≡ t
    → GapBehind starts before (b ∷ bs) (len_of bs (if t then Some spots.Comment else None))
by_note starts spot before b bs true s go feed e is =
    gap_goes_on starts before b bs _ is
    (go spots.Comment (behind_note starts spot before b s feed e))
by_note starts spot before b bs false s go feed e is = gap_ends starts before b bs is

by_white : (starts : Bool) (spot : Spot) (before : List ℕ) (b : ℕ) (bs : List ℕ) (t : Bool)
    → Stands starts spot before → Behind starts (before ++ b ∷ []) bs → is_line_feed b ≡ false
    → is_white b ≡ t → is_between starts before b ≡ (t || notes spot b)
    → GapBehind starts before (b ∷ bs)
    (len_of bs (if t then Some (behind_white spot) else if notes spot b then Some spots.Comment else
    None))
by_white starts spot before b bs true s go feed e is =
    gap_goes_on starts before b bs _ is
    (go (behind_white spot) (behind_space starts spot before b s feed e))
by_white starts spot before b bs false s go feed e is =
    by_note starts spot before b bs (notes spot b) s go feed refl is

by_feed : (starts : Bool) (spot : Spot) (before : List ℕ) (b : ℕ) (bs : List ℕ) (t : Bool)
    → Stands starts spot before → Behind starts (before ++ b ∷ []) bs
    → is_line_feed b ≡ t → is_between starts before b ≡ (t || (is_white b || notes spot b))
    → GapBehind starts before (b ∷ bs)
    (len_of bs (if t then Some spots.LineStart else if is_white b then Some (behind_white spot) else
    if notes spot b then Some spots.Comment else None))
by_feed starts spot before b bs true s go e is =
    gap_goes_on starts before b bs _ is (go spots.LineStart (behind_feed starts before b e))
by_feed starts spot before b bs false s go e is =
    by_white starts spot before b bs (is_white b) s go e refl is

gap_behind : (starts : Bool) (spot : Spot) (before bs : List ℕ) → Stands starts spot before
    → GapBehind starts before bs (gap_len spot bs)
gap_behind starts spot before [] s =
    record {
      inside = omega arith;
      between = λ k low. absurd (omega arith);
      ends =
          λ low. absurd (omega arith);
    }
gap_behind starts spot before (b ∷ bs) s =
    by_feed starts spot before b bs (is_line_feed b) s
    (λ next t. gap_behind starts next (before ++ b ∷ []) bs t) refl
    (between_by starts spot before b s)

stands_at : (at : ℕ) → Stands (at == 0) (spot_at at) []
unfolding is_nothing
stands_at zero = record { note = refl; fresh = refl }
stands_at (suc at) =
    let e : (suc at == 0) ≡ false = grind (arith, nat_tests) in
    record {
      note = sym (and_false ((suc at == 0) || false));
      fresh =
          sym (ap (λ t. (t || false) && true) e);
    }

pub has_gaps : (text : List ℕ) → HasGaps text
has_gaps text = λ at inside. let g =
    gap_behind (at == 0) (spot_at at) [] (drop at text) (stands_at at) in
    record { inside = g.inside; between = g.between; ends = g.ends }
