-- The steps of a number.
use Rattle.std.proofs.Common.{◌≡◌, ◌≢◌, ℕ, zero, suc, ◌+◌, ◌-◌, ◌<◌, ◌≤◌, ◌||◌, ◌&&◌, not, cond}
use Rattle.std.proofs.Common.{Bool, true, false, nat_eq, nat_lt, ⊎_elim, List, [], ◌∷◌, length}
use Rattle.std.proofs.Common.{get_or, take, drop, arith, sym, ap, subst, ◌∙◌, refl, length-drop}
use Rattle.std.proofs.Common.{IsUtf8}
use Rattle.std.proofs.str.Laws.{order}
use Rattle.std.proofs.lemmas.Bool.Decides.{nat_tests}
use Rattle.std.proofs.lemmas.List.{drop-drop, get_or-drop}
use Rattle.std.proofs.lemmas.List.Sums.{prefix_len-drop_yes, prefix_len_stops, prefix_len-le-length}
use Rattle.std.specs.List.{list_all, before_first, after_first, prefix_len}
use Rattle.std.specs.Str.{IsCharBoundary}
use Rattle.std.specs.Char.{is_ascii_digit}
use Rattle.bean_base.specs.Numeral.{is_number, is_point, goes_on}
use Rattle.bean_base.proofs.NumeralFacts.{completes, completes_step, drop_more}
use Rattle.bean_lexer.specs.Lookahead.{has_more_digits}
use Rattle.theory.specs.LongestFront.{IsLongestFront}
use Rattle.std.proofs.lemmas.Str.{IsCharBoundary-start, IsCharBoundary-after_ascii}
use Rattle.byte_runs.proofs.RunFacts.{run_boundary}
use Rattle.theory.proofs.LongestFrontFacts.{front_at, front_run, front_end, front_end_nil}
use Rattle.theory.proofs.LongestFrontFacts.{all_front}

one_more : (n : ℕ) → 1 + n ≡ suc n
one_more n = omega arith

before_cons : (b : ℕ) (bs : List ℕ) → is_point b ≡ false
    → before_first is_point (b ∷ bs) ≡ b ∷ before_first is_point bs
before_cons b bs h =
    ap (λ t. take (cond (not t) (1 + prefix_len (λ x. not (is_point x)) bs) 0) (b ∷ bs)) h
    ∙ ap (λ n. take n (b ∷ bs)) (one_more (prefix_len (λ x. not (is_point x)) bs))

after_cons : (b : ℕ) (bs : List ℕ) → is_point b ≡ false
    → after_first is_point (b ∷ bs) ≡ after_first is_point bs
after_cons b bs h =
    ap (λ t. drop (cond (not t) (1 + prefix_len (λ x. not (is_point x)) bs) 0 + 1) (b ∷ bs)) h
    ∙ ap (λ n. drop n (b ∷ bs)) (let e : 1 + prefix_len (λ x. not (is_point x)) bs + 1
    ≡ suc (prefix_len (λ x. not (is_point x)) bs + 1) = omega arith in e)

-- what completes a number, behind a digit or not
abbrev pub rest_of_number : Bool → List ℕ → Bool
rest_of_number after bs =
    completes after (before_first is_point bs) && list_all is_ascii_digit (after_first is_point bs)

-- a byte that is no point stands in the whole part
pub whole_step : (after : Bool) (b : ℕ) (bs : List ℕ) → is_point b ≡ false →
    rest_of_number after (b ∷ bs)
    ≡ ((goes_on after b && completes (is_ascii_digit b) (before_first is_point bs))
    && list_all is_ascii_digit (after_first is_point bs))
whole_step after b bs h =
    (λ i. completes after (before_cons b bs h i) && list_all is_ascii_digit (after_cons b bs h i))
    ∙ ap (λ t. t && list_all is_ascii_digit (after_first is_point bs))
    (completes_step after b (before_first is_point bs))

no_point : (b : ℕ) → is_ascii_digit b ≡ true → is_point b ≡ false
no_point b h = grind (arith, nat_tests)

pub digit_step : (after : Bool) (b : ℕ) (bs : List ℕ) → is_ascii_digit b ≡ true
    → rest_of_number after (b ∷ bs) ≡ rest_of_number true bs
digit_step after b bs h =
    whole_step after b bs (no_point b h)
    ∙ ap (λ t. ((t || (after && nat_eq b 44)) && completes t (before_first is_point bs))
    && list_all is_ascii_digit (after_first is_point bs)) h

pub comma_step : (b : ℕ) → b ≡ 44 → (bs : List ℕ)
    → rest_of_number true (b ∷ bs) ≡ rest_of_number false bs
comma_step b h bs = ap (λ n. rest_of_number true (n ∷ bs)) h ∙ whole_step true 44 bs refl

pub point_step : (b : ℕ) → b ≡ 46 → (bs : List ℕ)
    → rest_of_number true (b ∷ bs) ≡ list_all is_ascii_digit bs
point_step b h bs = ap (λ n. rest_of_number true (n ∷ bs)) h

-- neither a digit nor a point
neither : (after : Bool) (b : ℕ) (bs : List ℕ) → is_ascii_digit b ≡ false
    → (after && nat_eq b 44) ≡ false →
    ((goes_on after b && completes (is_ascii_digit b) (before_first is_point bs))
    && list_all is_ascii_digit (after_first is_point bs)) ≡ false
neither after b bs d e =
    ap (λ t. ((t || (after && nat_eq b 44)) && completes t (before_first is_point bs))
    && list_all is_ascii_digit (after_first is_point bs)) d
    ∙ ap (λ t. ((false || t) && completes false (before_first is_point bs))
    && list_all is_ascii_digit (after_first is_point bs)) e

no_number : (t : Bool) (b : ℕ) → is_point b ≡ t → is_ascii_digit b ≡ false → (bs : List ℕ)
    → is_number (b ∷ bs) ≡ false
no_number true b p d bs =
    ap (λ n. is_number (n ∷ bs)) (let e : b ≡ 46 = grind (arith, nat_tests) in e)
no_number false b p d bs = whole_step false b bs p ∙ neither false b bs d refl

-- a number begins with a digit
pub begins_with_digit : (b : ℕ) (bs : List ℕ) → is_ascii_digit b ≡ false
    → is_number (b ∷ bs) ≡ false
begins_with_digit b bs h = no_number (is_point b) b refl h bs

pub other_step : (b : ℕ) → is_ascii_digit b ≡ false → b ≢ 44 → b ≢ 46 → (bs : List ℕ)
    → rest_of_number true (b ∷ bs) ≡ false
other_step b h comma point bs =
    whole_step true b bs (let e : is_point b ≡ false = grind (arith, nat_tests) in e)
    ∙ neither true b bs h (let e : nat_eq b 44 ≡ false = grind (arith, nat_tests) in e)

-- a run of digits, the first of which begins or goes on a number
pub digits_front : (after : Bool) (bs : List ℕ) (i e n : ℕ)
    → e ≡ i + prefix_len is_ascii_digit (drop i bs) → i < length bs
    → is_ascii_digit (get_or bs i 0) ≡ true →
    IsLongestFront (rest_of_number true) (drop e bs) n
    → IsLongestFront (rest_of_number after) (drop i bs) (e - i + n)
digits_front after bs i e n is inside digit front =
    let first = prefix_len-drop_yes is_ascii_digit bs i 0 inside digit in
    let q = prefix_len is_ascii_digit (drop (i + 1) bs) in
    let at : e ≡ i + 1 + q = omega arith in
    let len : 1 + (q + n) ≡ e - i + n = omega arith in
    let rest : IsLongestFront (rest_of_number true) (drop q (drop (i + 1) bs)) n =
    subst (λ l. IsLongestFront (rest_of_number true) l n)
    (ap (λ k. drop k bs) at ∙ sym (drop-drop q (i + 1) bs)) front in
    subst (λ k. IsLongestFront (rest_of_number after) (drop i bs) k) len
    (front_at (rest_of_number after) (rest_of_number true) bs i (q + n) 0 inside
    (λ more. digit_step after (get_or bs i 0) more digit)
    (front_run (rest_of_number true) is_ascii_digit (λ b h more. digit_step true b more h)
    (drop (i + 1) bs) n rest))

-- a comma, and a run of digits
pub comma_front : (bs : List ℕ) (i e n : ℕ)
    → e ≡ i + 1 + prefix_len is_ascii_digit (drop (i + 1) bs) → i + 1 < length bs
    → get_or bs i 0 ≡ 44 → is_ascii_digit (get_or bs (i + 1) 0) ≡ true →
    IsLongestFront (rest_of_number true) (drop e bs) n
    → IsLongestFront (rest_of_number true) (drop i bs) (e - i + n)
comma_front bs i e n is inside comma digit front =
    let len : 1 + (e - (i + 1) + n) ≡ e - i + n = omega arith in
    subst (λ k. IsLongestFront (rest_of_number true) (drop i bs) k) len
    (front_at (rest_of_number true) (rest_of_number false) bs i (e - (i + 1) + n) 0 (omega arith)
    (comma_step (get_or bs i 0) comma)
    (digits_front false bs (i + 1) e n is inside digit front))

-- a point, and a run of digits
pub point_front : (bs : List ℕ) (i e : ℕ) → e ≡ i + 1 + prefix_len is_ascii_digit (drop (i + 1) bs)
    → i < length bs → get_or bs i 0 ≡ 46 → IsLongestFront (rest_of_number true) (drop i bs) (e - i)
point_front bs i e is inside point =
    let len : 1 + prefix_len is_ascii_digit (drop (i + 1) bs) ≡ e - i = omega arith in
    subst (λ k. IsLongestFront (rest_of_number true) (drop i bs) k) len
    (front_at (rest_of_number true) (list_all is_ascii_digit) bs i
    (prefix_len is_ascii_digit (drop (i + 1) bs)) 0 inside (point_step (get_or bs i 0) point)
    (all_front is_ascii_digit (drop (i + 1) bs)))

no_number_front : (ys : List ℕ) (k : ℕ) → (0 < length ys → is_ascii_digit (get_or ys 0 0) ≡ false)
    → is_number (take k ys) ≡ false
no_number_front [] zero h = refl
no_number_front [] (suc k) h = refl
no_number_front (y ∷ ys) zero h = refl
no_number_front (y ∷ ys) (suc k) h = begins_with_digit y (take k ys) (h (omega arith))

front_of : (form : List ℕ → Bool) (b : ℕ) (bs : List ℕ) → ((k : ℕ) → form (b ∷ take k bs) ≡ false)
    → (m : ℕ) → 0 < m → form (take m (b ∷ bs)) ≡ false
front_of form b bs h m low = let e : m ≡ suc (m - 1) = omega arith in
    ap (λ k. form (take k (b ∷ bs))) e ∙ h (m - 1)

first_of_drop : (bs : List ℕ) (i : ℕ) → (i < length bs → is_ascii_digit (get_or bs i 0) ≡ false)
    → 0 < length (drop i bs) → is_ascii_digit (get_or (drop i bs) 0 0) ≡ false
first_of_drop bs i h some =
    let l = length-drop i bs in
    let e : i + 0 ≡ i = omega arith in
    ap is_ascii_digit (get_or-drop i bs 0 0 ∙ ap (λ k. get_or bs k 0) e) ∙ h (omega arith)

stops_at : (b : ℕ) (bs : List ℕ) (comma : Bool) → nat_eq b 44 ≡ comma → is_ascii_digit b ≡ false
    → nat_eq b 46 ≡ false → (comma ≡ true → 0 < length bs → is_ascii_digit (get_or bs 0 0) ≡ false)
    → (k : ℕ) → rest_of_number true (b ∷ take k bs) ≡ false
stops_at b bs true c d p h k =
    comma_step b (let e : b ≡ 44 = grind (arith, nat_tests) in e) (take k bs)
    ∙ no_number_front bs k (h refl)
stops_at b bs false c d p h k =
    other_step b d (let e : b ≢ 44 = grind (arith, nat_tests) in e) (let e : b ≢ 46 =
    grind (arith, nat_tests) in e) (take k bs)

last_of_three : (a b c : Bool) → (a && b && c) ≡ true → c ≡ true
last_of_three true true c h = h
last_of_three false b c h = absurd (cc)
last_of_three true false c h = absurd (cc)

no_other : (a b : Bool) → (a && b) ≡ false → a ≡ true → b ≡ false
no_other true b h e = h
no_other false b h e = absurd (cc)

no_second : (a b c : Bool) → (a && b && c) ≡ false → a ≡ true → b ≡ true → c ≡ false
no_second true true c h ha hb = h
no_second false b c h ha hb = absurd (cc)
no_second true false c h ha hb = absurd (cc)

-- neither a digit, nor a comma and a digit, nor a point
pub no_more : (bs : List ℕ) (i : ℕ) → (i < length bs → is_ascii_digit (get_or bs i 0) ≡ false)
    → has_more_digits bs i ≡ false → (i < length bs → nat_eq (get_or bs i 0) 46 ≡ false)
    → IsLongestFront (rest_of_number true) (drop i bs) 0
no_more bs i digit more point =
    ⊎_elim (λ inside.
    front_end (rest_of_number true) (drop i bs) refl (λ m some low.
    ap (λ l. rest_of_number true (take m l)) (drop_more i bs inside)
    ∙ front_of (rest_of_number true) (get_or bs i 0) (drop (i + 1) bs)
    (stops_at (get_or bs i 0) (drop (i + 1) bs) (nat_eq (get_or bs i 0) 44) refl (digit inside)
    (point inside)
    (λ comma. first_of_drop bs (i + 1)
    (λ low. no_second _ _ _ more (let e : nat_lt (i + 1) (length bs) ≡ true =
    grind (arith, nat_tests) in e) comma))) m some))
    (λ past. front_end_nil (rest_of_number true) bs i refl past) (order i (length bs))

-- what the loop over a whole part keeps
pub record ReadsWhole (bs : List ℕ) (len : ℕ) : Type 0 where
  pub inside : len ≤ length bs
  pub stops : len < length bs → is_ascii_digit (get_or bs len 0) ≡ false
  pub so_far : (n : ℕ) → IsLongestFront (rest_of_number true) (drop len bs) n
      → IsLongestFront is_number bs (len + n)
  pub boundary : IsUtf8 bs → IsCharBoundary bs len

digit_is_ascii : (b : ℕ) → is_ascii_digit b ≡ true → b < 128
digit_is_ascii b h = grind (arith, nat_tests)

run_stops : (bs : List ℕ) (i e : ℕ) → e ≡ i + prefix_len is_ascii_digit (drop i bs) → i ≤ length bs
    → e < length bs → is_ascii_digit (get_or bs e 0) ≡ false
run_stops bs i e is inside low =
    let l = length-drop i bs in
    ap (λ k. is_ascii_digit (get_or bs k 0)) is
    ∙ ap is_ascii_digit (sym (get_or-drop i bs (prefix_len is_ascii_digit (drop i bs)) 0))
    ∙ prefix_len_stops is_ascii_digit (drop i bs) 0 (omega arith)

run_inside : (bs : List ℕ) (i e : ℕ) → e ≡ i + prefix_len is_ascii_digit (drop i bs) → i ≤ length bs
    → e ≤ length bs
run_inside bs i e is inside = let l = length-drop i bs in let w =
    prefix_len-le-length is_ascii_digit (drop i bs) in omega arith

pub whole_starts : (bs : List ℕ) (e : ℕ) → e ≡ 0 + prefix_len is_ascii_digit (drop 0 bs)
    → 0 < length bs → is_ascii_digit (get_or bs 0 0) ≡ true → ReadsWhole bs e
whole_starts bs e is some digit = record {
  inside = run_inside bs 0 e is (omega arith);
  stops = λ low. run_stops bs 0 e is (omega arith) low;
  so_far = λ n front.
      let l : e - 0 + n ≡ e + n = omega arith in
      subst (λ k. IsLongestFront is_number bs k) l
      (digits_front false bs 0 e n is some digit front);
  boundary =
      λ utf8. subst (IsCharBoundary bs) (sym is)
      (run_boundary is_ascii_digit digit_is_ascii bs 0 utf8 (omega arith)
      (IsCharBoundary-start bs utf8));
}

more_holds : (bs : List ℕ) (i : ℕ) → has_more_digits bs i ≡ true
    → (i + 1 < length bs) × (get_or bs i 0 ≡ 44) × (is_ascii_digit (get_or bs (i + 1) 0) ≡ true)
more_holds bs i h = (
  grind (arith, nat_tests),
  grind (arith, nat_tests),
  last_of_three (nat_lt (i + 1) (length bs))
      (nat_eq (get_or bs i 0) 44) _ h,
)

pub whole_goes_on : (bs : List ℕ) (i e : ℕ)
    → e ≡ i + 1 + prefix_len is_ascii_digit (drop (i + 1) bs) → has_more_digits bs i ≡ true
    → ReadsWhole bs i → ReadsWhole bs e
whole_goes_on bs i e is more so_far =
    let h = more_holds bs i more in
    let low : i + 1 < length bs = h.0 in
    record {
      inside = run_inside bs (i + 1) e is (omega arith);
      stops = λ before. run_stops bs (i + 1) e is (omega arith) before;
      so_far = λ n front.
          let l : i + (e - i + n) ≡ e + n = omega arith in
          subst (λ k. IsLongestFront is_number bs k) l
          (so_far.so_far (e - i + n) (comma_front bs i e n is low h.1 h.2 front));
      boundary = λ utf8. subst (IsCharBoundary bs) (sym is)
          (run_boundary is_ascii_digit digit_is_ascii bs (i + 1) utf8 (omega arith)
          (IsCharBoundary-after_ascii bs i utf8 (omega arith) (let e : get_or bs i 0 < 128 =
          omega (arith, h.1) in e)));
    }

pub number_without_point : (bs : List ℕ) (i : ℕ) → has_more_digits bs i ≡ false
    → (nat_lt i (length bs) && nat_eq (get_or bs i 0) 46) ≡ false → ReadsWhole bs i
    → IsLongestFront is_number bs i
number_without_point bs i more point so_far =
    let l : i + 0 ≡ i = omega arith in
    subst (λ k. IsLongestFront is_number bs k) l
    (so_far.so_far 0
    (no_more bs i so_far.stops more
    (λ low. no_other _ _ point (let e : nat_lt i (length bs) ≡ true =
    grind (arith, nat_tests) in e))))

pub number_with_point : (bs : List ℕ) (i e : ℕ)
    → e ≡ i + 1 + prefix_len is_ascii_digit (drop (i + 1) bs)
    → (nat_lt i (length bs) && nat_eq (get_or bs i 0) 46) ≡ true → ReadsWhole bs i
    → IsLongestFront is_number bs e
number_with_point bs i e is point so_far =
    let low : i < length bs = grind (arith, nat_tests) in
    let b : get_or bs i 0 ≡ 46 = grind (arith, nat_tests) in
    let l : i + (e - i) ≡ e = omega arith in
    subst (λ k. IsLongestFront is_number bs k) l
    (so_far.so_far (e - i) (point_front bs i e is low b))

pub point_boundary : (bs : List ℕ) (i e : ℕ)
    → e ≡ i + 1 + prefix_len is_ascii_digit (drop (i + 1) bs)
    → (nat_lt i (length bs) && nat_eq (get_or bs i 0) 46) ≡ true → IsUtf8 bs → IsCharBoundary bs e
point_boundary bs i e is point utf8 =
    let low : i < length bs = grind (arith, nat_tests) in
    let b : get_or bs i 0 ≡ 46 = grind (arith, nat_tests) in
    subst (IsCharBoundary bs) (sym is)
    (run_boundary is_ascii_digit digit_is_ascii bs (i + 1) utf8 (omega arith)
    (IsCharBoundary-after_ascii bs i utf8 low (let e : get_or bs i 0 < 128 = omega (arith, b) in
    e)))
