-- The longest currency or truth value at the front.
use Rattle.std.proofs.Common.{◌≡◌, ◌≢◌, ℕ, zero, suc, ◌+◌, ◌-◌, ◌<◌, ◌≤◌, ◌||◌, ◌&&◌, not, cond}
use Rattle.std.proofs.Common.{min, Bool, true, false, nat_eq, nat_lt, List, [], ◌∷◌, length, get_or}
use Rattle.std.proofs.Common.{take, drop, arith, ap, subst, ◌∙◌, refl, length-take-le, IsUtf8}
use Rattle.std.proofs.Common.{⊎_elim}
use Rattle.std.proofs.str.Laws.{order}
use Rattle.std.proofs.lemmas.Bool.Decides.{nat_tests}
use Rattle.std.proofs.lemmas.List.{get_or-take}
use Rattle.std.proofs.lemmas.List.Sums.{prefix_len_passes, prefix_len-le-length}
use Rattle.std.proofs.lemmas.Str.{IsCharBoundary-after_ascii}
use Rattle.std.specs.List.{list_all, prefix_len}
use Rattle.std.specs.Char.{is_ascii_digit, is_ascii_uppercase}
use Rattle.std.specs.Str.{IsCharBoundary}
use Rattle.bean_base.specs.Name.{is_in_currency}
use Rattle.theory.specs.LongestFront.{IsLongestFront}
use Rattle.bean_lexer.specs.Lookahead.{is_currency_form, ends_currency, has_bad_end}
use Rattle.theory.proofs.LongestFrontFacts.{all_front}

-- how far the characters of a currency reach
abbrev pub reach_of : List ℕ → ℕ
reach_of bs = min (prefix_len is_in_currency bs) 24

-- what the loop back from there keeps
pub record TrimsCurrency (bs : List ℕ) (len : ℕ) : Type 0 where
  pub some : 0 < len
  pub below : len ≤ reach_of bs
  pub passed : (i : ℕ) → len ≤ i → i < reach_of bs → ends_currency (get_or bs i 0) ≡ false

all_of_cons : (p : ℕ → Bool) (b : ℕ) (bs : List ℕ) (n : ℕ) (t : Bool) → p b ≡ t
    → (n ≤ prefix_len p bs → list_all p (take n bs) ≡ true) → suc n ≤ cond t (1 + prefix_len p bs) 0
    → (p b && list_all p (take n bs)) ≡ true
all_of_cons p b bs n true e rest h = ap (λ u. u && list_all p (take n bs)) e ∙ rest (omega arith)
all_of_cons p b bs n false e rest h = absurd (omega arith)

all_of_front : (p : ℕ → Bool) (bs : List ℕ) (n : ℕ) → n ≤ prefix_len p bs
    → list_all p (take n bs) ≡ true
all_of_front p bs zero h = refl
all_of_front p [] (suc n) h = absurd (omega arith)
all_of_front p (b ∷ bs) (suc n) h = all_of_cons p b bs n (p b) refl (all_of_front p bs n) h

form_by : (xs : List ℕ) → 1 ≤ length xs → length xs ≤ 24 → list_all is_in_currency xs ≡ true
    → is_ascii_uppercase (get_or xs 0 0) ≡ true → ends_currency (get_or xs (length xs - 1) 0) ≡ true
    → is_currency_form xs ≡ true
form_by xs some few all first last = grind (arith, nat_tests)

too_long : (xs : List ℕ) → 24 < length xs → is_currency_form xs ≡ false
too_long xs h = grind (arith, nat_tests)

not_all : (xs : List ℕ) → list_all is_in_currency xs ≡ false → is_currency_form xs ≡ false
not_all xs h = grind (arith, nat_tests)

bad_end : (xs : List ℕ) → ends_currency (get_or xs (length xs - 1) 0) ≡ false
    → is_currency_form xs ≡ false
bad_end xs h = grind (arith, nat_tests)

longer_by : (bs : List ℕ) (len m : ℕ) (few run : Bool) → nat_lt 24 m ≡ few
    → nat_lt (prefix_len is_in_currency bs) m ≡ run → TrimsCurrency bs len → len < m → m ≤ length bs
    → is_currency_form (take m bs) ≡ false
longer_by bs len m true run f r trims low high = let l = length-take-le m bs high in
    too_long (take m bs) (grind (arith, nat_tests))
longer_by bs len m false true f r trims low high =
    not_all (take m bs) ((all_front is_in_currency bs).longest m (grind (arith, nat_tests)) high)
longer_by bs len m false false f r trims low high =
    let l = length-take-le m bs high in
    let a : m ≤ 24 = grind (arith, nat_tests) in
    let b : m ≤ prefix_len is_in_currency bs = grind (arith, nat_tests) in
    let last : length (take m bs) - 1 ≡ m - 1 = omega arith in
    bad_end (take m bs) (ap (λ k. ends_currency (get_or (take m bs) k 0)) last
    ∙ ap ends_currency (get_or-take m bs (m - 1) 0 (omega arith))
    ∙ trims.passed (m - 1) (omega arith) (omega arith))

pub trimmed : (bs : List ℕ) (len : ℕ) → 0 < length bs → is_ascii_uppercase (get_or bs 0 0) ≡ true
    → ends_currency (get_or bs (len - 1) 0) ≡ true → TrimsCurrency bs len
    → IsLongestFront is_currency_form bs len
trimmed bs len some capital ends trims =
    let w = prefix_len-le-length is_in_currency bs in
    let below = trims.below in
    let low = trims.some in
    let inside : len ≤ length bs = omega arith in
    let l = length-take-le len bs inside in
    let last : length (take len bs) - 1 ≡ len - 1 = omega arith in
    record {
      inside = inside;
      of_form =
          form_by (take len bs) (omega arith) (omega arith)
          (all_of_front is_in_currency bs len (omega arith))
          (ap is_ascii_uppercase (get_or-take len bs 0 0 low) ∙ capital)
          (ap (λ k. ends_currency (get_or (take len bs) k 0)) last
          ∙ ap ends_currency (get_or-take len bs (len - 1) 0 (omega arith)) ∙ ends);
      longest =
          λ m low high. longer_by bs len m (nat_lt 24 m) (nat_lt (prefix_len is_in_currency bs) m)
          refl refl trims low high;
    }

capital_in : (b : ℕ) → is_ascii_uppercase b ≡ true → is_in_currency b ≡ true
capital_in b h = grind (arith, nat_tests)

first_in : (b : ℕ) (bs : List ℕ) → is_in_currency b ≡ true → 0 < prefix_len is_in_currency (b ∷ bs)
first_in b bs h = let e : prefix_len is_in_currency (b ∷ bs) ≡ 1 + prefix_len is_in_currency bs =
    ap (λ t. cond t (1 + prefix_len is_in_currency bs) 0) h in omega arith

some_in : (bs : List ℕ) → 0 < length bs → is_ascii_uppercase (get_or bs 0 0) ≡ true
    → 0 < prefix_len is_in_currency bs
some_in [] some h = absurd (omega arith)
some_in (b ∷ bs) some h = first_in b bs (capital_in b h)

pub trim_starts : (bs : List ℕ) → 0 < length bs → is_ascii_uppercase (get_or bs 0 0) ≡ true
    → TrimsCurrency bs (reach_of bs)
trim_starts bs some capital =
    let p = some_in bs some capital in
    record { some = omega arith; below = omega arith; passed = λ i low high. absurd (omega arith) }

-- of a front there is no more at the front
by_test : (a b n : ℕ) (t : Bool) → a ≡ min b n → cond t (1 + a) 0 ≡ min (cond t (1 + b) 0) (suc n)
by_test a b n true e = omega (arith, e)
by_test a b n false e = omega arith

front_reaches : (p : ℕ → Bool) (n : ℕ) (bs : List ℕ) → prefix_len p (take n bs) ≡ min (prefix_len p bs) n
front_reaches p zero bs = omega arith
front_reaches p (suc n) [] = omega arith
front_reaches p (suc n) (b ∷ bs) =
    by_test (prefix_len p (take n bs)) (prefix_len p bs) n (p b) (front_reaches p n bs)

pub front_reach : (bs front : List ℕ) (n : ℕ) → front ≡ take (min (length bs) 24) bs
    → n ≡ 0 + prefix_len is_in_currency (drop 0 front) → n ≡ reach_of bs
front_reach bs front n cut is =
    let w = prefix_len-le-length is_in_currency bs in
    let f = ap (prefix_len is_in_currency) cut in
    let r = front_reaches is_in_currency (min (length bs) 24) bs in omega (arith, is, f, r, w)

passed_by : (bs : List ℕ) (len i : ℕ) (t : Bool) → nat_eq i (len - 1) ≡ t
    → ends_currency (get_or bs (len - 1) 0) ≡ false → TrimsCurrency bs len → len - 1 ≤ i
    → i < reach_of bs → ends_currency (get_or bs i 0) ≡ false
passed_by bs len i true e ends trims low high = let s : i ≡ len - 1 = grind (arith, nat_tests) in
    ap (λ k. ends_currency (get_or bs k 0)) s ∙ ends
passed_by bs len i false e ends trims low high = let s : i ≢ len - 1 = grind (arith, nat_tests) in
    trims.passed i (omega arith) high

pub trim_goes_on : (bs : List ℕ) (len : ℕ) → 1 < len → ends_currency (get_or bs (len - 1) 0) ≡ false
    → TrimsCurrency bs len → TrimsCurrency bs (len - 1)
trim_goes_on bs len more ends trims =
    let below = trims.below in
    record {
      some = omega arith;
      below = omega arith;
      passed = λ i low high. passed_by bs len i (nat_eq i (len - 1)) refl ends trims low high;
    }

in_is_ascii : (b : ℕ) → is_in_currency b ≡ true → b < 128
in_is_ascii b h = grind (arith, nat_tests)

pub trim_boundary : (bs : List ℕ) (len : ℕ) → TrimsCurrency bs len → IsUtf8 bs
    → IsCharBoundary bs len
trim_boundary bs len trims utf8 =
    let w = prefix_len-le-length is_in_currency bs in
    let below = trims.below in
    let low = trims.some in
    let e : len - 1 + 1 ≡ len = omega arith in
    subst (IsCharBoundary bs) e
    (IsCharBoundary-after_ascii bs (len - 1) utf8 (omega arith)
    (in_is_ascii (get_or bs (len - 1) 0)
    (prefix_len_passes is_in_currency bs (len - 1) 0 (omega arith))))

pub one_capital : (bs : List ℕ) (len : ℕ) → TrimsCurrency bs len → len ≤ 1
    → is_ascii_uppercase (get_or bs 0 0) ≡ true → ends_currency (get_or bs (len - 1) 0) ≡ true
one_capital bs len trims few capital =
    let some = trims.some in
    let e : len - 1 ≡ 0 = omega arith in
    ap (λ k. ends_currency (get_or bs k 0)) e
    ∙ ap (λ t. t || is_ascii_digit (get_or bs 0 0)) capital

end_holds : (a e : Bool) → a ≡ true → (a && not e) ≡ false → e ≡ true
end_holds true true h g = refl
end_holds true false h g = absurd (cc)
end_holds false e h g = absurd (cc)

end_fails : (a e : Bool) → (a && not e) ≡ true → (a ≡ true) × (e ≡ false)
end_fails true true h = absurd (cc)
end_fails true false h = (refl, refl)
end_fails false e h = absurd (cc)

-- at a good end
pub good_end : (bs : List ℕ) (len : ℕ) → 0 < length bs → is_ascii_uppercase (get_or bs 0 0) ≡ true
    → has_bad_end bs len ≡ false → TrimsCurrency bs len → IsLongestFront is_currency_form bs len
good_end bs len some capital good trims =
    trimmed bs len some capital
    (⊎_elim (λ one. one_capital bs len trims (omega arith) capital)
    (λ more. end_holds (nat_lt 1 len) (ends_currency (get_or bs (len - 1) 0))
    (grind (arith, nat_tests)) good) (order len 2)) trims

pub bad_goes_on : (bs : List ℕ) (len : ℕ) → has_bad_end bs len ≡ true → TrimsCurrency bs len
    → TrimsCurrency bs (len - 1)
bad_goes_on bs len bad trims =
    let h = end_fails (nat_lt 1 len) (ends_currency (get_or bs (len - 1) 0)) bad in
    let more : 1 < len = let g = h.0 in grind (arith, nat_tests) in
    trim_goes_on bs len more h.1 trims
