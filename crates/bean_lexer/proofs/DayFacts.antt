-- A day or a number at the front.
use Rattle.std.proofs.Common.{◌≡◌, ◌≢◌, ℕ, ◌+◌, ◌<◌, ◌≤◌, ◌||◌, ◌&&◌, Bool, true, false, nat_eq}
use Rattle.std.proofs.Common.{nat_le, List, length, get_or, take, drop, arith, sym, ap, ◌∙◌, refl}
use Rattle.std.proofs.Common.{length-take-le, length-drop, IsUtf8, lit<}
use Rattle.std.proofs.lemmas.Bool.Decides.{nat_tests}
use Rattle.std.proofs.lemmas.List.{get_or-take, get_or-drop}
use Rattle.std.proofs.lemmas.List.Sums.{prefix_len_is}
use Rattle.std.proofs.lemmas.List.Folds.{list_all_at}
use Rattle.std.proofs.lemmas.Str.{IsCharBoundary-after_ascii}
use Rattle.std.specs.List.{list_all, prefix_len}
use Rattle.std.specs.Char.{is_ascii_digit}
use Rattle.std.specs.Str.{IsCharBoundary}
use Rattle.bean_base.specs.Numeral.{is_number}
use Rattle.bean_base.specs.Day.{is_day_form}
use Rattle.theory.specs.LongestFront.{IsLongestFront}
use Rattle.bean_lexer.specs.Lookahead.{has_more_digits}
use Rattle.bean_lexer.specs.Tokens.{NoneOf, IsLongestToken}
use Rattle.bean_lexer.specs.declared.kind.Kind.TheVariants as kinds
use Rattle.bean_lexer.proofs.FirstByteFacts.{at_digit, second_true}
use Rattle.bean_lexer.proofs.NumberFacts.{digits_front, no_more}

day_is_ten : (xs : List ℕ) → nat_eq (length xs) 10 ≡ false → is_day_form xs ≡ false
day_is_ten xs h = grind (arith, nat_tests)

longer_is_no_day : (bs : List ℕ) (m : ℕ) → m ≤ length bs → m ≢ 10 → is_day_form (take m bs) ≡ false
longer_is_no_day bs m high h = let l = length-take-le m bs high in
    day_is_ten (take m bs) (grind (arith, nat_tests))

no_day_by : (bs : List ℕ) (m : ℕ) (t : Bool) → nat_eq m 10 ≡ t → m ≤ length bs
    → (nat_le 10 (length bs) && is_day_form (take 10 bs)) ≡ false → is_day_form (take m bs) ≡ false
no_day_by bs m true e high h =
    let s : m ≡ 10 = grind (arith, nat_tests) in
    let w : nat_le 10 (length bs) ≡ true = grind (arith, nat_tests) in
    ap (λ k. is_day_form (take k bs)) s ∙ ap (λ u. u && is_day_form (take 10 bs)) (sym w) ∙ h
no_day_by bs m false e high h = longer_is_no_day bs m high (grind (arith, nat_tests))

pub no_day : (bs : List ℕ) (n : ℕ) → (nat_le 10 (length bs) && is_day_form (take 10 bs)) ≡ false
    → NoneOf kinds.Day bs n
no_day bs n h m low high = no_day_by bs m (nat_eq m 10) refl high h

pub year_digits : (xs : List ℕ) → is_day_form xs ≡ true → list_all is_ascii_digit (take 4 xs) ≡ true
year_digits xs h = grind (arith, nat_tests)

pub month_digits : (xs : List ℕ) → is_day_form xs ≡ true
    → list_all is_ascii_digit (take 2 (drop 5 xs)) ≡ true
month_digits xs h = grind (arith, nat_tests)

pub second_mark : (xs : List ℕ) → is_day_form xs ≡ true
    → nat_eq (get_or xs 7 0) (get_or xs 4 0) ≡ true
second_mark xs h = grind (arith, nat_tests)

pub mark_of : (xs : List ℕ) → is_day_form xs ≡ true
    → (nat_eq (get_or xs 4 0) 45 || nat_eq (get_or xs 4 0) 47) ≡ true
mark_of xs h = grind (arith, nat_tests)

digit_by : (xs : List ℕ) (k : ℕ) (t : Bool) → is_ascii_digit (get_or xs k 0) ≡ t → k < length xs
    → list_all is_ascii_digit xs ≡ true → is_ascii_digit (get_or xs k 0) ≡ true
digit_by xs k true e h all = e
digit_by xs k false e h all = let n = list_all_at is_ascii_digit xs k 0 h e in absurd (cc)

pub day_digits : (xs : List ℕ) → is_day_form xs ≡ true
    → list_all is_ascii_digit (take 2 (drop 8 xs)) ≡ true
day_digits xs h = grind (arith, nat_tests)

last_digit : (bs : List ℕ) → 10 ≤ length bs → is_day_form (take 10 bs) ≡ true
    → is_ascii_digit (get_or bs 9 0) ≡ true
last_digit bs long day =
    let l = length-take-le 10 bs long in
    let d = length-drop 8 (take 10 bs) in
    let l2 = length-take-le 2 (drop 8 (take 10 bs)) (omega arith) in
    ap is_ascii_digit
    (sym (get_or-take 2 (drop 8 (take 10 bs)) 1 0 (lit< tt) ∙ get_or-drop 8 (take 10 bs) 1 0
    ∙ get_or-take 10 bs 9 0 (lit< tt)))
    ∙ digit_by (take 2 (drop 8 (take 10 bs))) 1
    (is_ascii_digit (get_or (take 2 (drop 8 (take 10 bs))) 1 0)) refl (omega arith)
    (day_digits (take 10 bs) day)

digit_is_ascii : (b : ℕ) → is_ascii_digit b ≡ true → b < 128
digit_is_ascii b h = grind (arith, nat_tests)

pub day_boundary : (bs : List ℕ) → (nat_le 10 (length bs) && is_day_form (take 10 bs)) ≡ true
    → IsUtf8 bs → IsCharBoundary bs 10
day_boundary bs h utf8 =
    let long : 10 ≤ length bs = grind (arith, nat_tests) in
    let day : is_day_form (take 10 bs) ≡ true =
    second_true (nat_le 10 (length bs)) (is_day_form (take 10 bs)) h in
    IsCharBoundary-after_ascii bs 9 utf8 (omega arith)
    (digit_is_ascii (get_or bs 9 0) (last_digit bs long day))

year_at : (bs : List ℕ) (k : ℕ) → 10 ≤ length bs → is_day_form (take 10 bs) ≡ true → k < 4
    → is_ascii_digit (get_or bs k 0) ≡ true
year_at bs k long day h =
    let l = length-take-le 10 bs long in
    let l4 = length-take-le 4 (take 10 bs) (omega arith) in
    ap is_ascii_digit (sym (get_or-take 4 (take 10 bs) k 0 h ∙ get_or-take 10 bs k 0 (omega arith)))
    ∙ digit_by (take 4 (take 10 bs)) k (is_ascii_digit (get_or (take 4 (take 10 bs)) k 0)) refl
    (omega arith) (year_digits (take 10 bs) day)

mark_at : (bs : List ℕ) → is_day_form (take 10 bs) ≡ true
    → (nat_eq (get_or bs 4 0) 45 || nat_eq (get_or bs 4 0) 47) ≡ true
mark_at bs day = let e = get_or-take 10 bs 4 0 (lit< tt) in
    ap (λ b. nat_eq b 45 || nat_eq b 47) (sym e) ∙ mark_of (take 10 bs) day

-- the longest number at the front of a day is its year
year_is_longest : (bs : List ℕ) → 10 ≤ length bs → is_day_form (take 10 bs) ≡ true
    → IsLongestFront is_number bs 4
year_is_longest bs long day =
    let mark = mark_at bs day in
    let stop : is_ascii_digit (get_or bs 4 0) ≡ false = grind (arith, nat_tests) in
    let run : prefix_len is_ascii_digit bs ≡ 4 =
    prefix_len_is is_ascii_digit bs 4 0 (omega arith) (λ k h. year_at bs k long day h)
    (λ h. stop) in
    let comma : nat_eq (get_or bs 4 0) 44 ≡ false = grind (arith, nat_tests) in
    let point : nat_eq (get_or bs 4 0) 46 ≡ false = grind (arith, nat_tests) in
    let more : has_more_digits bs 4 ≡ false = grind (arith, nat_tests) in
    digits_front false bs 0 4 0 (let e : 4 ≡ 0 + prefix_len is_ascii_digit bs = omega arith in
    e) (omega arith) (year_at bs 0 long day (lit< tt))
    (no_more bs 4 (λ h. stop) more (λ h. point))

pub day_token : (bs : List ℕ) → is_ascii_digit (get_or bs 0 0) ≡ true
    → (nat_le 10 (length bs) && is_day_form (take 10 bs)) ≡ true → IsLongestToken bs kinds.Day 10
day_token bs digit h =
    let long : 10 ≤ length bs = grind (arith, nat_tests) in
    let day : is_day_form (take 10 bs) ≡ true =
    second_true (nat_le 10 (length bs)) (is_day_form (take 10 bs)) h in
    record {
      inside = long;
      of_kind = day;
      longest =
          at_digit bs 10 digit (λ m low high. longer_is_no_day bs m high (omega arith))
          (λ m low high. (year_is_longest bs long day).longest m (omega arith) high);
    }

pub number_token : (bs : List ℕ) (n : ℕ) → is_ascii_digit (get_or bs 0 0) ≡ true
    → (nat_le 10 (length bs) && is_day_form (take 10 bs)) ≡ false → IsLongestFront is_number bs n
    → IsLongestToken bs kinds.Number n
number_token bs n digit h front =
    record {
      inside = front.inside;
      of_kind = front.of_form;
      longest =
          at_digit bs n digit (no_day bs n h) front.longest;
    }
