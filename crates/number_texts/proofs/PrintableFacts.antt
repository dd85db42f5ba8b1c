-- The texts of numbers and days have printable ASCII characters alone.
use Rattle.std.proofs.Common.{◌≡◌, ℕ, ℤ, zero, suc, pos, negsuc, ◌+◌, ◌-◌, ◌/◌, ◌%◌, ◌^◌, ◌<◌, ◌≤◌}
use Rattle.std.proofs.Common.{nat_eq, Bool, true, false, cond, ◌&&◌, List, [], ◌∷◌, ◌++◌, length}
use Rattle.std.proofs.Common.{refl, ◌∙◌, arith, IsTrue}
use Rattle.std.specs.Int.{is_in_range, w128}
use Rattle.std.specs.Int.RustNames.{unsigned_abs, FitsSigned}
use Rattle.std.proofs.Math.Nat.{div-le_self}
use Rattle.std.specs.List.{list_all}
use Rattle.std.specs.Fmt.{decimal}
use Rattle.std.specs.Str.{IsAscii}
use Rattle.std.proofs.lemmas.Bool.{and_parts}
use Rattle.std.proofs.lemmas.Bool.Decides.{nat_tests}
use Rattle.std.proofs.lemmas.Fmt.{decimal_by_steps_wide}
use Rattle.std.proofs.lemmas.List.Folds.{list_all-append}
use Rattle.bean_base.specs.Name.{is_currency, is_in_currency}
use Rattle.bean_base.specs.declared.days.Day.{Day}
use Rattle.number_texts.specs.Digits.{digits_of, exact_decimals, decimals_text, behind_point}
use Rattle.number_texts.specs.Digits.{zeros, magnitude_text, number_text, day_text}

abbrev pub is_printable : ℕ → Bool
is_printable b = is_in_range 0x20 0x7E b

pub bounds : (b : ℕ) → is_printable b ≡ true → (32 ≤ b) × (b ≤ 126)
bounds b h = (grind (arith, nat_tests), grind (arith, nat_tests))

pub is_ascii : (bs : List ℕ) → list_all is_printable bs ≡ true → IsAscii bs
is_ascii [] h = λ i. omega arith
is_ascii (b ∷ bs) h = at (bounds b (and_parts _ _ h).0) (is_ascii bs (and_parts _ _ h).1)
  where
    at : (32 ≤ b) × (b ≤ 126) → IsAscii bs → IsAscii (b ∷ bs)
    at low rest zero = omega (arith, low.1)
    at low rest (suc i) = rest i

abbrev pub Printable : List ℕ → Type 0
Printable bs = list_all is_printable bs ≡ true

pub both : (xs ys : List ℕ) → Printable xs → Printable ys → Printable (xs ++ ys)
both xs ys first second = list_all-append is_printable xs ys ∙ (λ k. first k && second k)

pub before : (b : ℕ) (bs : List ℕ) → is_printable b ≡ true → Printable bs → Printable (b ∷ bs)
before b bs first rest = λ k. first k && rest k

one_digit : (d : ℕ) → d < 10 → Printable ((48 + d) ∷ [])
one_digit d small =
    before (48 + d) [] (let e : is_printable (48 + d) ≡ true = grind (arith, nat_tests) in e) refl

digits : (places n : ℕ) → Printable (digits_of places n)
digits zero n = refl
digits (suc places) n =
    both (digits_of places (n / 10)) ((48 + n % 10) ∷ []) (digits places (n / 10))
    (one_digit (n % 10) (omega arith))

exact : (places n : ℕ) → Printable (exact_decimals places n)
exact zero n = refl
exact (suc places) n = by (nat_eq (n % 10) 0) (exact places (n / 10)) (digits (suc places) n)
  where
    by : (b : Bool) → Printable (exact_decimals places (n / 10))
        → Printable (digits_of (suc places) n)
        → Printable (cond b (exact_decimals places (n / 10)) (digits_of (suc places) n))
    by true shorter all = shorter
    by false shorter all = all

all_zeros : (n : ℕ) → Printable (zeros n)
all_zeros zero = refl
all_zeros (suc n) = before 48 (zeros n) refl (all_zeros n)

point : (ds : List ℕ) → Printable ds → Printable (behind_point ds)
point [] h = refl
point (d ∷ ds) h = before 46 (d ∷ ds) refl h

decimals : (places n least : ℕ) → Printable (decimals_text places n least)
decimals places n least =
    let fill : ℕ = least - length (exact_decimals places n) in
    point (exact_decimals places n ++ zeros fill)
    (both (exact_decimals places n) (zeros fill) (exact places n) (all_zeros fill))

whole : (n : ℕ) → n < 10 ^ 64 → Printable (decimal n)
whole = decimal_by_steps_wide (λ m ds. Printable ds) (λ m small. one_digit m small)
    (λ m ds large h. both ds ((48 + m % 10) ∷ []) h (one_digit (m % 10) (omega arith)))

magnitude : (n places least : ℕ) → n < 10 ^ 64 → Printable (magnitude_text n places least)
magnitude n places least small =
    both (decimal (n / 10 ^ places)) (decimals_text places (n % 10 ^ places) least)
    (whole (n / 10 ^ places) (let le = div-le_self n (10 ^ places) in omega arith))
    (decimals places (n % 10 ^ places) least)

pub printable_number : (count : ℤ) (places least : ℕ) → unsigned_abs count < 10 ^ 64
    → Printable (number_text count places least)
printable_number (pos n) places least small = magnitude n places least small
printable_number (negsuc n) places least small =
    before 45 (magnitude_text (suc n) places least) refl (magnitude (suc n) places least small)

-- each count of 128 bits has few digits
pub bounded : (count : ℤ) → FitsSigned w128 count → unsigned_abs count < 10 ^ 64
bounded (pos n) h = omega (arith, h.sfits)
bounded (negsuc n) h = omega (arith, h.sfits)

in_currency : (b : ℕ) → is_in_currency b ≡ true → is_printable b ≡ true
in_currency b h = grind (arith, nat_tests)

currency : (bs : List ℕ) → list_all is_in_currency bs ≡ true → Printable bs
currency [] h = refl
currency (b ∷ bs) h = let parts = and_parts _ _ h in
    before b bs (in_currency b parts.0) (currency bs parts.1)

characters : (name : List ℕ) → IsTrue (is_currency name) → list_all is_in_currency name ≡ true
characters name h = (and_parts _ _ (and_parts _ _ (and_parts _ _ (and_parts _ _ h).0).0).0).1

-- a number and its currency
pub printable_units : (number name : List ℕ) → Printable number → IsTrue (is_currency name)
    → Printable (number ++ 32 ∷ name)
printable_units number name first h =
    both number (32 ∷ name) first (before 32 name refl (currency name (characters name h)))

pub printable_day : (d : Day) → Printable (day_text d)
printable_day d =
    let day : List ℕ = 45 ∷ digits_of 2 d.date.day in
    let month : List ℕ = 45 ∷ (digits_of 2 d.date.month ++ day) in
    both (digits_of 4 (unsigned_abs d.date.year)) month (digits 4 (unsigned_abs d.date.year))
    (before 45 (digits_of 2 d.date.month ++ day) refl
    (both (digits_of 2 d.date.month) day (digits 2 d.date.month)
    (before 45 (digits_of 2 d.date.day) refl (digits 2 d.date.day))))
