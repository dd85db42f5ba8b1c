-- The texts of numbers and days are short.
use Rattle.std.proofs.Common.{◌≡◌, ℕ, ℤ, zero, suc, pos, negsuc, ◌+◌, ◌-◌, ◌/◌, ◌%◌, ◌^◌, ◌<◌, ◌≤◌}
use Rattle.std.proofs.Common.{nat_eq, Bool, true, false, cond, List, [], ◌∷◌, ◌++◌, length, arith}
use Rattle.std.proofs.Common.{length-append, sym, ap, ◌∙◌, ◌*◌}
use Rattle.std.proofs.Math.Arith.{mod-mul}
use Rattle.std.specs.Fmt.{decimal}
use Rattle.std.specs.Int.RustNames.{unsigned_abs}
use Rattle.std.proofs.Math.Nat.{div-le_self, one-le-pow, pow-le-pow_right, pow-suc}
use Rattle.std.proofs.lemmas.Fmt.{length-decimal-le_wide}
use Rattle.std.proofs.lemmas.List.{length-replicate}
use Rattle.bean_base.specs.declared.days.Day.{Day}
use Rattle.number_texts.specs.Digits.{behind_point, day_text, decimals_text, digits_of}
use Rattle.number_texts.specs.Digits.{exact_decimals, magnitude_text, number_text, zeros}
use Rattle.number_texts.proofs.DigitsFacts.{fewer, kept_small, length-digits_of}

exact : (places n : ℕ) → length (exact_decimals places n) ≤ places
exact zero n = omega arith
exact (suc places) n = by (nat_eq (n % 10) 0) (exact places (n / 10))
  where
    by : (b : Bool) → length (exact_decimals places (n / 10)) ≤ places
        → length (cond b (exact_decimals places (n / 10)) (digits_of (suc places) n)) ≤ suc places
    by true fewer = omega (arith, fewer)
    by false fewer = let all = length-digits_of (suc places) n in omega (arith, all)

point : (ds : List ℕ) → length (behind_point ds) ≤ suc (length ds)
point [] = omega arith
point (d ∷ ds) = omega arith

decimals : (places n least : ℕ) → length (decimals_text places n least) ≤ 1 + places + least
decimals places n least =
    let few = exact places n in
    let filled =
    length-append (exact_decimals places n) (zeros (least - length (exact_decimals places n))) in
    let zeros_are = length-replicate {A = ℕ} (least - length (exact_decimals places n)) 48 in
    let shown =
    point (exact_decimals places n ++ zeros (least - length (exact_decimals places n))) in
    omega (arith, few, filled, zeros_are, shown)

magnitude : (n places least : ℕ) → n < 10 ^ 20
    → length (magnitude_text n places least) ≤ 21 + places + least
magnitude n places least small =
    let le = div-le_self n (10 ^ places) in
    let whole = length-decimal-le_wide 20 (n / 10 ^ places) (omega arith) (omega (arith, le, small))
    (omega (arith, le, small)) in
    let rest = decimals places (n % 10 ^ places) least in
    let both =
    length-append (decimal (n / 10 ^ places)) (decimals_text places (n % 10 ^ places) least) in
    omega (arith, whole, rest, both)

-- of a number of a ledger
pub short_number : (count : ℤ) (places least : ℕ) → unsigned_abs count < 10 ^ 20
    → length (number_text count places least) ≤ 22 + places + least
short_number (pos n) places least small =
    let h = magnitude n places least small in omega (arith, h)
short_number (negsuc n) places least small =
    let h = magnitude (suc n) places least small in omega (arith, h)

-- zeros at the end are no decimals
without_zeros : (many places n : ℕ) → n % 10 ^ many ≡ 0
    → length (exact_decimals (many + places) n) ≤ places
without_zeros zero places n ends =
    let few = exact places n in
    let same : zero + places ≡ places = omega arith in
    omega (arith, few, ap (λ p. length (exact_decimals p n)) same)
without_zeros (suc many) places n ends =
    let unit = 10 ^ many in
    let some : 0 < unit = one-le-pow many 10 (omega arith) in
    let split : n % (unit * 10) ≡ (n / 10 % unit) * 10 + n % 10 = mod-mul n some (omega arith) in
    let none : (n / 10 % unit) * 10 + n % 10 ≡ 0 =
    sym split ∙ sym (ap (λ u. n % u) (pow-suc 10 many)) ∙ ends in
    let last : n % 10 ≡ 0 = omega (arith, none) in
    let rest : n / 10 % unit ≡ 0 = omega (arith, none) in
    let next : suc many + places ≡ suc (many + places) = omega arith in
    let shorter = ap (λ p. exact_decimals p n) next ∙ fewer (many + places) n last in
    let few = without_zeros many places (n / 10) rest in omega (arith, few, ap length shorter)

few_digits : (n width digits : ℕ) → 5 ≤ width → digits ≤ width + 4 → n < 10 ^ digits → n < 10 ^ 20
    → n % 1000000 ≡ 0 → length (magnitude_text n 8 0) + 1 ≤ width
few_digits n width digits wide fits small in_word ends =
    let below : 10 ^ digits ≤ 10 ^ (width + 4) = pow-le-pow_right {n = 10} (omega arith) fits in
    let le = div-le_self n (10 ^ 8) in
    let whole =
    length-decimal-le_wide (width - 4) (n / 10 ^ 8) (omega (arith, wide))
    (kept_small (width + 4) 8 (width - 4) n (omega (arith, wide)) (omega (arith, small, below)))
    (omega (arith, le, in_word)) in
    let exact : List ℕ = exact_decimals 8 (n % 10 ^ 8) in
    let few = without_zeros 6 2 (n % 10 ^ 8) (omega (arith, ends)) in
    let none : 0 - length exact ≡ 0 = omega arith in
    let filled = length-append exact (zeros (0 - length exact)) in
    let zeros_are = length-replicate {A = ℕ} (0 - length exact) 48 in
    let shown = point (exact ++ zeros (0 - length exact)) in
    let both = length-append (decimal (n / 10 ^ 8)) (decimals_text 8 (n % 10 ^ 8) 0) in
    omega (arith, wide, whole, few, none, filled, zeros_are, shown, both)

-- a number of eight decimals, of which two at most are no zeros, and of so few digits, is no longer
pub short_of_eight : (count : ℤ) (width digits : ℕ) → 5 ≤ width → digits ≤ width + 4
    → unsigned_abs count < 10 ^ digits → unsigned_abs count < 10 ^ 20
    → unsigned_abs count % 1000000 ≡ 0 → length (number_text count 8 0) ≤ width
short_of_eight (pos n) width digits wide fits small in_word ends =
    let h = few_digits n width digits wide fits small in_word ends in omega (arith, h)
short_of_eight (negsuc n) width digits wide fits small in_word ends =
    let h = few_digits (suc n) width digits wide fits small in_word ends in omega (arith, h)

pub length-day : (d : Day) → length (day_text d) ≡ 10
length-day d =
    let day : List ℕ = digits_of 2 d.date.day in
    let month : List ℕ = digits_of 2 d.date.month in
    let year : List ℕ = digits_of 4 (unsigned_abs d.date.year) in
    omega (
      arith,
      length-append year (45 ∷ (month ++ 45 ∷ day)),
      length-append month (45 ∷ day),
      length-digits_of 4 (unsigned_abs d.date.year),
      length-digits_of 2 d.date.month,
      length-digits_of 2 d.date.day,
    )
