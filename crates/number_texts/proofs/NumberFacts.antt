-- The parts of a number's text: how long they are, and how they come together.
use Rattle.std.proofs.Common.{◌≡◌, ℕ, ℤ, zero, suc, pos, negsuc, ◌+◌, ◌-◌, ◌*◌, ◌/◌, ◌%◌, ◌^◌, ◌<◌}
use Rattle.std.proofs.Common.{◌≤◌, max, nat_lt, int_lt, Bool, true, false, cond, List, [], ◌∷◌, ◌++◌}
use Rattle.std.proofs.Common.{length, drop, get_or, set, refl, sym, ap, ◌∙◌, append_assoc, arith}
use Rattle.std.proofs.Common.{length-append}
use Rattle.std.proofs.Math.Nat.{pow-succ'}
use Rattle.std.proofs.Common.{take, take-take}
use Rattle.std.proofs.Math.Seq.{take-append-add, take-append_seam}
use Rattle.std.proofs.lemmas.Bool.Decides.{nat_tests}
use Rattle.std.proofs.lemmas.Fmt.{decimal_digit, decimal_step_wide}
use Rattle.std.proofs.lemmas.List.{append-nil, drop-set, length-replicate}
use Rattle.std.specs.Fmt.{decimal}
use Rattle.std.specs.Int.RustNames.{unsigned_abs}
use Rattle.number_texts.specs.Digits.{behind_point, decimals_text, digits_of, exact_decimals}
use Rattle.number_texts.specs.Digits.{number_text, parts_text, zeros}
use Rattle.number_texts.proofs.DigitsFacts.{behind_some, filled, length-digits_of, leading_one}

-- between two powers of ten the count of digits is the same
pub count_digits : (k n : ℕ) → 10 ^ k ≤ n → n < 10 * 10 ^ k → n < 10 ^ 64
    → length (decimal n) ≡ k + 1
count_digits zero n low high small =
    let e : 10 ^ zero ≡ 1 = refl in
    ap length (decimal_digit n (omega arith))
count_digits (suc k) n low high small =
    let e : 10 ^ suc k ≡ 10 * 10 ^ k = pow-succ' 10 k in
    let unit = 10 ^ k in
    ap length (decimal_step_wide n (omega arith) small)
    ∙ length-append (decimal (n / 10)) ((48 + n % 10) ∷ [])
    ∙ (let rest = count_digits k (n / 10) (omega arith) (omega arith) (omega arith) in
    let all : length (decimal (n / 10)) + 1 ≡ suc k + 1 = omega arith in
    all)

length-point : (b : Bool) (xs : List ℕ)
    → length (cond b (46 ∷ []) [] ++ xs) ≡ cond b 1 0 + length xs
length-point true xs = omega arith
length-point false xs = omega arith

not_below : (n : ℕ) → int_lt (pos n) (pos 0) ≡ false
not_below n = let e : nat_lt n 0 ≡ false = grind (arith, nat_tests) in e

-- what stands behind the whole part
length-decimals : (places n least shown digits : ℕ)
    → digits_of shown digits ++ zeros (least - shown) ≡ filled least (exact_decimals places n)
    → length (decimals_text places n least)
    ≡ cond (nat_lt 0 (max shown least)) 1 0 + max shown least
length-decimals places n least shown digits same =
    let ds : List ℕ = digits_of shown digits ++ zeros (least - shown) in
    let all : length ds ≡ max shown least =
    omega (
      arith,
      length-digits_of shown digits,
      length-append (digits_of shown digits) (zeros (least - shown)),
      length-replicate {A = ℕ} (least - shown) 48,
    ) in
    ap (λ l. length (behind_point l)) (sym same) ∙ ap length (behind_some ds (max shown least) all)
    ∙ length-point (nat_lt 0 (max shown least)) ds
    ∙ ap (λ k. cond (nat_lt 0 (max shown least)) 1 0 + k) all

length-magnitude : (n places least shown digits : ℕ)
    → digits_of shown digits ++ zeros (least - shown)
    ≡ filled least (exact_decimals places (n % 10 ^ places))
    → length (decimal (n / 10 ^ places) ++ decimals_text places (n % 10 ^ places) least)
    ≡ length (decimal (n / 10 ^ places))
    + (cond (nat_lt 0 (max shown least)) 1 0 + max shown least)
length-magnitude n places least shown digits same =
    length-append (decimal (n / 10 ^ places)) (decimals_text places (n % 10 ^ places) least)
    ∙ ap (λ k. length (decimal (n / 10 ^ places)) + k)
    (length-decimals places (n % 10 ^ places) least shown digits same)

-- the length of a number's text
pub length-number : (count : ℤ) (places least shown digits : ℕ)
    → digits_of shown digits ++ zeros (least - shown)
    ≡ filled least (exact_decimals places (unsigned_abs count % 10 ^ places))
    → length (number_text count places least)
    ≡ cond (int_lt count (pos 0)) 1 0 + (length (decimal (unsigned_abs count / 10 ^ places))
    + (cond (nat_lt 0 (max shown least)) 1 0 + max shown least))
length-number (pos n) places least shown digits same =
    let all = length-magnitude n places least shown digits same in
    let none = ap {B = ℕ} (λ b. cond b 1 0) (not_below n) in
    omega (arith, all, none)
length-number (negsuc n) places least shown digits same =
    let all = length-magnitude (suc n) places least shown digits same in
    omega (arith, all)

-- a whole part, a point, digits and zeros, put one behind the other
pub pushed_parts : (before : List ℕ) (whole shown digits least : ℕ) →
    (((before ++ decimal whole) ++ cond (nat_lt 0 (max shown least)) (46 ∷ []) [])
    ++ digits_of shown digits) ++ zeros (least - shown)
    ≡ before ++ parts_text whole shown digits least
pushed_parts before whole shown digits least =
    let ds : List ℕ = digits_of shown digits in
    let point : List ℕ = cond (nat_lt 0 (max shown least)) (46 ∷ []) [] in
    let rest : List ℕ = zeros (least - shown) in
    let all : length (ds ++ rest) ≡ max shown least =
    omega (
      arith,
      length-digits_of shown digits,
      length-append ds rest,
      length-replicate {A = ℕ} (least - shown) 48,
    ) in
    ap (λ l. l ++ rest) (append_assoc (before ++ decimal whole) point ds)
    ∙ append_assoc (before ++ decimal whole) (point ++ ds) rest
    ∙ ap (λ l. (before ++ decimal whole) ++ l) (append_assoc point ds rest
    ∙ sym (behind_some (ds ++ rest) (max shown least) all))
    ∙ append_assoc before (decimal whole) (behind_point (ds ++ rest))

-- decimals without zeros behind them
pub few_parts : (whole shown digits least : ℕ) → least ≤ shown
    → decimal whole ++ behind_point (digits_of shown digits) ≡ parts_text whole shown digits least
few_parts whole shown digits least fits =
    let none : least - shown ≡ 0 = omega arith in
    ap (λ l. decimal whole ++ behind_point l)
    (sym (append-nil (digits_of shown digits))
    ∙ ap (λ k. digits_of shown digits ++ zeros k) (sym none))

-- a number's text is its sign and its parts
pub number_parts : (before : List ℕ) (count : ℤ) (whole places shown digits least : ℕ)
    → whole ≡ unsigned_abs count / 10 ^ places
    → digits_of shown digits ++ zeros (least - shown)
    ≡ filled least (exact_decimals places (unsigned_abs count % 10 ^ places))
    → (before ++ cond (int_lt count (pos 0)) (45 ∷ []) []) ++ parts_text whole shown digits least
    ≡ before ++ number_text count places least
number_parts before (pos n) whole places shown digits least is same =
    ap (λ b. (before ++ cond b (45 ∷ []) []) ++ parts_text whole shown digits least) (not_below n)
    ∙ ap (λ l. l ++ parts_text whole shown digits least) (append-nil before)
    ∙ (λ i. before ++ (decimal (is i) ++ behind_point (same i)))
number_parts before (negsuc n) whole places shown digits least is same =
    append_assoc before (45 ∷ []) (parts_text whole shown digits least)
    ∙ (λ i. before ++ 45 ∷ (decimal (is i) ++ behind_point (same i)))

-- the point takes the place of the one before the digits
pub point_put : (text behind : List ℕ) (at shown digits : ℕ) → shown ≤ 32 → digits < 10 ^ shown
    → at < length text → drop at text ≡ decimal (10 ^ shown + digits) ++ behind
    → drop at (set text at 46) ≡ 46 ∷ (digits_of shown digits ++ behind)
point_put text behind at shown digits few small inside written =
    let e : at + 1 ≡ suc at = omega arith in
    let rest : drop (at + 1) text ≡ digits_of shown digits ++ behind =
    ap (λ k. drop k text) e ∙ past text at inside
    ∙ ap (drop 1) (written ∙ ap (λ l. l ++ behind) (leading_one shown digits few small)) in
    drop-set text at 46 inside ∙ ap (λ l. 46 ∷ l) rest
  where
    past : (xs : List ℕ) (k : ℕ) → k < length xs → drop (suc k) xs ≡ drop 1 (drop k xs)
    past [] k low = absurd (omega arith)
    past (x ∷ xs) zero low = refl
    past (x ∷ xs) (suc k) low = past xs k (omega arith)

-- some decimals stand behind a point
pub pointed : (shown digits : ℕ) → 0 < shown
    → behind_point (digits_of shown digits) ≡ 46 ∷ digits_of shown digits
pointed zero digits low = absurd (omega arith)
pointed (suc shown) digits low =
    let ds = digits_of (suc shown) digits in
    let some : nat_lt 0 (suc shown) ≡ true = grind (arith, nat_tests) in
    behind_some ds (suc shown) (length-digits_of (suc shown) digits)
    ∙ ap (λ b. cond b (46 ∷ []) [] ++ ds) some

pub length-pointed : (shown digits : ℕ) → 0 < shown
    → length (behind_point (digits_of shown digits)) ≡ 1 + shown
length-pointed shown digits low =
    let long = ap length (pointed shown digits low) in
    omega (arith, long, length-digits_of shown digits)

pub pointed-le : (shown digits : ℕ) → length (behind_point (digits_of shown digits)) ≤ 1 + shown
pointed-le zero digits = omega arith
pointed-le (suc shown) digits =
    let long = length-pointed (suc shown) digits (omega arith) in omega (arith, long)

-- three bytes that are put one behind the other
pub three_put : (xs : List ℕ) (n a b c : ℕ) → n + 3 ≤ length xs
    → drop n (set (set (set xs n a) (suc n) b) (suc (suc n)) c)
    ≡ a ∷ b ∷ c ∷ drop (suc (suc (suc n))) xs
three_put [] n a b c many = absurd (omega (arith, many))
three_put (x ∷ []) zero a b c many = absurd (omega (arith, many))
three_put (x ∷ y ∷ []) zero a b c many = absurd (omega (arith, many))
three_put (x ∷ y ∷ z ∷ xs) zero a b c many = refl
three_put (x ∷ xs) (suc n) a b c many = three_put xs n a b c (omega (arith, many))

-- the three bytes of a name
pub three_of : (xs : List ℕ) → length xs ≡ 3
    → get_or xs 0 0 ∷ get_or xs 1 0 ∷ get_or xs 2 0 ∷ [] ≡ xs
three_of [] many = absurd (omega (arith, many))
three_of (x ∷ []) many = absurd (omega (arith, many))
three_of (x ∷ y ∷ []) many = absurd (omega (arith, many))
three_of (x ∷ y ∷ z ∷ []) many = refl
three_of (x ∷ y ∷ z ∷ w ∷ xs) many = absurd (omega (arith, many))

pub length-leading_one : (unit shown digits : ℕ) → unit ≡ 10 ^ shown → shown ≤ 32
    → digits < 10 ^ shown → length (decimal (unit + digits)) ≡ 1 + shown
length-leading_one unit shown digits is few small =
    let long =
    ap (λ u. length (decimal (u + digits))) is ∙ ap length (leading_one shown digits few small) in
    omega (arith, long, length-digits_of shown digits)

-- so many are added, and those that are too many taken off
pub window : (old new rest front behind : List ℕ) (many n : ℕ) → length front ≤ many
    → n ≡ length old + length front → new ≡ old ++ take many rest → rest ≡ front ++ behind
    → take n new ≡ old ++ front
window old new rest front behind many n fits at added is =
    (λ i. take (at i) (added i)) ∙ take-append-add old (take many rest) (length front)
    ∙ ap (λ l. old ++ l)
    (take-take (length front) many rest fits ∙ ap (take (length front)) is
    ∙ take-append_seam front behind)
