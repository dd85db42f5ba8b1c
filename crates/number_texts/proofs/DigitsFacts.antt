-- How the pieces of decimals come together.
use Rattle.std.proofs.Common.{◌≡◌, ℕ, zero, suc, ◌+◌, ◌-◌, ◌*◌, ◌/◌, ◌%◌, ◌^◌, ◌<◌, ◌≤◌}
use Rattle.std.proofs.Common.{nat_eq, nat_lt, Bool, true, false, cond, List, [], ◌∷◌, ◌++◌, length}
use Rattle.std.proofs.Common.{refl, sym, ap, subst, ◌∙◌, append_assoc, arith, length-append}
use Rattle.std.proofs.Math.Arith.{mod-mul}
use Rattle.std.proofs.Math.Nat.{div-div-eq-div-mul, div-lt_iff_lt-mul, one-le-pow}
use Rattle.std.proofs.Math.Nat.{pow-le-pow_right, pow-suc}
use Rattle.std.proofs.lemmas.Nat.{pow-add}
use Rattle.std.proofs.Math.Nat.{pow-succ'}
use Rattle.std.proofs.lemmas.Fmt.{decimal_digit, decimal_step_wide}
use Rattle.std.specs.Fmt.{decimal}
use Rattle.std.proofs.lemmas.Bool.Decides.{nat_tests}
use Rattle.number_texts.specs.Digits.{digits_of, exact_decimals, behind_point}
use Rattle.number_texts.specs.Digits.{zeros}

pub length-digits_of : (places n : ℕ) → length (digits_of places n) ≡ places
length-digits_of zero n = refl
length-digits_of (suc places) n =
    length-append (digits_of places (n / 10)) ((48 + n % 10) ∷ [])
    ∙ ap (λ l. l + 1) (length-digits_of places (n / 10))
    ∙ (let e : places + 1 ≡ suc places = omega arith in e)

-- the last of the digits
pub last_digit : (before : List ℕ) (places n : ℕ) → 0 < places
    → (before ++ digits_of (places - 1) (n / 10)) ++ (48 + n % 10) ∷ []
    ≡ before ++ digits_of places n
last_digit before zero n some = absurd (omega arith)
last_digit before (suc places) n some =
    let e : suc places - 1 ≡ places = omega arith in
    ap (λ k. (before ++ digits_of k (n / 10)) ++ (48 + n % 10) ∷ []) e
    ∙ append_assoc before (digits_of places (n / 10)) ((48 + n % 10) ∷ [])

-- decimals, and zeros up to the least count
abbrev pub filled : ℕ → List ℕ → List ℕ
filled least ds = ds ++ zeros (least - length ds)

-- a last digit that is no zero: all digits are exact
pub all_exact : (places n least : ℕ) → nat_eq (n % 10) 0 ≡ false
    → digits_of places n ++ zeros (least - places) ≡ filled least (exact_decimals places n)
all_exact zero n least other = refl
all_exact (suc places) n least other =
    let e : exact_decimals (suc places) n ≡ digits_of (suc places) n =
    ap (λ b. cond b (exact_decimals places (n / 10)) (digits_of (suc places) n)) other in
    let many : length (digits_of (suc places) n) ≡ suc places = length-digits_of (suc places) n in
    ap (λ k. digits_of (suc places) n ++ zeros (least - k)) (sym many) ∙ ap (filled least) (sym e)

-- a zero at the end is one of the zeros that fill
zero_fills : (places n least : ℕ) → suc places ≤ least → n % 10 ≡ 0
    → digits_of (suc places) n ++ zeros (least - suc places)
    ≡ digits_of places (n / 10) ++ zeros (least - places)
zero_fills places n least fits ends =
    let e : least - places ≡ suc (least - suc places) = omega arith in
    append_assoc (digits_of places (n / 10)) ((48 + n % 10) ∷ []) (zeros (least - suc places))
    ∙ ap (λ d. digits_of places (n / 10) ++ (48 + d) ∷ zeros (least - suc places)) ends
    ∙ ap (λ k. digits_of places (n / 10) ++ zeros k) (sym e)

-- as many as are shown at least
pub all_shown : (places n least : ℕ) → places ≤ least
    → digits_of places n ++ zeros (least - places) ≡ filled least (exact_decimals places n)
all_shown zero n least fits = refl
all_shown (suc places) n least fits =
    by (nat_eq (n % 10) 0) refl (all_shown places (n / 10) least (omega arith))
  where
    by : (b : Bool) → nat_eq (n % 10) 0 ≡ b
        → digits_of places (n / 10) ++ zeros (least - places)
        ≡ filled least (exact_decimals places (n / 10))
        → digits_of (suc places) n ++ zeros (least - suc places)
        ≡ filled least (exact_decimals (suc places) n)
    by false other before = all_exact (suc places) n least other
    by true ends before =
        let e : exact_decimals (suc places) n ≡ exact_decimals places (n / 10) =
        ap (λ b. cond b (exact_decimals places (n / 10)) (digits_of (suc places) n)) ends in
        zero_fills places n least fits (grind (arith, nat_tests)) ∙ before
        ∙ ap (filled least) (sym e)

pub behind_some : (xs : List ℕ) (n : ℕ) → length xs ≡ n
    → behind_point xs ≡ cond (nat_lt 0 n) (46 ∷ []) [] ++ xs
behind_some [] n same = let no : nat_lt 0 n ≡ false = grind (arith, nat_tests) in
    sym (ap (λ b. cond b (46 ∷ []) [] ++ []) no)
behind_some (x ∷ xs) n same = let yes : nat_lt 0 n ≡ true = grind (arith, nat_tests) in
    sym (ap (λ b. cond b (46 ∷ []) [] ++ x ∷ xs) yes)

-- at most 38 places fit 128 bits, and twice that does too
pub narrow : (places : ℕ) → places ≤ 38 → 10 ^ places ≤ 100000000000000000000000000000000000000
narrow places few = pow-le-pow_right {n = 10} (omega arith) few

-- more places are more than 128 bits count
pub wide : (places : ℕ) → 38 < places → 1000000000000000000000000000000000000000 ≤ 10 ^ places
wide places many = pow-le-pow_right {n = 10} (omega arith) many

shifted : (unit n : ℕ) → (10 * unit + n) / 10 ≡ unit + n / 10
shifted unit n = omega arith

unshifted : (unit n : ℕ) → (10 * unit + n) % 10 ≡ n % 10
unshifted unit n = omega arith

-- a one before the digits, so that none of them is left out
pub leading_one : (places n : ℕ) → places ≤ 32 → n < 10 ^ places
    → decimal (10 ^ places + n) ≡ 49 ∷ digits_of places n
leading_one zero n few small =
    let e : 10 ^ zero + n ≡ 1 = omega arith in
    ap decimal e ∙ decimal_digit 1 (omega arith)
leading_one (suc places) n few small =
    let unit = 10 ^ places in
    let e : 10 ^ suc places ≡ 10 * unit = pow-succ' 10 places in
    let bound = narrow (suc places) (omega arith) in
    let whole = ap (λ u. u + n) e in
    let some : 1 ≤ unit = one-le-pow places 10 (omega arith) in
    ap decimal whole ∙ decimal_step_wide (10 * unit + n) (omega arith) (omega arith)
    ∙ (λ k. decimal (shifted unit n k) ++ (48 + unshifted unit n k) ∷ [])
    ∙ ap (λ ds. ds ++ (48 + n % 10) ∷ []) (leading_one places (n / 10) (omega arith) (omega arith))

-- one zero at the end less
pub fewer : (places n : ℕ) → n % 10 ≡ 0 → exact_decimals (suc places) n ≡ exact_decimals places (n / 10)
fewer places n ends =
    let yes : nat_eq (n % 10) 0 ≡ true = grind (arith, nat_tests) in
    ap (λ b. cond b (exact_decimals places (n / 10)) (digits_of (suc places) n)) yes

-- all zeros behind the least taken off at once
pub stripped : (surplus places n least : ℕ) → n % 10 ^ surplus ≡ 0 → places ≤ least
    → digits_of places (n / 10 ^ surplus) ++ zeros (least - places)
    ≡ filled least (exact_decimals (surplus + places) n)
stripped zero places n least ends fits =
    let e : n / 10 ^ zero ≡ n = omega arith in
    let same : zero + places ≡ places = omega arith in
    ap (λ m. digits_of places m ++ zeros (least - places)) e ∙ all_shown places n least fits
    ∙ ap (λ p. filled least (exact_decimals p n)) (sym same)
stripped (suc surplus) places n least ends fits =
    let unit = 10 ^ surplus in
    let some : 0 < unit = one-le-pow surplus 10 (omega arith) in
    let split : n % (unit * 10) ≡ (n / 10 % unit) * 10 + n % 10 = mod-mul n some (omega arith) in
    let none : (n / 10 % unit) * 10 + n % 10 ≡ 0 =
    sym split ∙ sym (ap (λ u. n % u) (pow-suc 10 surplus)) ∙ ends in
    let last : n % 10 ≡ 0 = omega (arith, none) in
    let rest : n / 10 % unit ≡ 0 = omega (arith, none) in
    let shorter : n / 10 ^ suc surplus ≡ n / 10 / unit =
    ap (λ u. n / u) (pow-succ' 10 surplus) ∙ sym (div-div-eq-div-mul n 10 unit) in
    let next : suc surplus + places ≡ suc (surplus + places) = omega arith in
    ap (λ m. digits_of places m ++ zeros (least - places)) shorter
    ∙ stripped surplus places (n / 10) least rest fits
    ∙ ap (filled least) (sym (ap (λ p. exact_decimals p n) next ∙ fewer (surplus + places) n last))

-- the digits that are kept are few
pub kept_small : (places surplus kept n : ℕ) → surplus + kept ≡ places → n < 10 ^ places
    → n / 10 ^ surplus < 10 ^ kept
kept_small places surplus kept n all small =
    let power : 10 ^ places ≡ 10 ^ kept * 10 ^ surplus =
    ap (λ k. 10 ^ k) (let e : places ≡ kept + surplus = omega (arith, all) in e)
    ∙ pow-add 10 kept surplus in
    let below : n < 10 ^ kept * 10 ^ surplus = subst (λ u. n < u) power small in
    (div-lt_iff_lt-mul (one-le-pow surplus 10 (omega arith))).1 below
