-- Decimals before the zeros at the end.
use Rattle.std.proofs.Common.{◌≡◌, ◌≢◌, ℕ, ℤ, zero, suc, pos, negsuc, ◌+◌, ◌-◌, ◌*◌, ◌/◌, ◌%◌, ◌^◌, ◌≤◌}
use Rattle.std.proofs.Common.{nat_eq, Bool, true, false, cond, List, ◌∷◌, ◌++◌, length}
use Rattle.std.proofs.Common.{refl, ap, ◌∙◌, arith}
use Rattle.std.proofs.lemmas.Bool.Decides.{nat_tests}
use Rattle.std.proofs.Math.Arith.{mod-mul}
use Rattle.std.proofs.Math.Nat.{one-le-pow, pow-suc}
use Rattle.std.specs.Fmt.{decimal}
use Rattle.std.specs.Int.RustNames.{unsigned_abs}
use Rattle.bean_base.specs.Character.{dash}
use Rattle.number_texts.specs.Digits.{behind_point, digits_of, exact_decimals}
use Rattle.number_texts.specs.Digits.{number_text, zeros}
use Rattle.number_texts.proofs.DigitsFacts.{length-digits_of}

-- a power of ten that divides a tenth divides the number
ends_too : (n i : ℕ) → n % 10 ≡ 0 → n / 10 % 10 ^ i ≡ 0 → n % 10 ^ suc i ≡ 0
ends_too n i last rest =
    let unit = 10 ^ i in
    let split : n % (unit * 10) ≡ (n / 10 % unit) * 10 + n % 10 =
    mod-mul n (one-le-pow i 10 (omega arith)) (omega arith) in
    ap (λ u. n % u) (pow-suc 10 i) ∙ split ∙ (let e : (n / 10 % unit) * 10 + n % 10 ≡ 0 = omega (arith, last, rest) in e)

-- where so many digits at the end aren't zeros alone, the others are decimals
pub at_least : (places j n : ℕ) → n % 10 ^ suc j ≢ 0 → places - j ≤ length (exact_decimals places n)
at_least zero j n other = omega arith
at_least (suc p) j n other = by (nat_eq (n % 10) 0) refl (λ i. at_least p i (n / 10))
  where
    fewer : (j : ℕ) → n % 10 ^ suc j ≢ 0 → n % 10 ≡ 0
        → ((i : ℕ) → n / 10 % 10 ^ suc i ≢ 0 → p - i ≤ length (exact_decimals p (n / 10)))
        → suc p - j ≤ length (exact_decimals p (n / 10))
    fewer zero other last rest = absurd (other (let e : n % 10 ^ 1 ≡ 0 = last in e))
    fewer (suc i) other last rest =
        let many = rest i (λ ends. other (ends_too n (suc i) last ends)) in omega (arith, many)

    by : (b : Bool) → nat_eq (n % 10) 0 ≡ b
        → ((i : ℕ) → n / 10 % 10 ^ suc i ≢ 0 → p - i ≤ length (exact_decimals p (n / 10)))
        → suc p - j ≤ length (cond b (exact_decimals p (n / 10)) (digits_of (suc p) n))
    by false is rest =
        let many = length-digits_of (suc p) n in omega (arith, many)
    by true is rest =
        fewer j other (let e : n % 10 ≡ 0 = grind (arith, nat_tests, is) in e) rest

-- zeros that aren't missing
none_missing : (least : ℕ) (exact : List ℕ) (before : List ℕ) → least ≤ length exact
    → before ++ behind_point (exact ++ zeros (least - length exact))
    ≡ before ++ behind_point (exact ++ zeros (0 - length exact))
none_missing least exact before few =
    ap (λ n. before ++ behind_point (exact ++ zeros n))
    (let e : least - length exact ≡ 0 - length exact = omega (arith, few) in e)

-- with no more decimals than it has, a number has the text that it has with as few as are exact
pub same_text : (count : ℤ) (places least : ℕ)
    → least ≤ length (exact_decimals places (unsigned_abs count % 10 ^ places))
    → number_text count places least ≡ number_text count places 0
same_text (pos n) places least few =
    none_missing least (exact_decimals places (n % 10 ^ places)) (decimal (n / 10 ^ places)) few
same_text (negsuc n) places least few =
    ap (λ t. dash ∷ t)
    (none_missing least (exact_decimals places (suc n % 10 ^ places)) (decimal (suc n / 10 ^ places)) few)
