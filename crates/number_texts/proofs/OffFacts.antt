-- Decimals that end in several zeros.
use Rattle.std.proofs.Common.{◌≡◌, ◌<◌, ◌*◌, ◌/◌, ◌%◌, ◌^◌, ℕ, suc, cond, ap, arith, subst, sym, ◌∙◌}
use Rattle.std.proofs.Math.Nat.{pow-suc}
use Rattle.std.proofs.lemmas.Bool.{eq-eqb}
use Rattle.number_texts.specs.Digits.{digits_of, exact_decimals}

one_off : (p n m : ℕ) → n ≡ 10 * m → exact_decimals (suc p) n ≡ exact_decimals p m
one_off p n m is =
    ap (λ b. cond b (exact_decimals p (n / 10)) (digits_of (suc p) n))
    (eq-eqb (n % 10) 0 (omega (arith, is)))
    ∙ ap (exact_decimals p) (let e : n / 10 ≡ m = omega (arith, is) in e)

one_less : (p n m : ℕ) → n ≡ 10 * m → n < 10 ^ suc p → m < 10 ^ p
one_less p n m is small =
    let power = pow-suc 10 p in omega (arith, is, small, power)

pub two_off : (places n p : ℕ) → places ≡ suc (suc p) → n % 100 ≡ 0
    → exact_decimals p (n / 100) ≡ exact_decimals places n
two_off places n p is none =
    sym (ap (λ k. exact_decimals k n) is
    ∙ one_off (suc p) n (10 * (n / 100)) (omega (arith, none))
    ∙ one_off p (10 * (n / 100)) (n / 100) (omega arith))

pub two_less : (places n p : ℕ) → places ≡ suc (suc p) → n % 100 ≡ 0 → n < 10 ^ places
    → n / 100 < 10 ^ p
two_less places n p is none small =
    one_less p (10 * (n / 100)) (n / 100) (omega arith)
    (one_less (suc p) n (10 * (n / 100)) (omega (arith, none)) (subst (λ k. n < 10 ^ k) is small))

pub four_off : (places n p : ℕ) → places ≡ suc (suc (suc (suc p))) → n % 10000 ≡ 0
    → exact_decimals p (n / 10000) ≡ exact_decimals places n
four_off places n p is none =
    ap (exact_decimals p) (let e : n / 10000 ≡ n / 100 / 100 = omega arith in e)
    ∙ two_off (suc (suc p)) (n / 100) p (omega arith) (omega (arith, none))
    ∙ two_off places n (suc (suc p)) is (omega (arith, none))

pub four_less : (places n p : ℕ) → places ≡ suc (suc (suc (suc p))) → n % 10000 ≡ 0
    → n < 10 ^ places → n / 10000 < 10 ^ p
four_less places n p is none small =
    subst (λ m. m < 10 ^ p) (let e : n / 100 / 100 ≡ n / 10000 = omega arith in e)
    (two_less (suc (suc p)) (n / 100) p (omega arith) (omega (arith, none))
    (two_less places n (suc (suc p)) is (omega (arith, none)) small))
