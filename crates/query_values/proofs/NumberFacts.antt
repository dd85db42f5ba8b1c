-- Numbers of any decimals.
use Rattle.std.proofs.Common.{◌≡◌, ℕ, zero, suc, ◌+◌, ◌-◌, ◌*◌, ◌<◌, ◌≤◌, ◌^◌, max, ℤ, pos, negsuc}
use Rattle.std.proofs.Common.{neg_ℤ, ◌*ℤ◌, ◌<ℤ◌, Bool, true, false, nat_lt, refl, sym, ap, ap₂, ◌∙◌}
use Rattle.std.proofs.Common.{subst, arith, rules}
use Rattle.std.proofs.lemmas.Bool.Decides.{nat_tests}
use Rattle.std.proofs.lemmas.Int.{ints}
use Rattle.std.specs.Cmp.{int_cmp_is}
use Rattle.std.specs.Int.{w128}
use Rattle.std.specs.Int.RustNames.{FitsSigned}
use Rattle.std.specs.Ordering.{int_cmp, ordering_reverse}
use Rattle.std.specs.declared.cmp.Ordering.TheVariants.{Less, Greater}
use Rattle.std.proofs.Math.Nat.{mul-le-mul_right}
use Rattle.std.proofs.lemmas.Cmp.{int_cmp_total}
use Rattle.bean_base.proofs.PowerFacts.{pow_le}
use Rattle.bean_base.specs.Decimal.{scaled}
use Rattle.query_values.specs.Order.{number_order}

one : (m : ℤ) → m *ℤ pos 1 ≡ m
one m = omega (arith, ints)

pub by_one : (m n : ℤ) (k : ℕ) → k ≡ 0 → int_cmp (m *ℤ pos (10 ^ k)) n ≡ int_cmp m n
by_one m n k e = ap (λ k. int_cmp (m *ℤ pos (10 ^ k)) n) e ∙ ap (λ x. int_cmp x n) (one m)

nothing : (t : ℕ) → pos 0 *ℤ pos t ≡ pos 0
nothing t = omega (arith, ints)

pub of_nothing : (m n : ℤ) (k : ℕ) → m ≡ pos 0 → int_cmp (m *ℤ pos (10 ^ k)) n ≡ int_cmp m n
of_nothing m n k e =
    ap (λ m. int_cmp (m *ℤ pos (10 ^ k)) n) e ∙ ap (λ x. int_cmp x n) (nothing (10 ^ k))
    ∙ ap (λ x. int_cmp x n) (sym e)

greater : (x n : ℤ) → n <ℤ x → int_cmp x n ≡ Greater
greater x n h = sym (int_cmp_is x n Greater h)

less : (x n : ℤ) → x <ℤ n → int_cmp x n ≡ Less
less x n h = sym (int_cmp_is x n Less h)

zero_fits : FitsSigned w128 (pos 0)
zero_fits = search rules

-- what isn't of 128 bits is beyond all that is
above : (x : ℕ) (n : ℤ) → FitsSigned w128 n → (FitsSigned w128 (pos x) → ⊥) → n <ℤ pos x
above x n f h = by (nat_lt x (2 ^ 127)) refl
  where
    by : (b : Bool) → nat_lt x (2 ^ 127) ≡ b → n <ℤ pos x
    by true e =
        absurd (h (let small : x < 2 ^ 127 = grind (arith, nat_tests) in omega (arith, ints)))
    by false e = let great : 2 ^ 127 ≤ x = grind (arith, nat_tests) in omega (arith, ints)

below : (x : ℕ) (n : ℤ) → FitsSigned w128 n → (FitsSigned w128 (neg_ℤ (pos x)) → ⊥)
    → neg_ℤ (pos x) <ℤ n
below x n f h = by (nat_lt x (2 ^ 127 + 1)) refl
  where
    by : (b : Bool) → nat_lt x (2 ^ 127 + 1) ≡ b → neg_ℤ (pos x) <ℤ n
    by true e =
        absurd (h (let small : x ≤ 2 ^ 127 = grind (arith, nat_tests) in omega (arith, ints)))
    by false e = let great : 2 ^ 127 < x = grind (arith, nat_tests) in omega (arith, ints)

product : (a t : ℕ) → pos (suc a) *ℤ pos t ≡ pos (suc a * t)
product a t = refl

negative_product : (a t : ℕ) → negsuc a *ℤ pos t ≡ neg_ℤ (pos (suc a * t))
negative_product a t = refl

pub by_sign : (m n : ℤ) (k : ℕ) → FitsSigned w128 n → (FitsSigned w128 (m *ℤ pos (10 ^ k)) → ⊥)
    → int_cmp (m *ℤ pos (10 ^ k)) n ≡ int_cmp m (pos 0)
by_sign (pos zero) n k fits h =
    absurd (h (subst (FitsSigned w128) (sym (nothing (10 ^ k))) zero_fits))
by_sign (pos (suc a)) n k fits h =
    let t = 10 ^ k in
    let far = above (suc a * t) n fits (λ f. h (subst (FitsSigned w128) (sym (product a t)) f)) in
    ap (λ x. int_cmp x n) (product a t) ∙ greater (pos (suc a * t)) n far
    ∙ sym (greater (pos (suc a)) (pos 0) (omega (arith, ints)))
by_sign (negsuc a) n k fits h =
    let t = 10 ^ k in
    let far =
    below (suc a * t) n fits
    (λ f. h (subst (FitsSigned w128) (sym (negative_product a t)) f)) in
    ap (λ x. int_cmp x n) (negative_product a t) ∙ less (neg_ℤ (pos (suc a * t))) n far
    ∙ sym (less (negsuc a) (pos 0) (omega (arith, ints)))

great_power : (k : ℕ) → 38 < k → 2 ^ 127 < 10 ^ k
great_power k h = omega (arith, pow_le 39 k (omega (arith, h)))

no_product : (m : ℤ) (t : ℕ) → (m ≡ pos 0 → ⊥) → 2 ^ 127 < t → FitsSigned w128 (m *ℤ pos t) → ⊥
no_product (pos zero) t some great f = some refl
no_product (pos (suc a)) t some great f =
    let g : FitsSigned w128 (pos (suc a * t)) = f in
    let more : 1 * t ≤ suc a * t = mul-le-mul_right t (omega arith) in
    omega (arith, ints)
no_product (negsuc a) t some great f =
    let g : FitsSigned w128 (neg_ℤ (pos (suc a * t))) = f in
    let more : 1 * t ≤ suc a * t = mul-le-mul_right t (omega arith) in
    omega (arith, ints)

pub by_great_sign : (m n : ℤ) (k : ℕ) → FitsSigned w128 n → (m ≡ pos 0 → ⊥) → 38 < k
    → int_cmp (m *ℤ pos (10 ^ k)) n ≡ int_cmp m (pos 0)
by_great_sign m n k fits some h = by_sign m n k fits (no_product m (10 ^ k) some (great_power k h))

reversed : (x y : ℤ) → ordering_reverse (int_cmp x y) ≡ int_cmp y x
reversed x y = sym (int_cmp_total.antisymm y x)

pub up : (p q : ℕ) (m n : ℤ) → p ≤ q → int_cmp (m *ℤ pos (10 ^ (q - p))) n ≡ number_order p m q n
up p q m n h =
    let most : max p q ≡ q = omega arith in
    let none : q - q ≡ 0 = omega arith in
    sym (ap₂ int_cmp (ap (scaled m p) most)
    (ap (scaled n q) most ∙ ap (λ k. n *ℤ pos (10 ^ k)) none ∙ one n))

pub down : (p q : ℕ) (m n : ℤ) → q < p
    → ordering_reverse (int_cmp (n *ℤ pos (10 ^ (p - q))) m) ≡ number_order p m q n
down p q m n h =
    let most : max p q ≡ p = omega arith in
    let none : p - p ≡ 0 = omega arith in
    reversed (n *ℤ pos (10 ^ (p - q))) m
    ∙ sym (ap₂ int_cmp (ap (scaled m p) most ∙ ap (λ k. m *ℤ pos (10 ^ k)) none ∙ one m)
    (ap (scaled n q) most))

pub ruleset of_numbers = (by_one, of_nothing, by_sign, by_great_sign)
