-- The order of numbers of any decimals is total.
use Rattle.std.proofs.Common.{◌≡◌, ℕ, zero, suc, ◌+◌, ◌-◌, ◌*◌, ◌<◌, ◌≤◌, ◌^◌, max, ℤ, pos, negsuc}
use Rattle.std.proofs.Common.{neg_ℤ, ◌*ℤ◌, ◌<ℤ◌, ◌≤ℤ◌, refl, sym, ap, ap₂, ◌∙◌, arith}
use Rattle.std.proofs.Math.Nat.{mul-le-mul_right, mul_assoc}
use Rattle.std.proofs.lemmas.Cmp.{int_cmp_total}
use Rattle.std.proofs.lemmas.Int.{ints, by_lt_z}
use Rattle.std.proofs.lemmas.Nat.{pow-add}
use Rattle.std.specs.Cmp.{IsTotalOrder, int_cmp_is}
use Rattle.std.specs.Ordering.{int_cmp, ordering_reverse}
use Rattle.std.specs.declared.cmp.Ordering.{Ordering}
use Rattle.std.specs.declared.cmp.Ordering.TheVariants.{Less, Equal, Greater}
use Rattle.bean_base.proofs.PowerFacts.{pow_pos}
use Rattle.bean_base.specs.Decimal.{scaled}
use Rattle.query_values.specs.Order.{number_order}

less_scaled : (x y : ℤ) (k : ℕ) → 0 < k → x <ℤ y → (x *ℤ pos k) <ℤ (y *ℤ pos k)
less_scaled (pos a) (pos b) k some h =
    let below : a + 1 ≤ b = omega (arith, ints, h) in
    let times : (a + 1) * k ≤ b * k = mul-le-mul_right k below in
    let less : a * k < b * k = omega arith in
    let goal : pos (a * k) <ℤ pos (b * k) = omega (arith, ints) in goal
less_scaled (pos a) (negsuc b) k some h = absurd (omega (arith, ints, h))
less_scaled (negsuc a) (pos b) k some h =
    let times : 1 * k ≤ suc a * k = mul-le-mul_right k (omega arith) in
    let goal : neg_ℤ (pos (suc a * k)) <ℤ pos (b * k) = omega (arith, ints) in goal
less_scaled (negsuc a) (negsuc b) k some h =
    let below : suc b + 1 ≤ suc a = omega (arith, ints, h) in
    let times : (suc b + 1) * k ≤ suc a * k = mul-le-mul_right k below in
    let less : suc b * k < suc a * k = omega arith in
    let goal : neg_ℤ (pos (suc a * k)) <ℤ neg_ℤ (pos (suc b * k)) = omega (arith, ints) in goal

same : (x y : ℤ) → x ≤ℤ y → y ≤ℤ x → x ≡ y
same x y h k = omega (arith, ints)

-- a common factor changes no order
scale : (x y : ℤ) (k : ℕ) → 0 < k → int_cmp (x *ℤ pos k) (y *ℤ pos k) ≡ int_cmp x y
scale x y k some =
    by_lt_z x y (λ l. sym (int_cmp_is (x *ℤ pos k) (y *ℤ pos k) Less (less_scaled x y k some l))
    ∙ int_cmp_is x y Less l)
    (λ above. by_lt_z y x
    (λ l. sym (int_cmp_is (x *ℤ pos k) (y *ℤ pos k) Greater (less_scaled y x k some l))
    ∙ int_cmp_is x y Greater l)
    (λ below. let e = same x y below above in
    sym (int_cmp_is (x *ℤ pos k) (y *ℤ pos k) Equal (ap (λ z. z *ℤ pos k) e))
    ∙ int_cmp_is x y Equal e))

negative_times : (x b : ℕ) → neg_ℤ (pos x) *ℤ pos b ≡ neg_ℤ (pos (x * b))
negative_times zero b = omega (arith, ints)
negative_times (suc x) b = refl

twice : (m : ℤ) (a b : ℕ) → (m *ℤ pos a) *ℤ pos b ≡ m *ℤ pos (a * b)
twice (pos n) a b = ap pos (mul_assoc n a b)
twice (negsuc n) a b =
    negative_times (suc n * a) b ∙ ap (λ x. neg_ℤ (pos x)) (mul_assoc (suc n) a b)

further : (m : ℤ) (p q r : ℕ) → p ≤ q → q ≤ r → scaled m p r ≡ scaled m p q *ℤ pos (10 ^ (r - q))
further m p q r h k =
    let sum : r - p ≡ (q - p) + (r - q) = omega arith in
    ap (λ n. m *ℤ pos (10 ^ n)) sum ∙ ap (λ n. m *ℤ pos n) (pow-add 10 (q - p) (r - q))
    ∙ sym (twice m (10 ^ (q - p)) (10 ^ (r - q)))

-- at any decimals that are enough for both
at_common : (p q r : ℕ) (m n : ℤ) → p ≤ r → q ≤ r
    → number_order p m q n ≡ int_cmp (scaled m p r) (scaled n q r)
at_common p q r m n h k =
    let g = max p q in
    sym (ap₂ int_cmp (further m p g r (omega arith) (omega arith))
    (further n q g r (omega arith) (omega arith))
    ∙ scale (scaled m p g) (scaled n q g) (10 ^ (r - g)) (pow_pos (r - g)))

abbrev pub Number : Type 0
Number = ℕ × ℤ

abbrev pub order : Number → Number → Ordering
order a b = number_order a.0 a.1 b.0 b.1

pub numbers_total : IsTotalOrder order
numbers_total = record { antisymm = flip; trans = trans; congr = congr }
  where
    flip : (a b : Number) → order a b ≡ ordering_reverse (order b a)
    flip a b =
        let r = max a.0 b.0 in
        at_common a.0 b.0 r a.1 b.1 (omega arith) (omega arith)
        ∙ int_cmp_total.antisymm (scaled a.1 a.0 r) (scaled b.1 b.0 r)
        ∙ ap ordering_reverse (sym (at_common b.0 a.0 r b.1 a.1 (omega arith) (omega arith)))

    trans : (a b c : Number) → order a b ≡ Less → order b c ≡ Less → order a c ≡ Less
    trans a b c h k =
        let r = max (max a.0 b.0) c.0 in
        at_common a.0 c.0 r a.1 c.1 (omega arith) (omega arith)
        ∙ int_cmp_total.trans (scaled a.1 a.0 r) (scaled b.1 b.0 r) (scaled c.1 c.0 r)
        (sym (at_common a.0 b.0 r a.1 b.1 (omega arith) (omega arith)) ∙ h)
        (sym (at_common b.0 c.0 r b.1 c.1 (omega arith) (omega arith)) ∙ k)

    congr : (a b c : Number) → order a b ≡ Equal → order a c ≡ order b c
    congr a b c h =
        let r = max (max a.0 b.0) c.0 in
        at_common a.0 c.0 r a.1 c.1 (omega arith) (omega arith)
        ∙ int_cmp_total.congr (scaled a.1 a.0 r) (scaled b.1 b.0 r) (scaled c.1 c.0 r)
        (sym (at_common a.0 b.0 r a.1 b.1 (omega arith) (omega arith)) ∙ h)
        ∙ sym (at_common b.0 c.0 r b.1 c.1 (omega arith) (omega arith))
