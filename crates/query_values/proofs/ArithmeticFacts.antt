-- Numbers of the same decimals.
use Rattle.std.proofs.Common.{◌≡◌, ℕ, ◌-◌, ◌^◌, max, ℤ, pos, ◌+ℤ◌, ◌-ℤ◌, ◌*ℤ◌, true, ◌==◌, sym, ap}
use Rattle.std.proofs.Common.{ap₂, ◌∙◌, subst, arith}
use Rattle.std.proofs.lemmas.Bool.Decides.{nat_tests}
use Rattle.std.proofs.lemmas.Int.{ints}
use Rattle.std.specs.Ordering.{int_cmp, int_eq}
use Rattle.bean_base.specs.Decimal.{scaled}
use Rattle.query_values.specs.Arithmetic.{sum_of, difference_of}
use Rattle.query_values.specs.Equality.{same_number}
use Rattle.query_values.specs.Order.{order_of}
use Rattle.query_values.specs.declared.value.Value.TheVariants.{Number}

greatest : (p : ℕ) → max p p ≡ p
greatest p = omega arith

one : (m : ℤ) → m *ℤ pos 1 ≡ m
one m = omega (arith, ints)

scaled_by_none : (m : ℤ) (p : ℕ) → scaled m p p ≡ m
scaled_by_none m p = let none : p - p ≡ 0 = omega arith in ap (λ k. m *ℤ pos (10 ^ k)) none ∙ one m

scaled_to_greatest : (m : ℤ) (p : ℕ) → scaled m p (max p p) ≡ m
scaled_to_greatest m p = ap (scaled m p) (greatest p) ∙ scaled_by_none m p

same : (p q : ℕ) → (p == q) ≡ true → p ≡ q
same p q h = grind (arith, nat_tests)

pub sum_at : (p q : ℕ) (m n : ℤ) → (p == q) ≡ true
    → sum_of (Number p m) (Number q n) ≡ Number p (m +ℤ n)
sum_at p q m n h = subst (λ q. sum_of (Number p m) (Number q n) ≡ Number p (m +ℤ n)) (same p q h)
    (ap₂ Number (greatest p) (ap₂ ◌+ℤ◌ (scaled_to_greatest m p) (scaled_to_greatest n p)))

pub difference_at : (p q : ℕ) (m n : ℤ) → (p == q) ≡ true
    → difference_of (Number p m) (Number q n) ≡ Number p (m -ℤ n)
difference_at p q m n h =
    subst (λ q. difference_of (Number p m) (Number q n) ≡ Number p (m -ℤ n)) (same p q h)
    (ap₂ Number (greatest p) (ap₂ ◌-ℤ◌ (scaled_to_greatest m p) (scaled_to_greatest n p)))

pub order_at : (p q : ℕ) (m n : ℤ) → (p == q) ≡ true
    → order_of (Number p m) (Number q n) ≡ int_cmp m n
order_at p q m n h = subst (λ q. order_of (Number p m) (Number q n) ≡ int_cmp m n) (same p q h)
    (ap₂ int_cmp (scaled_to_greatest m p) (scaled_to_greatest n p))

pub same_at : (p q : ℕ) (m n : ℤ) → (p == q) ≡ true → int_eq m n ≡ same_number p m q n
same_at p q m n h = sym (subst (λ q. same_number p m q n ≡ int_eq m n) (same p q h)
    (ap₂ int_eq (scaled_to_greatest m p) (scaled_to_greatest n p)))
