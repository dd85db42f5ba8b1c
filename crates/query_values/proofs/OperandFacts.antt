-- Sums, differences and products of numbers, and of what is no number.
use Rattle.std.proofs.Common.{◌≡◌, ◌<◌, ◌≤◌, ℕ, ◌+◌, ◌^◌, ℤ, ◌+ℤ◌, ◌-ℤ◌, ◌*ℤ◌, true, ◌==◌, ap₂, ◌∙◌, subst, subst₂}
use Rattle.std.proofs.Common.{sym, rules, arith, IsTrue, refl, FitsSigned, to_z, of_z}
use Rattle.std.specs.Int.{w128}
use Rattle.std.specs.Int.RustNames.{unsigned_abs}
use Rattle.std.proofs.lemmas.Int.{ints, to_z-of_z}
use Rattle.query_values.specs.Arithmetic.{sum_of, difference_of, product_of}
use Rattle.query_values.specs.Held.{is_held}
use Rattle.query_values.specs.Operand.{are_addable}
use Rattle.query_values.specs.declared.value.Value.{Value}
use Rattle.query_values.specs.declared.value.Value.TheVariants.{Null, Number}
use Rattle.query_values.proofs.ArithmeticFacts.{sum_at, difference_at}

addable_at : (p q : ℕ) (m n : ℤ) → IsTrue (are_addable (Number p m) (Number q n)) → (p == q) ≡ true
addable_at p q m n may = search rules

pub sum_is : {x y : Value} {p q : ℕ} {m n : ℤ} → x ≡ Number p m → y ≡ Number q n
    → IsTrue (are_addable x y) → sum_of x y ≡ Number p (m +ℤ n)
sum_is {x} {y} {p} {q} {m} {n} ex ey may =
    let known = subst₂ (λ x y. IsTrue (are_addable x y)) ex ey may in
    ap₂ sum_of ex ey ∙ sum_at p q m n (addable_at p q m n known)

pub sum_in_range : {x y : Value} {p q : ℕ} {m n : ℤ} → x ≡ Number p m → y ≡ Number q n
    → IsTrue (are_addable x y) → IsTrue (is_held (sum_of x y)) → unsigned_abs (m +ℤ n) < 2 ^ 127
sum_in_range {x} {y} {p} {q} {m} {n} ex ey may held =
    let known = subst (λ z. IsTrue (is_held z)) (sum_is ex ey may) held in
    search (rules, known)

pub difference_is : {x y : Value} {p q : ℕ} {m n : ℤ} → x ≡ Number p m → y ≡ Number q n
    → IsTrue (are_addable x y) → difference_of x y ≡ Number p (m -ℤ n)
difference_is {x} {y} {p} {q} {m} {n} ex ey may =
    let known = subst₂ (λ x y. IsTrue (are_addable x y)) ex ey may in
    ap₂ difference_of ex ey ∙ difference_at p q m n (addable_at p q m n known)

pub difference_in_range : {x y : Value} {p q : ℕ} {m n : ℤ} → x ≡ Number p m → y ≡ Number q n
    → IsTrue (are_addable x y) → IsTrue (is_held (difference_of x y))
    → unsigned_abs (m -ℤ n) < 2 ^ 127
difference_in_range {x} {y} {p} {q} {m} {n} ex ey may held =
    let known = subst (λ z. IsTrue (is_held z)) (difference_is ex ey may) held in
    search (rules, known)

pub product_in_range : {x y : Value} {p q : ℕ} {m n : ℤ} → x ≡ Number p m → y ≡ Number q n
    → IsTrue (is_held (product_of x y)) → (p + q ≤ 32) × (unsigned_abs (m *ℤ n) < 2 ^ 127)
product_in_range {x} {y} {p} {q} {m} {n} ex ey held =
    let known = subst₂ (λ x y. IsTrue (is_held (product_of x y))) ex ey held in
    search (rules, known)

fits_at : (z : ℤ) → unsigned_abs z < 2 ^ 127 → FitsSigned w128 z
fits_at z small = omega (arith, ints)

-- the product of counts that are held as they are
pub product_fits : {a b m n : ℤ} → a ≡ m → b ≡ n → unsigned_abs (m *ℤ n) < 2 ^ 127
    → FitsSigned w128 (a *ℤ b)
product_fits {a} {b} {m} {n} ea eb small =
    subst₂ (λ a b. FitsSigned w128 (a *ℤ b)) (sym ea) (sym eb) (fits_at (m *ℤ n) small)

pub product_exact : {a b m n : ℤ} → a ≡ m → b ≡ n → unsigned_abs (m *ℤ n) < 2 ^ 127
    → to_z w128 (of_z w128 (a *ℤ b)) ≡ m *ℤ n
product_exact {a} {b} {m} {n} ea eb small =
    ap₂ (λ a b. to_z w128 (of_z w128 (a *ℤ b))) ea eb
    ∙ to_z-of_z w128 (m *ℤ n) (fits_at (m *ℤ n) small)

-- one of the two is no number
pub no_sum_left : (x y : Value) → ((p : ℕ) (m : ℤ) → x ≡ Number p m → ⊥) → Null ≡ sum_of x y
no_sum_left (Number p m) y h = absurd (h p m refl)
no_sum_left x y h = refl

pub no_sum_right : (p : ℕ) (m : ℤ) (y : Value) → ((q : ℕ) (n : ℤ) → y ≡ Number q n → ⊥)
    → Null ≡ sum_of (Number p m) y
no_sum_right p m (Number q n) h = absurd (h q n refl)
no_sum_right p m y h = refl

pub no_difference_left : (x y : Value) → ((p : ℕ) (m : ℤ) → x ≡ Number p m → ⊥)
    → Null ≡ difference_of x y
no_difference_left (Number p m) y h = absurd (h p m refl)
no_difference_left x y h = refl

pub no_difference_right : (p : ℕ) (m : ℤ) (y : Value) → ((q : ℕ) (n : ℤ) → y ≡ Number q n → ⊥)
    → Null ≡ difference_of (Number p m) y
no_difference_right p m (Number q n) h = absurd (h q n refl)
no_difference_right p m y h = refl

pub no_product_left : (x y : Value) → ((p : ℕ) (m : ℤ) → x ≡ Number p m → ⊥)
    → Null ≡ product_of x y
no_product_left (Number p m) y h = absurd (h p m refl)
no_product_left x y h = refl

pub no_product_right : (p : ℕ) (m : ℤ) (y : Value) → ((q : ℕ) (n : ℤ) → y ≡ Number q n → ⊥)
    → Null ≡ product_of (Number p m) y
no_product_right p m (Number q n) h = absurd (h q n refl)
no_product_right p m y h = refl
