-- Operations on two values keep shapes.
use Rattle.std.proofs.Common.{◌≡◌, ℕ, ◌+◌, ◌-◌, ◌*◌, ◌^◌, ◌≤◌, max, ℤ, pos, ◌+ℤ◌, ◌-ℤ◌, ◌*ℤ◌, Bool}
use Rattle.std.proofs.Common.{true, false, cond, ◌&&◌, List, Ok, Err, eqb, refl, sym, ap, ◌∙◌}
use Rattle.std.proofs.Common.{subst}
use Rattle.std.proofs.Common.{arith, not}
use Rattle.std.specs.Int.RustNames.{unsigned_abs}
use Rattle.std.proofs.Math.Nat.{mul-le-mul}
use Rattle.std.proofs.lemmas.Int.{ints, unsigned_abs-mul}
use Rattle.std.proofs.lemmas.Bool.{and_from, eq-eqb, eqb-true}
use Rattle.bean_base.specs.Decimal.{scaled}
use Rattle.bean_base.specs.declared.days.Day as day
use Rattle.query_values.specs.Arithmetic.{difference_of, product_of, sum_of}
use Rattle.query_values.specs.Equality.{same}
use Rattle.query_values.specs.Held.{checked}
use Rattle.query_values.specs.Operand.{are_addable, are_comparable, are_in_order}
use Rattle.query_values.specs.Operand.{is_number, is_set, is_text, may_binary}
use Rattle.query_values.specs.Operation.{binary_value, is_member}
use Rattle.query_values.specs.Order.{is_at_most, is_less}
use Rattle.query_values.specs.declared.operation.Binary.{Binary}
use Rattle.query_values.specs.declared.operation.Binary.TheVariants as binary
use Rattle.query_values.specs.declared.value.Value.{Value}
use Rattle.query_values.specs.declared.value.Value.TheVariants as value
use Rattle.query_rows.specs.Keeping.{Has}
use Rattle.query_rows.specs.Rules as rule
use Rattle.query_rows.specs.Rules.{binary_shape}
use Rattle.query_rows.specs.Shape.{LiesIn, fitting}
use Rattle.query_rows.specs.declared.shape.Misfit.TheVariants.{Kind}
use Rattle.query_rows.specs.declared.shape.Shape.{Shape}
use Rattle.query_rows.specs.declared.shape.Shape.TheVariants as shape
use Rattle.query_rows.proofs.FittingFacts.{fits}
use Rattle.query_rows.proofs.ShapeCases.{truth_cases, text_cases, day_cases}
use Rattle.query_rows.proofs.ShapeCases.{number_cases}
use Rattle.query_rows.proofs.UnaryFacts.{gives_truth, set_is, text_is}

-- ---- pairs of values of two shapes

-- what holds of two numbers, of one and null, and of null and null, holds of two values of numbers'
-- shapes
abbrev Of : (Value → Value → Type 0) → ℕ → ℕ → ℕ → ℕ → Type 0
Of P p m q n =
    (j k : ℤ) → unsigned_abs j ≤ m → unsigned_abs k ≤ n → P (value.Number p j) (value.Number q k)

numbers : (P : Value → Value → Type 0) (p m q n : ℕ) → P value.Null value.Null
    → ((j : ℤ) → P (value.Number p j) value.Null) → ((k : ℤ) → P value.Null (value.Number q k))
    → Of P p m q n → (x y : Value) → LiesIn x (shape.Number p m) → LiesIn y (shape.Number q n)
    → P x y
numbers P p m q n none left right both x y h k =
    number_cases (λ z. P z y) p m
    (number_cases (λ w. P value.Null w) q n none (λ i low. right i) y k)
    (λ i low. number_cases (λ w. P (value.Number p i) w) q n (left i) (λ j few. both i j low few) y
    k)
    x h

-- ---- sums and products

same_places : (p : ℕ) → max p p ≡ p
same_places p = omega arith

as_it_is : (n : ℤ) (p : ℕ) → scaled n p (max p p) ≡ n
as_it_is n p =
    let e : max p p - p ≡ 0 = omega arith in
    ap (λ (k : ℕ). n *ℤ pos (10 ^ k)) e ∙ omega (arith, ints)

low_sum : (j k : ℤ) (m n : ℕ) → unsigned_abs j ≤ m → unsigned_abs k ≤ n
    → unsigned_abs (j +ℤ k) ≤ m + n
low_sum j k m n low few = omega (arith, ints, low, few)

low_difference : (j k : ℤ) (m n : ℕ) → unsigned_abs j ≤ m → unsigned_abs k ≤ n
    → unsigned_abs (j -ℤ k) ≤ m + n
low_difference j k m n low few = omega (arith, ints, low, few)

low_product : (j k : ℤ) (m n : ℕ) → unsigned_abs j ≤ m → unsigned_abs k ≤ n
    → unsigned_abs (j *ℤ k) ≤ m * n
low_product j k m n low few =
    subst (λ (z : ℕ). z ≤ m * n) (sym (unsigned_abs-mul j k)) (mul-le-mul low few)

equal_is : (p q : ℕ) → p ≡ q → eqb p q ≡ true
equal_is p q e = eq-eqb p q e

addable : (p m n : ℕ) (x y : Value) → LiesIn x (shape.Number p m) → LiesIn y (shape.Number p n)
    → are_addable x y ≡ true
addable p m n x y h k =
    numbers (λ z w. are_addable z w ≡ true) p m p n refl (λ j. refl) (λ j. refl)
    (λ i j low few. equal_is p p refl) x y h k

lies_sum : (p m n : ℕ) (x y : Value) → LiesIn x (shape.Number p m) → LiesIn y (shape.Number p n)
    → LiesIn (sum_of x y) (shape.Number p (m + n))
lies_sum p m n x y h k =
    numbers (λ z w. LiesIn (sum_of z w) (shape.Number p (m + n))) p m p n tt (λ j. tt) (λ j. tt)
    (λ i j low few. (
      same_places p,
      subst (λ (a : ℤ). unsigned_abs (a +ℤ scaled j p (max p p)) ≤ m + n) (sym (as_it_is i p))
          (subst (λ (a : ℤ). unsigned_abs (i +ℤ a) ≤ m + n) (sym (as_it_is j p))
          (low_sum i j m n low few)),
    )) x y h k

lies_difference : (p m n : ℕ) (x y : Value) → LiesIn x (shape.Number p m)
    → LiesIn y (shape.Number p n) → LiesIn (difference_of x y) (shape.Number p (m + n))
lies_difference p m n x y h k =
    numbers (λ z w. LiesIn (difference_of z w) (shape.Number p (m + n))) p m p n tt (λ j. tt)
    (λ j. tt)
    (λ i j low few. (
      same_places p,
      subst (λ (a : ℤ). unsigned_abs (a -ℤ scaled j p (max p p)) ≤ m + n) (sym (as_it_is i p))
          (subst (λ (a : ℤ). unsigned_abs (i -ℤ a) ≤ m + n) (sym (as_it_is j p))
          (low_difference i j m n low few)),
    )) x y h k

-- of two numbers of the same decimals
on_same : (f : Value → Value → Value)
    → ((p m n : ℕ) (x y : Value) → LiesIn x (shape.Number p m) → LiesIn y (shape.Number p n)
    → LiesIn (f x y) (shape.Number p (m + n)))
    → (p m q n : ℕ) (x y : Value) → LiesIn x (shape.Number p m) → LiesIn y (shape.Number q n)
    → Has (checked (are_addable x y) (f x y)) (rule.sum_of (shape.Number p m) (shape.Number q n))
on_same f lies p m q n x y h k = by (eqb p q) refl
  where
    by : (b : Bool) → eqb p q ≡ b
        → Has (checked (are_addable x y) (f x y))
        (cond b (fitting (shape.Number p (m + n))) (Err Kind))
    by false e = tt
    by true e =
        let l = subst (λ (r : ℕ). LiesIn y (shape.Number r n)) (sym (eqb-true p q e)) k in
        fits (are_addable x y) (f x y) (shape.Number p (m + n)) (addable p m n x y h l)
        (lies p m n x y h l)

on_sum : (f : Value → Value → Value)
    → ((p m n : ℕ) (x y : Value) → LiesIn x (shape.Number p m) → LiesIn y (shape.Number p n)
    → LiesIn (f x y) (shape.Number p (m + n)))
    → (x y : Value) (s t : Shape) → LiesIn x s → LiesIn y t
    → Has (checked (are_addable x y) (f x y)) (rule.sum_of s t)
on_sum f lies x y shape.Truth t h k = tt
on_sum f lies x y shape.Text t h k = tt
on_sum f lies x y shape.Day t h k = tt
on_sum f lies x y shape.Set t h k = tt
on_sum f lies x y (shape.Number p m) shape.Truth h k = tt
on_sum f lies x y (shape.Number p m) shape.Text h k = tt
on_sum f lies x y (shape.Number p m) shape.Day h k = tt
on_sum f lies x y (shape.Number p m) shape.Set h k = tt
on_sum f lies x y (shape.Number p m) (shape.Number q n) h k = on_same f lies p m q n x y h k
on_sum f lies x y (shape.Number p m) (shape.Amount q n) h k = tt
on_sum f lies x y (shape.Number p m) (shape.Position w z) h k = tt
on_sum f lies x y (shape.Number p m) (shape.Inventory q w z) h k = tt
on_sum f lies x y (shape.Amount p m) t h k = tt
on_sum f lies x y (shape.Position u v) t h k = tt
on_sum f lies x y (shape.Inventory p u v) t h k = tt

product_may : (p m q n : ℕ) (x y : Value) → LiesIn x (shape.Number p m)
    → LiesIn y (shape.Number q n)
    → (is_number x && is_number y) ≡ true
product_may p m q n x y h k =
    numbers (λ z w. (is_number z && is_number w) ≡ true) p m q n refl (λ j. refl) (λ j. refl)
    (λ i j low few. refl) x y h k

lies_product : (p m q n : ℕ) (x y : Value) → LiesIn x (shape.Number p m)
    → LiesIn y (shape.Number q n) → LiesIn (product_of x y) (shape.Number (p + q) (m * n))
lies_product p m q n x y h k =
    numbers (λ z w. LiesIn (product_of z w) (shape.Number (p + q) (m * n))) p m q n tt (λ j. tt)
    (λ j. tt) (λ i j low few. (refl, low_product i j m n low few)) x y h k

on_product : (x y : Value) (s t : Shape) → LiesIn x s → LiesIn y t
    → Has (checked (is_number x && is_number y) (product_of x y)) (rule.product_of s t)
on_product x y shape.Truth t h k = tt
on_product x y shape.Text t h k = tt
on_product x y shape.Day t h k = tt
on_product x y shape.Set t h k = tt
on_product x y (shape.Number p m) shape.Truth h k = tt
on_product x y (shape.Number p m) shape.Text h k = tt
on_product x y (shape.Number p m) shape.Day h k = tt
on_product x y (shape.Number p m) shape.Set h k = tt
on_product x y (shape.Number p m) (shape.Number q n) h k =
    fits (is_number x && is_number y) (product_of x y) (shape.Number (p + q) (m * n))
    (product_may p m q n x y h k) (lies_product p m q n x y h k)
on_product x y (shape.Number p m) (shape.Amount q n) h k = tt
on_product x y (shape.Number p m) (shape.Position w z) h k = tt
on_product x y (shape.Number p m) (shape.Inventory q w z) h k = tt
on_product x y (shape.Amount p m) t h k = tt
on_product x y (shape.Position u v) t h k = tt
on_product x y (shape.Inventory p u v) t h k = tt

-- ---- comparisons

texts_are : (P : Value → Value → Type 0) → P value.Null value.Null
    → ((t : List ℕ) → P (value.Text t) value.Null) → ((u : List ℕ) → P value.Null (value.Text u))
    → ((t u : List ℕ) → P (value.Text t) (value.Text u)) → (x y : Value) → LiesIn x shape.Text
    → LiesIn y shape.Text → P x y
texts_are P none left right both x y h k =
    text_cases (λ z. P z y) (text_cases (λ w. P value.Null w) none (λ u short. right u) y k)
    (λ t short. text_cases (λ w. P (value.Text t) w) (left t) (λ u low. both t u) y k) x h

days_are : (P : Value → Value → Type 0) → P value.Null value.Null
    → ((d : day.Day) → P (value.Day d) value.Null) → ((e : day.Day) → P value.Null (value.Day e))
    → ((d e : day.Day) → P (value.Day d) (value.Day e)) → (x y : Value) → LiesIn x shape.Day
    → LiesIn y shape.Day → P x y
days_are P none left right both x y h k =
    day_cases (λ z. P z y) (day_cases (λ w. P value.Null w) none right y k)
    (λ d. day_cases (λ w. P (value.Day d) w) (left d) (both d) y k) x h

truths_are : (P : Value → Value → Type 0) → P value.Null value.Null
    → ((b : Bool) → P (value.Truth b) value.Null) → ((c : Bool) → P value.Null (value.Truth c))
    → ((b c : Bool) → P (value.Truth b) (value.Truth c)) → (x y : Value) → LiesIn x shape.Truth
    → LiesIn y shape.Truth → P x y
truths_are P none left right both x y h k =
    truth_cases (λ z. P z y) (truth_cases (λ w. P value.Null w) none right y k)
    (λ b. truth_cases (λ w. P (value.Truth b) w) (left b) (both b) y k) x h

-- where two have an order, they may be told apart too
pub are_told : (x y : Value) (s t : Shape) → LiesIn x s → LiesIn y t
    → rule.ordered s t ≡ Ok shape.Truth
    → (are_in_order x y ≡ true) × (are_comparable x y ≡ true)
are_told x y shape.Truth t h k e = absurd cc
are_told x y shape.Text shape.Truth h k e = absurd cc
are_told x y shape.Text shape.Text h k e = (
  texts_are (λ z w. are_in_order z w ≡ true) refl (λ t. refl) (λ u. refl) (λ t u. refl) x y h k,
  texts_are (λ z w. are_comparable z w ≡ true) refl (λ t. refl) (λ u. refl) (λ t u. refl) x y h k,
)
are_told x y shape.Text shape.Day h k e = absurd cc
are_told x y shape.Text shape.Set h k e = absurd cc
are_told x y shape.Text (shape.Number q n) h k e = absurd cc
are_told x y shape.Text (shape.Amount q n) h k e = absurd cc
are_told x y shape.Text (shape.Position w z) h k e = absurd cc
are_told x y shape.Text (shape.Inventory q w z) h k e = absurd cc
are_told x y shape.Day shape.Truth h k e = absurd cc
are_told x y shape.Day shape.Text h k e = absurd cc
are_told x y shape.Day shape.Day h k e = (
  days_are (λ z w. are_in_order z w ≡ true) refl (λ d. refl) (λ c. refl) (λ d c. refl) x y h k,
  days_are (λ z w. are_comparable z w ≡ true) refl (λ d. refl) (λ c. refl) (λ d c. refl) x y h k,
)
are_told x y shape.Day shape.Set h k e = absurd cc
are_told x y shape.Day (shape.Number q n) h k e = absurd cc
are_told x y shape.Day (shape.Amount q n) h k e = absurd cc
are_told x y shape.Day (shape.Position w z) h k e = absurd cc
are_told x y shape.Day (shape.Inventory q w z) h k e = absurd cc
are_told x y shape.Set t h k e = absurd cc
are_told x y (shape.Number p m) shape.Truth h k e = absurd cc
are_told x y (shape.Number p m) shape.Text h k e = absurd cc
are_told x y (shape.Number p m) shape.Day h k e = absurd cc
are_told x y (shape.Number p m) shape.Set h k e = absurd cc
are_told x y (shape.Number p m) (shape.Number q n) h k e = by (eqb p q) refl e
  where
    one : eqb p q ≡ true → (are_in_order x y ≡ true) × (are_comparable x y ≡ true)
    one is = (
      numbers (λ z w. are_in_order z w ≡ true) p m q n refl (λ j. refl) (λ j. refl)
          (λ i j low few. is) x y h k,
      numbers (λ z w. are_comparable z w ≡ true) p m q n refl (λ j. refl) (λ j. refl)
          (λ i j low few. is) x y h k,
    )

    by : (b : Bool) → eqb p q ≡ b → cond b (Ok shape.Truth) (Err Kind) ≡ Ok shape.Truth
        → (are_in_order x y ≡ true) × (are_comparable x y ≡ true)
    by true is e = one is
    by false is e = absurd cc
are_told x y (shape.Number p m) (shape.Amount q n) h k e = absurd cc
are_told x y (shape.Number p m) (shape.Position w z) h k e = absurd cc
are_told x y (shape.Number p m) (shape.Inventory q w z) h k e = absurd cc
are_told x y (shape.Amount p m) t h k e = absurd cc
are_told x y (shape.Position u v) t h k e = absurd cc
are_told x y (shape.Inventory p u v) t h k e = absurd cc

-- a rule that gives a truth value or nothing
given_truth : (may b : Bool) (r : rule.Ruled) → (r ≡ Ok shape.Truth → may ≡ true)
    → ((t : Shape) → r ≡ Ok t → t ≡ shape.Truth) → Has (checked may (value.Truth b)) r
given_truth may b (Err e) when only = tt
given_truth may b (Ok t) when only =
    subst (λ (u : Shape). Has (checked may (value.Truth b)) (Ok u)) (sym (only t refl))
    (gives_truth may b (when (ap (λ (u : Shape). Ok u) (only t refl))))

only_ordered : (s t u : Shape) → rule.ordered s t ≡ Ok u → u ≡ shape.Truth
only_ordered shape.Truth t r e = absurd cc
only_ordered shape.Text shape.Truth r e = absurd cc
only_ordered shape.Text shape.Text r e = cc
only_ordered shape.Text shape.Day r e = absurd cc
only_ordered shape.Text shape.Set r e = absurd cc
only_ordered shape.Text (shape.Number q n) r e = absurd cc
only_ordered shape.Text (shape.Amount q n) r e = absurd cc
only_ordered shape.Text (shape.Position w z) r e = absurd cc
only_ordered shape.Text (shape.Inventory q w z) r e = absurd cc
only_ordered shape.Day shape.Truth r e = absurd cc
only_ordered shape.Day shape.Text r e = absurd cc
only_ordered shape.Day shape.Day r e = cc
only_ordered shape.Day shape.Set r e = absurd cc
only_ordered shape.Day (shape.Number q n) r e = absurd cc
only_ordered shape.Day (shape.Amount q n) r e = absurd cc
only_ordered shape.Day (shape.Position w z) r e = absurd cc
only_ordered shape.Day (shape.Inventory q w z) r e = absurd cc
only_ordered shape.Set t r e = absurd cc
only_ordered (shape.Number p m) shape.Truth r e = absurd cc
only_ordered (shape.Number p m) shape.Text r e = absurd cc
only_ordered (shape.Number p m) shape.Day r e = absurd cc
only_ordered (shape.Number p m) shape.Set r e = absurd cc
only_ordered (shape.Number p m) (shape.Number q n) r e = by (eqb p q) e
  where
    by : (b : Bool) → cond b (Ok shape.Truth) (Err Kind) ≡ Ok r → r ≡ shape.Truth
    by true e = cc
    by false e = absurd cc
only_ordered (shape.Number p m) (shape.Amount q n) r e = absurd cc
only_ordered (shape.Number p m) (shape.Position w z) r e = absurd cc
only_ordered (shape.Number p m) (shape.Inventory q w z) r e = absurd cc
only_ordered (shape.Amount p m) t r e = absurd cc
only_ordered (shape.Position u v) t r e = absurd cc
only_ordered (shape.Inventory p u v) t r e = absurd cc

only_member : (s t u : Shape) → rule.member_of s t ≡ Ok u → u ≡ shape.Truth
only_member shape.Truth t r e = absurd cc
only_member shape.Text shape.Truth r e = absurd cc
only_member shape.Text shape.Text r e = absurd cc
only_member shape.Text shape.Day r e = absurd cc
only_member shape.Text shape.Set r e = cc
only_member shape.Text (shape.Number q n) r e = absurd cc
only_member shape.Text (shape.Amount q n) r e = absurd cc
only_member shape.Text (shape.Position w z) r e = absurd cc
only_member shape.Text (shape.Inventory q w z) r e = absurd cc
only_member shape.Day t r e = absurd cc
only_member shape.Set t r e = absurd cc
only_member (shape.Number p m) t r e = absurd cc
only_member (shape.Amount p m) t r e = absurd cc
only_member (shape.Position u v) t r e = absurd cc
only_member (shape.Inventory p u v) t r e = absurd cc

-- truth values may be told apart, and have no order
only_compared : (s t u : Shape) → rule.compared s t ≡ Ok u → u ≡ shape.Truth
only_compared shape.Truth shape.Truth r e = cc
only_compared shape.Truth shape.Text r e = only_ordered shape.Truth shape.Text r e
only_compared shape.Truth shape.Day r e = only_ordered shape.Truth shape.Day r e
only_compared shape.Truth shape.Set r e = only_ordered shape.Truth shape.Set r e
only_compared shape.Truth (shape.Number q n) r e = only_ordered shape.Truth (shape.Number q n) r e
only_compared shape.Truth (shape.Amount q n) r e = only_ordered shape.Truth (shape.Amount q n) r e
only_compared shape.Truth (shape.Position w z) r e =
    only_ordered shape.Truth (shape.Position w z) r e
only_compared shape.Truth (shape.Inventory q w z) r e =
    only_ordered shape.Truth (shape.Inventory q w z) r e
only_compared shape.Text t r e = only_ordered shape.Text t r e
only_compared shape.Day t r e = only_ordered shape.Day t r e
only_compared shape.Set t r e = only_ordered shape.Set t r e
only_compared (shape.Number p m) t r e = only_ordered (shape.Number p m) t r e
only_compared (shape.Amount p m) t r e = only_ordered (shape.Amount p m) t r e
only_compared (shape.Position u v) t r e = only_ordered (shape.Position u v) t r e
only_compared (shape.Inventory p u v) t r e = only_ordered (shape.Inventory p u v) t r e

are_compared : (x y : Value) (s t : Shape) → LiesIn x s → LiesIn y t
    → rule.compared s t ≡ Ok shape.Truth → are_comparable x y ≡ true
are_compared x y shape.Truth shape.Truth h k e =
    truths_are (λ z w. are_comparable z w ≡ true) refl (λ b. refl) (λ c. refl) (λ b c. refl) x y h k
are_compared x y shape.Truth shape.Text h k e = (are_told x y shape.Truth shape.Text h k e).1
are_compared x y shape.Truth shape.Day h k e = (are_told x y shape.Truth shape.Day h k e).1
are_compared x y shape.Truth shape.Set h k e = (are_told x y shape.Truth shape.Set h k e).1
are_compared x y shape.Truth (shape.Number q n) h k e =
    (are_told x y shape.Truth (shape.Number q n) h k e).1
are_compared x y shape.Truth (shape.Amount q n) h k e =
    (are_told x y shape.Truth (shape.Amount q n) h k e).1
are_compared x y shape.Truth (shape.Position w z) h k e =
    (are_told x y shape.Truth (shape.Position w z) h k e).1
are_compared x y shape.Truth (shape.Inventory q w z) h k e =
    (are_told x y shape.Truth (shape.Inventory q w z) h k e).1
are_compared x y shape.Text t h k e = (are_told x y shape.Text t h k e).1
are_compared x y shape.Day t h k e = (are_told x y shape.Day t h k e).1
are_compared x y shape.Set t h k e = (are_told x y shape.Set t h k e).1
are_compared x y (shape.Number p m) t h k e = (are_told x y (shape.Number p m) t h k e).1
are_compared x y (shape.Amount p m) t h k e = (are_told x y (shape.Amount p m) t h k e).1
are_compared x y (shape.Position u v) t h k e = (are_told x y (shape.Position u v) t h k e).1
are_compared x y (shape.Inventory p u v) t h k e = (are_told x y (shape.Inventory p u v) t h k e).1

on_order : (b : Bool) (x y : Value) (s t : Shape) → LiesIn x s → LiesIn y t
    → Has (checked (are_in_order x y) (value.Truth b)) (rule.ordered s t)
on_order b x y s t h k =
    given_truth (are_in_order x y) b (rule.ordered s t) (λ e. (are_told x y s t h k e).0)
    (only_ordered s t)

on_equal : (b : Bool) (x y : Value) (s t : Shape) → LiesIn x s → LiesIn y t
    → Has (checked (are_comparable x y) (value.Truth b)) (rule.compared s t)
on_equal b x y s t h k =
    given_truth (are_comparable x y) b (rule.compared s t) (are_compared x y s t h k)
    (only_compared s t)

may_member : (x y : Value) (s t : Shape) → LiesIn x s → LiesIn y t
    → rule.member_of s t ≡ Ok shape.Truth → (is_text x && is_set y) ≡ true
may_member x y shape.Truth t h k e = absurd cc
may_member x y shape.Text shape.Truth h k e = absurd cc
may_member x y shape.Text shape.Text h k e = absurd cc
may_member x y shape.Text shape.Day h k e = absurd cc
may_member x y shape.Text shape.Set h k e =
    and_from (is_text x) (is_set y) (text_is x h) (set_is y k)
may_member x y shape.Text (shape.Number q n) h k e = absurd cc
may_member x y shape.Text (shape.Amount q n) h k e = absurd cc
may_member x y shape.Text (shape.Position w z) h k e = absurd cc
may_member x y shape.Text (shape.Inventory q w z) h k e = absurd cc
may_member x y shape.Day t h k e = absurd cc
may_member x y shape.Set t h k e = absurd cc
may_member x y (shape.Number p m) t h k e = absurd cc
may_member x y (shape.Amount p m) t h k e = absurd cc
may_member x y (shape.Position u v) t h k e = absurd cc
may_member x y (shape.Inventory p u v) t h k e = absurd cc

on_member : (b : Bool) (x y : Value) (s t : Shape) → LiesIn x s → LiesIn y t
    → Has (checked (is_text x && is_set y) (value.Truth b)) (rule.member_of s t)
on_member b x y s t h k =
    given_truth (is_text x && is_set y) b (rule.member_of s t) (may_member x y s t h k)
    (only_member s t)

pub binary_keeps : (op : Binary) (x y : Value) (s t : Shape) → LiesIn x s → LiesIn y t
    → Has (checked (may_binary op x y) (binary_value op x y)) (binary_shape op s t)
binary_keeps binary.Add x y s t h k = on_sum sum_of lies_sum x y s t h k
binary_keeps binary.Sub x y s t h k = on_sum difference_of lies_difference x y s t h k
binary_keeps binary.Mul x y s t h k = on_product x y s t h k
binary_keeps binary.Equal x y s t h k = on_equal (same x y) x y s t h k
binary_keeps binary.NotEqual x y s t h k = on_equal (not (same x y)) x y s t h k
binary_keeps binary.Less x y s t h k = on_order (is_less x y) x y s t h k
binary_keeps binary.AtMost x y s t h k = on_order (is_at_most x y) x y s t h k
binary_keeps binary.Greater x y s t h k = on_order (is_less y x) x y s t h k
binary_keeps binary.AtLeast x y s t h k = on_order (is_at_most y x) x y s t h k
binary_keeps binary.InSet x y s t h k = on_member (is_member x y) x y s t h k
