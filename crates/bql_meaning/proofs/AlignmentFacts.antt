-- Bringing numbers to the greater count of decimals first changes nothing.
use Rattle.std.proofs.Common.{◌≡◌, ℕ, ℤ, pos, max, ◌-◌, ◌^◌, ◌+ℤ◌, ◌-ℤ◌, ◌*ℤ◌, true, not}
use Rattle.std.proofs.Common.{List, [], ◌∷◌, ◌||◌, ◌≤◌, map}
use Rattle.std.proofs.Common.{refl, ap, ◌∙◌, arith}
use Rattle.std.proofs.lemmas.Int.{ints}
use Rattle.std.proofs.lemmas.Bool.Decides.{Decides-int_eq, nat_tests}
use Rattle.std.specs.List.{AllByRecursion, list_any}
use Rattle.std.specs.Prelude.{nat_le}
use Rattle.std.specs.Ordering.{int_cmp, int_eq, is_lt}
use Rattle.bean_base.specs.Decimal.{scaled}
use Rattle.query_rows.proofs.ShapeCases.{number_cases}
use Rattle.query_rows.specs.Shape.{LiesIn}
use Rattle.query_rows.specs.declared.shape.Shape.TheVariants as shape
use Rattle.query_values.proofs.EqualityFacts.{values_equiv}
use Rattle.query_values.specs.Arithmetic.{aligned}
use Rattle.query_values.specs.Equality.{same}
use Rattle.query_values.specs.Operand.{has_at_most}
use Rattle.query_values.specs.Operation.{unary_value, binary_value}
use Rattle.query_values.specs.Unary.{InList}
use Rattle.query_values.specs.declared.operation.Binary.{Binary}
use Rattle.query_values.specs.declared.operation.Binary.TheVariants as binary
use Rattle.query_values.specs.declared.value.Value.{Value}
use Rattle.query_values.specs.declared.value.Value.TheVariants.{Null, Truth, Number}
use Rattle.bql_meaning.specs.Alignment.{is_aligned}

greatest : (p : ℕ) → max p p ≡ p
greatest p = omega arith

swapped : (p q : ℕ) → max p q ≡ max q p
swapped p q = omega arith

one : (m : ℤ) → m *ℤ pos 1 ≡ m
one m = omega (arith, ints)

scaled_by_none : (m : ℤ) (p : ℕ) → scaled m p p ≡ m
scaled_by_none m p = let none : p - p ≡ 0 = omega arith in ap (λ k. m *ℤ pos (10 ^ k)) none ∙ one m

-- a count that has the decimals already
again : (m : ℤ) (p : ℕ) → scaled m p (max p p) ≡ m
again m p = ap (scaled m p) (greatest p) ∙ scaled_by_none m p

-- both with the decimals r, which is p or q
module _ (p q : ℕ) (m n : ℤ) where
  abbrev first : ℤ
  first = scaled m p (max p q)

  abbrev second : ℤ
  second = scaled n q (max p q)

  -- how the second stands to the first
  reversed : int_cmp (scaled second (max p q) (max (max p q) (max p q)))
      (scaled first (max p q) (max (max p q) (max p q)))
      ≡ int_cmp (scaled n q (max q p)) (scaled m p (max q p))
  reversed =
      (λ i. int_cmp (again second (max p q) i) (again first (max p q) i))
      ∙ ap (λ r. int_cmp (scaled n q r) (scaled m p r)) (swapped p q)

  forward : int_cmp (scaled first (max p q) (max (max p q) (max p q)))
      (scaled second (max p q) (max (max p q) (max p q))) ≡ int_cmp first second
  forward = λ i. int_cmp (again first (max p q) i) (again second (max p q) i)

  equal : int_eq (scaled first (max p q) (max (max p q) (max p q)))
      (scaled second (max p q) (max (max p q) (max p q))) ≡ int_eq first second
  equal = λ i. int_eq (again first (max p q) i) (again second (max p q) i)

  of_numbers : (op : Binary) → is_aligned op ≡ true
      → binary_value op (Number (max p q) first) (Number (max p q) second)
      ≡ binary_value op (Number p m) (Number q n)
  of_numbers binary.Add is = λ i.
      Number (greatest (max p q) i) (again first (max p q) i +ℤ again second (max p q) i)
  of_numbers binary.Sub is = λ i.
      Number (greatest (max p q) i) (again first (max p q) i -ℤ again second (max p q) i)
  of_numbers binary.Mul is = cc
  of_numbers binary.Equal is = ap Truth equal
  of_numbers binary.NotEqual is = ap (λ b. Truth (not b)) equal
  of_numbers binary.Less is = ap (λ o. Truth (is_lt o)) forward
  of_numbers binary.AtMost is = ap (λ o. Truth (not (is_lt o))) reversed
  of_numbers binary.Greater is = ap (λ o. Truth (is_lt o)) reversed
  of_numbers binary.AtLeast is = ap (λ o. Truth (not (is_lt o))) forward
  of_numbers binary.InSet is = cc

of_nulls : (op : Binary) → is_aligned op ≡ true → (r : ℕ)
    → binary_value op (aligned r Null) (aligned r Null) ≡ binary_value op Null Null
of_nulls op is r = refl

null_first : (op : Binary) → is_aligned op ≡ true → (r q : ℕ) (n : ℤ)
    → binary_value op Null (Number r (scaled n q r)) ≡ binary_value op Null (Number q n)
null_first binary.Add is r q n = refl
null_first binary.Sub is r q n = refl
null_first binary.Mul is r q n = refl
null_first binary.Equal is r q n = refl
null_first binary.NotEqual is r q n = refl
null_first binary.Less is r q n = refl
null_first binary.AtMost is r q n = refl
null_first binary.Greater is r q n = refl
null_first binary.AtLeast is r q n = refl
null_first binary.InSet is r q n = refl

null_second : (op : Binary) → is_aligned op ≡ true → (r p : ℕ) (m : ℤ)
    → binary_value op (Number r (scaled m p r)) Null ≡ binary_value op (Number p m) Null
null_second binary.Add is r p m = refl
null_second binary.Sub is r p m = refl
null_second binary.Mul is r p m = refl
null_second binary.Equal is r p m = refl
null_second binary.NotEqual is r p m = refl
null_second binary.Less is r p m = refl
null_second binary.AtMost is r p m = refl
null_second binary.Greater is r p m = refl
null_second binary.AtLeast is r p m = refl
null_second binary.InSet is r p m = refl

module _ (op : Binary) (is : is_aligned op ≡ true) (p q m n : ℕ) where
  abbrev Alike : Value → Value → Type 0
  Alike x y =
      binary_value op (aligned (max p q) x) (aligned (max p q) y) ≡ binary_value op x y

  pub alike : (x y : Value) → LiesIn x (shape.Number p m) → LiesIn y (shape.Number q n) → Alike x y
  alike x y h k = number_cases (λ x. Alike x y) p m
      (number_cases (Alike Null) q n refl (λ c low. null_first op is (max p q) q c) y k)
      (λ d low. number_cases (Alike (Number p d)) q n (null_second op is (max p q) p d)
      (λ c low. of_numbers p q d c op is) y k)
      x h

-- ---- members of lists

-- a number with more decimals is the same number
more_decimals : (p q : ℕ) (m : ℤ) → (nat_le q p) ≡ true
    → same (Number p (scaled m q p)) (Number q m) ≡ true
more_decimals p q m low =
    let few : q ≤ p = grind (arith, nat_tests) in
    let most : max p q ≡ p = omega (arith, few) in
    ap (λ r. int_eq (scaled (scaled m q p) p r) (scaled m q r)) most
    ∙ ap (λ z. int_eq z (scaled m q p)) (scaled_by_none (scaled m q p) p)
    ∙ (Decides-int_eq (scaled m q p) (scaled m q p)).1 refl

both_same : (x y u v : Value) → same u x ≡ true → same v y ≡ true → same u v ≡ same x y
both_same x y u v h k =
    values_equiv.congr u x v h ∙ values_equiv.symm x v ∙ values_equiv.congr v y x k
    ∙ values_equiv.symm y x

sought : (p q : ℕ) (m : ℤ) → nat_le q p ≡ true → (y : Value) → has_at_most p y ≡ true
    → same (Number p (scaled m q p)) (aligned p y) ≡ same (Number q m) y
sought p q m low Null h = refl
sought p q m low (Number r n) h =
    both_same (Number q m) (Number r n) (Number p (scaled m q p)) (Number p (scaled n r p))
    (more_decimals p q m low) (more_decimals p r n h)
sought p q m low y h = absurd cc

all_sought : (p q : ℕ) (m : ℤ) → nat_le q p ≡ true → (ys : List Value)
    → AllByRecursion (λ y. has_at_most p y ≡ true) ys
    → list_any (same (Number p (scaled m q p))) (map (aligned p) ys)
    ≡ list_any (same (Number q m)) ys
all_sought p q m low [] all = refl
all_sought p q m low (y ∷ ys) all =
    λ i. sought p q m low y all.0 i || all_sought p q m low ys all.1 i

pub members_aligned : (places : ℕ) (x : Value) (ys : List Value) → has_at_most places x ≡ true
    → AllByRecursion (λ y. has_at_most places y ≡ true) ys
    → unary_value (InList (map (aligned places) ys)) (aligned places x) ≡ unary_value (InList ys) x
members_aligned p Null ys h all = refl
members_aligned p (Number q m) ys h all = ap Truth (all_sought p q m h ys all)
members_aligned p x ys h all = absurd cc
