-- Numbers that are brought to more decimals where the machine wants equal ones give what they give as
-- they are, or nothing.
use Rattle.std.proofs.Common.{◌≡◌, ℕ, ℤ, pos, ◌-◌, ◌^◌, ◌*ℤ◌, ◌≤◌, ◌<◌, max, Bool, true, false, cond}
use Rattle.std.proofs.Common.{◌&&◌, List, Option, Some, None, refl, sym, ap, ◌∙◌, arith}
use Rattle.std.proofs.lemmas.Int.{ints}
use Rattle.std.proofs.lemmas.Bool.{eqb-true, leb-true, ltb-true}
use Rattle.std.specs.Prelude.{nat_lt, option_and_then}
use Rattle.std.specs.Int.RustNames.{unsigned_abs}
use Rattle.bql_code.specs.Core.{Core, changing, plainly}
use Rattle.bql_lowering.specs.Lowered.{joined}
use Rattle.bql_meaning.proofs.AlignmentFacts.{alike}
use Rattle.bql_meaning.specs.Alignment.{is_aligned}
use Rattle.bql_compiler.specs.CoreValue.{core_value}
use Rattle.plain_machine.specs.Loading.{Loads, binary_of, unary_of}
use Rattle.query_code.specs.declared.instruction.Unary.TheVariants as machine
use Rattle.query_code.specs.declared.program.Constant.{Constant}
use Rattle.query_rows.specs.Shape.{LiesIn}
use Rattle.query_rows.specs.declared.shape.Shape.TheVariants as shape
use Rattle.query_values.specs.Arithmetic.{aligned}
use Rattle.query_values.specs.Operand.{are_alike, has_at_most, is_compared, is_number}
use Rattle.query_values.specs.Operand.{is_ordered, may_binary}
use Rattle.query_values.specs.Operation.{binary_value}
use Rattle.query_values.specs.declared.operation.Binary.{Binary}
use Rattle.query_values.specs.declared.operation.Binary.TheVariants as binary
use Rattle.query_values.specs.declared.value.Value.{Value}
use Rattle.query_values.specs.declared.value.Value.TheVariants.{Null, Number}
use Rattle.bql_compiler.specs.Reads.{IsOrNone}
use Rattle.bql_compiler.proofs.StepFacts.{binary_step, of_checked}

third : (a b c : Bool) → (a && b && c) ≡ true → c ≡ true
third true true c e = e
third true false c e = cc
third false b c e = cc

-- what is brought to equal decimals has them
are_like : (op : Binary) → is_aligned op ≡ true → (x y : Value) → may_binary op x y ≡ true
    → are_alike x y ≡ true
are_like binary.Add is x y e = third (is_number x) (is_number y) (are_alike x y) e
are_like binary.Sub is x y e = third (is_number x) (is_number y) (are_alike x y) e
are_like binary.Equal is x y e = third (is_compared x) (is_compared y) (are_alike x y) e
are_like binary.NotEqual is x y e = third (is_compared x) (is_compared y) (are_alike x y) e
are_like binary.Less is x y e = third (is_ordered x) (is_ordered y) (are_alike x y) e
are_like binary.AtMost is x y e = third (is_ordered x) (is_ordered y) (are_alike x y) e
are_like binary.Greater is x y e = third (is_ordered x) (is_ordered y) (are_alike x y) e
are_like binary.AtLeast is x y e = third (is_ordered x) (is_ordered y) (are_alike x y) e
are_like binary.Mul is x y e = cc
are_like binary.InSet is x y e = cc

one : (m : ℤ) → m *ℤ pos 1 ≡ m
one m = omega (arith, ints)

-- a number that has the decimals already
pub as_it_was : (p : ℕ) (m : ℤ) → aligned p (Number p m) ≡ Number p m
as_it_was p m =
    let none : p - p ≡ 0 = omega arith in
    ap (Number p) (ap (λ k. m *ℤ pos (10 ^ k)) none ∙ one m)

lies : (p : ℕ) (m : ℤ) → LiesIn (Number p m) (shape.Number p (unsigned_abs m))
lies p m = (refl, omega arith)

greater : (p q : ℕ) → p ≤ q → max p q ≡ q
greater p q h = omega (arith, h)

lesser : (p q : ℕ) → p ≤ q → max q p ≡ q
lesser p q h = omega (arith, h)

-- ---- one of two

left_number : (op : Binary) → is_aligned op ≡ true → (r p : ℕ) (m : ℤ) → p ≤ r → (y : Value)
    → are_alike (aligned r (Number p m)) y ≡ true
    → binary_value op (aligned r (Number p m)) y ≡ binary_value op (Number p m) y
left_number op is r p m few Null e =
    ap (λ k. binary_value op (aligned k (Number p m)) Null) (sym (greater p r few))
    ∙ alike op is p r (unsigned_abs m) 0 (Number p m) Null (lies p m) tt
left_number op is r p m few (Number q n) e =
    let same : r ≡ q = eqb-true r q e in
    ap (λ z. binary_value op (aligned r (Number p m)) z)
    (sym (as_it_was q n) ∙ ap (λ k. aligned k (Number q n)) (sym same))
    ∙ ap (λ k. binary_value op (aligned k (Number p m)) (aligned k (Number q n)))
    (sym (greater p r few) ∙ ap (max p) same)
    ∙ alike op is p q (unsigned_abs m) (unsigned_abs n) (Number p m) (Number q n) (lies p m) (lies q n)
left_number op is r p m few y e = absurd cc

left_aligned : (op : Binary) → is_aligned op ≡ true → (r : ℕ) (x y : Value)
    → has_at_most r x ≡ true → are_alike (aligned r x) y ≡ true
    → binary_value op (aligned r x) y ≡ binary_value op x y
left_aligned op is r Null y h e = refl
left_aligned op is r (Number p m) y h e = left_number op is r p m (leb-true p r h) y e
left_aligned op is r x y h e = absurd cc

right_number : (op : Binary) → is_aligned op ≡ true → (r q : ℕ) (n : ℤ) → q ≤ r → (x : Value)
    → are_alike x (aligned r (Number q n)) ≡ true
    → binary_value op x (aligned r (Number q n)) ≡ binary_value op x (Number q n)
right_number op is r q n few Null e =
    ap (λ k. binary_value op Null (aligned k (Number q n))) (sym (lesser q r few))
    ∙ alike op is r q 0 (unsigned_abs n) Null (Number q n) tt (lies q n)
right_number op is r q n few (Number p m) e =
    let same : p ≡ r = eqb-true p r e in
    ap (λ z. binary_value op z (aligned r (Number q n)))
    (sym (as_it_was p m) ∙ ap (λ k. aligned k (Number p m)) same)
    ∙ ap (λ k. binary_value op (aligned k (Number p m)) (aligned k (Number q n)))
    (sym (lesser q r few) ∙ ap (λ k. max k q) (sym same))
    ∙ alike op is p q (unsigned_abs m) (unsigned_abs n) (Number p m) (Number q n) (lies p m) (lies q n)
right_number op is r q n few x e = absurd cc

right_aligned : (op : Binary) → is_aligned op ≡ true → (r : ℕ) (x y : Value)
    → has_at_most r y ≡ true → are_alike x (aligned r y) ≡ true
    → binary_value op x (aligned r y) ≡ binary_value op x y
right_aligned op is r x Null h e = refl
right_aligned op is r x (Number q n) h e = right_number op is r q n (leb-true q r h) x e
right_aligned op is r x y h e = absurd cc

-- ---- operations over both

module _ (pool : List Constant) (l : Loads) where
  -- what the machine brings to so many decimals
  pub align_step : (r : ℕ) (a v : Value) → unary_of pool (machine.Align r) a ≡ Some v
      → (has_at_most r a ≡ true) × (aligned r a ≡ v)
  align_step r a v e = of_checked (has_at_most r a) (aligned r a) v e

  left_step : (op : Binary) → is_aligned op ≡ true → (r : ℕ) (o p : Option Value) (x y : Value)
      → IsOrNone o x → IsOrNone p y
      → IsOrNone (option_and_then (λ a. option_and_then (binary_of op a) p)
      (option_and_then (unary_of pool (machine.Align r)) o)) (binary_value op x y)
  left_step op is r None p x y h k v e = cc
  left_step op is r (Some a) p x y h k v e = by (unary_of pool (machine.Align r) a) refl p k e
    where
      by : (o : Option Value) → unary_of pool (machine.Align r) a ≡ o → (p : Option Value)
          → IsOrNone p y
          → option_and_then (λ a. option_and_then (binary_of op a) p) o ≡ Some v
          → binary_value op x y ≡ v
      by None eo p k e = cc
      by (Some z) eo None k e = cc
      by (Some z) eo (Some c) k e =
          let s = align_step r a z eo in
          let t = of_checked (may_binary op z c) (binary_value op z c) v e in
          (λ i. binary_value op (h a refl i) (k c refl i))
          ∙ sym (left_aligned op is r a c s.0
          (ap (λ w. are_alike w c) s.1 ∙ are_like op is z c t.0))
          ∙ ap (λ w. binary_value op w c) s.1 ∙ t.1

  right_step : (op : Binary) → is_aligned op ≡ true → (r : ℕ) (o p : Option Value) (x y : Value)
      → IsOrNone o x → IsOrNone p y
      → IsOrNone (option_and_then (λ a. option_and_then (binary_of op a)
      (option_and_then (unary_of pool (machine.Align r)) p)) o) (binary_value op x y)
  right_step op is r None p x y h k v e = cc
  right_step op is r (Some a) None x y h k v e = cc
  right_step op is r (Some a) (Some c) x y h k v e = by (unary_of pool (machine.Align r) c) refl e
    where
      by : (o : Option Value) → unary_of pool (machine.Align r) c ≡ o
          → option_and_then (binary_of op a) o ≡ Some v
          → binary_value op x y ≡ v
      by None eo e = cc
      by (Some z) eo e =
          let s = align_step r c z eo in
          let t = of_checked (may_binary op a z) (binary_value op a z) v e in
          (λ i. binary_value op (h a refl i) (k c refl i))
          ∙ sym (right_aligned op is r a c s.0
          (ap (λ w. are_alike a w) s.1 ∙ are_like op is a z t.0))
          ∙ ap (λ w. binary_value op a w) s.1 ∙ t.1

  numbers_step : (op : Binary) → is_aligned op ≡ true → (p q : ℕ) (x y : Core) (u w : Value)
      → IsOrNone (core_value pool l x) u → IsOrNone (core_value pool l y) w
      → IsOrNone (core_value pool l (joined op (Some p) (Some q) x y)) (binary_value op u w)
  numbers_step op is p q x y u w h k =
      by (nat_lt p (max p q)) refl (nat_lt q (max p q)) refl
    where
      by : (less : Bool) → nat_lt p (max p q) ≡ less → (fewer : Bool) → nat_lt q (max p q) ≡ fewer
          → IsOrNone (option_and_then (λ a. option_and_then (binary_of op a)
          (core_value pool l (cond fewer (changing (plainly (machine.Align (max p q))) y) y)))
          (core_value pool l (cond less (changing (plainly (machine.Align (max p q))) x) x)))
          (binary_value op u w)
      by false e false f = binary_step op (core_value pool l x) (core_value pool l y) u w h k
      by true e false f =
          left_step op is (max p q) (core_value pool l x) (core_value pool l y) u w h k
      by false e true f =
          right_step op is (max p q) (core_value pool l x) (core_value pool l y) u w h k
      by true e true f =
          absurd (neither (ltb-true p (max p q) e) (ltb-true q (max p q) f))
        where
          neither : p < max p q → q < max p q → ⊥
          neither g h = omega (arith, g, h)

  pub joined_step : (op : Binary) → is_aligned op ≡ true → (p q : Option ℕ) (x y : Core)
      (u w : Value) → IsOrNone (core_value pool l x) u → IsOrNone (core_value pool l y) w
      → IsOrNone (core_value pool l (joined op p q x y)) (binary_value op u w)
  joined_step op is (Some p) (Some q) x y u w h k = numbers_step op is p q x y u w h k
  joined_step op is (Some p) None x y u w h k =
      binary_step op (core_value pool l x) (core_value pool l y) u w h k
  joined_step op is None q x y u w h k =
      binary_step op (core_value pool l x) (core_value pool l y) u w h k
