-- Operations of the machine give their values, or none.
use Rattle.std.proofs.Common.{◌≡◌, ◌⊎◌, Bool, true, false, cond, ◌&&◌, ◌||◌, List, Option, Some, None}
use Rattle.std.proofs.Common.{refl, sym, ap, ◌∙◌, inl, inr}
use Rattle.std.specs.Prelude.{option_and_then}
use Rattle.bql_compiler.specs.CoreValue.{and_value, as_truth, or_value}
use Rattle.plain_machine.specs.Loading.{binary_of, unary_of}
use Rattle.plain_machine.specs.Pool.{operation_of}
use Rattle.query_code.specs.declared.instruction.Unary as machine
use Rattle.query_code.specs.declared.program.Constant.{Constant}
use Rattle.query_values.specs.Held.{checked, is_held}
use Rattle.query_values.specs.Operand.{is_truth, may_binary, may_unary}
use Rattle.query_values.specs.Operation.{binary_value, is_true, unary_value}
use Rattle.query_values.specs.Unary as operation
use Rattle.query_values.specs.declared.operation.Binary.{Binary}
use Rattle.query_values.specs.declared.value.Value.{Value}
use Rattle.query_values.specs.declared.value.Value.TheVariants.{Truth}
use Rattle.bql_compiler.specs.Reads.{IsOrNone}

pub one_value : (x v : Value) → Some x ≡ Some v → x ≡ v
one_value x v e = cc

pub nothing : (o : Option Value) (x : Value) → o ≡ None → IsOrNone o x
nothing o x e v f = absurd (apart (sym e ∙ f))
  where
    apart : None ≡ Some v → ⊥
    apart e = cc

pub just : (o : Option Value) (x : Value) → o ≡ Some x → IsOrNone o x
just o x e v f = one_value x v (sym e ∙ f)

pub as_is : (o p : Option Value) (x : Value) → p ≡ o → IsOrNone o x → IsOrNone p x
as_is o p x e h v f = h v (sym e ∙ f)

-- of another value that is the same
pub of_equal : (o : Option Value) (x y : Value) → x ≡ y → IsOrNone o x → IsOrNone o y
of_equal o x y e h v f = sym e ∙ h v f

-- by what it is made of
pub by_first : (o : Option Value) (x : Value) (f : Value → Option Value) (y : Value)
    → IsOrNone o x → ((a : Value) → x ≡ a → IsOrNone (f a) y) → IsOrNone (option_and_then f o) y
by_first None x f y h k v e = cc
by_first (Some a) x f y h k v e = k a (h a refl) v e

-- what is checked: it may be asked for, and is what it is
pub of_checked : (may : Bool) (x v : Value) → checked may x ≡ Some v → (may ≡ true) × (x ≡ v)
of_checked may x v e = by may (is_held x) refl e
  where
    by : (m h : Bool) → m ≡ may → cond (m && h) (Some x) None ≡ Some v → (may ≡ true) × (x ≡ v)
    by true true is e = (sym is, one_value x v e)
    by true false is e = cc
    by false h is e = cc

pub pushed : (o : Option Value) (x : Value) → IsOrNone o x
    → IsOrNone (option_and_then (checked true) o) x
pushed o x h =
    by_first o x (checked true) x h (λ a is v e. is ∙ (of_checked true a v e).1)

module _ (pool : List Constant) where
  pub unary_step : (u : machine.Unary) (op : operation.Unary) (o : Option Value) (x : Value)
      → (operation_of pool u ≡ None) ⊎ (operation_of pool u ≡ Some op) → IsOrNone o x
      → IsOrNone (option_and_then (unary_of pool u) o) (unary_value op x)
  unary_step u op o x is h =
      by_first o x (unary_of pool u) (unary_value op x) h (λ a e v f. ap (unary_value op) e ∙ by a v is f)
    where
      by : (a v : Value) → (operation_of pool u ≡ None) ⊎ (operation_of pool u ≡ Some op)
          → unary_of pool u a ≡ Some v → unary_value op a ≡ v
      by a v (inl none) f =
          absurd (apart (sym (ap (option_and_then (λ o. checked (may_unary o a) (unary_value o a))) none)
          ∙ f))
        where
          apart : None ≡ Some v → ⊥
          apart e = cc
      by a v (inr some) f =
          (of_checked (may_unary op a) (unary_value op a) v
          (sym (ap (option_and_then (λ o. checked (may_unary o a) (unary_value o a))) some) ∙ f)).1

  pub plain_step : (u : machine.Unary) (op : operation.Unary) (o : Option Value) (x : Value)
      → operation_of pool u ≡ Some op → IsOrNone o x
      → IsOrNone (option_and_then (unary_of pool u) o) (unary_value op x)
  plain_step u op o x is h = unary_step u op o x (inr is) h

pub binary_step : (op : Binary) (o p : Option Value) (x y : Value) → IsOrNone o x → IsOrNone p y
    → IsOrNone (option_and_then (λ a. option_and_then (binary_of op a) p) o) (binary_value op x y)
binary_step op o p x y h k =
    by_first o x (λ a. option_and_then (binary_of op a) p) (binary_value op x y) h
    (λ a is. by_first p y (binary_of op a) (binary_value op x y) k
    (λ c at v e. (λ i. binary_value op (is i) (at i))
    ∙ (of_checked (may_binary op a c) (binary_value op a c) v e).1))

-- ---- AND and OR

truth_step : (a : Value) → IsOrNone (as_truth a) (Truth (is_true a))
truth_step a v e = by (is_truth a) e
  where
    by : (t : Bool) → cond t (Some (Truth (is_true a))) None ≡ Some v → Truth (is_true a) ≡ v
    by true e = one_value (Truth (is_true a)) v e
    by false e = cc

second_step : (p : Option Value) (y : Value) → IsOrNone p y
    → IsOrNone (option_and_then as_truth p) (Truth (is_true y))
second_step p y k =
    by_first p y as_truth (Truth (is_true y)) k
    (λ a is v e. ap (λ x. Truth (is_true x)) is ∙ truth_step a v e)

pub and_step : (o p : Option Value) (x y : Value) → IsOrNone o x → IsOrNone p y
    → IsOrNone (option_and_then (and_value p) o) (Truth (is_true x && is_true y))
and_step o p x y h k =
    by_first o x (and_value p) (Truth (is_true x && is_true y)) h
    (λ a is v e. ap (λ z. Truth (is_true z && is_true y)) is ∙ by a v (is_truth a) (is_true a) e)
  where
    by : (a v : Value) (t u : Bool)
        → cond t (cond u (option_and_then as_truth p) (Some (Truth false))) None ≡ Some v
        → Truth (u && is_true y) ≡ v
    by a v true true e = second_step p y k v e
    by a v true false e = one_value (Truth false) v e
    by a v false u e = cc

pub or_step : (o p : Option Value) (x y : Value) → IsOrNone o x → IsOrNone p y
    → IsOrNone (option_and_then (or_value p) o) (Truth (is_true x || is_true y))
or_step o p x y h k =
    by_first o x (or_value p) (Truth (is_true x || is_true y)) h
    (λ a is v e. ap (λ z. Truth (is_true z || is_true y)) is ∙ by a v (is_truth a) (is_true a) e)
  where
    by : (a v : Value) (t u : Bool)
        → cond t (cond u (Some (Truth true)) (option_and_then as_truth p)) None ≡ Some v
        → Truth (u || is_true y) ≡ v
    by a v true true e = one_value (Truth true) v e
    by a v true false e = second_step p y k v e
    by a v false u e = cc
