-- What an operation gives that may be applied and whose result can be held.
use Rattle.std.proofs.Common.{◌≡◌, ◌≢◌, ℕ, Bool, true, false, List, IsTrue, Option, Some, None, refl}
use Rattle.std.proofs.Common.{ap, sym, subst, ◌∙◌, if◌then◌else◌}
use Rattle.std.specs.Prelude.{option_and_then}
use Rattle.query_values.specs.Held.{checked, is_held}
use Rattle.query_values.specs.Operand.{may_unary, may_binary}
use Rattle.query_values.specs.Operation.{unary_value, binary_value}
use Rattle.query_values.specs.Unary as operation
use Rattle.query_values.specs.declared.value.Value.{Value}
use Rattle.query_code.specs.declared.instruction.Unary.{Unary}
use Rattle.query_code.specs.declared.program.Constant.{Constant}
use Rattle.query_values.specs.declared.operation.Binary.{Binary}
use Rattle.plain_machine.specs.Loading.{unary_of, binary_of}
use Rattle.plain_machine.specs.Pool.{operation_of}
use Rattle.plain_machine.specs.SectionRun.{with_top}
use Rattle.query_sections.specs.Room.{HasRoom}
use Rattle.query_sections.proofs.StepFacts.{top_there}

held_or_none : (b : Bool) (v : Value) → (if b then Some v else None) ≢ None → IsTrue b
held_or_none true v fine = refl
held_or_none false v fine = absurd (fine refl)

some_held : (b : Bool) (v : Value) → (if b then Some v else None) ≢ None
    → (if b then Some v else None) ≡ Some v
some_held true v fine = refl
some_held false v fine = absurd (fine refl)

pub may_be : (may : Bool) (v : Value) → checked may v ≢ None → IsTrue may
may_be true v fine = refl
may_be false v fine = absurd (fine refl)

pub is_held_then : (may : Bool) (v : Value) → checked may v ≢ None → IsTrue (is_held v)
is_held_then true v fine = held_or_none (is_held v) v fine
is_held_then false v fine = absurd (fine refl)

pub checked_is : (may : Bool) (v : Value) → checked may v ≢ None → checked may v ≡ Some v
checked_is true v fine = some_held (is_held v) v fine
checked_is false v fine = absurd (fine refl)

-- what is loaded can be held, where there is room for it
pub loaded_is : (room : ℕ) (x : Option Value) (xs : List Value) (v : Value)
    → HasRoom room (with_top (option_and_then (checked true) x) xs) → x ≡ Some v
    → option_and_then (checked true) x ≡ Some v
loaded_is room x xs v fine is =
    let there : option_and_then (checked true) (Some v) ≢ None =
    subst (λ x. option_and_then (checked true) x ≢ None) is (
    top_there room (option_and_then (checked true) x) xs fine
    ) in
    ap (option_and_then (checked true)) is ∙ checked_is true v there

-- an operation on one value
pub operated : (pool : List Constant) (op : Unary) (o : operation.Unary) (x y : Value)
    → unary_of pool op x ≢ None → operation_of pool op ≡ Some o → y ≡ unary_value o x
    → unary_of pool op x ≡ Some y
operated pool op o x y fine is gives =
    let checked_of : Option operation.Unary → Option Value =
    λ o. option_and_then (λ o. checked (may_unary o x) (unary_value o x)) o in
    let there : checked_of (Some o) ≢ None = subst (λ o. checked_of o ≢ None) is fine in
    ap checked_of is ∙ checked_is (may_unary o x) (unary_value o x) there ∙ ap Some (sym gives)

-- what it asks for
pub operand_may : (pool : List Constant) (op : Unary) (o : operation.Unary) (x : Value)
    → unary_of pool op x ≢ None → operation_of pool op ≡ Some o → IsTrue (may_unary o x)
operand_may pool op o x fine is =
    let checked_of : Option operation.Unary → Option Value =
    λ o. option_and_then (λ o. checked (may_unary o x) (unary_value o x)) o in
    may_be (may_unary o x) (unary_value o x) (subst (λ o. checked_of o ≢ None) is fine)

pub operation_held : (pool : List Constant) (op : Unary) (o : operation.Unary) (x : Value)
    → unary_of pool op x ≢ None → operation_of pool op ≡ Some o
    → IsTrue (is_held (unary_value o x))
operation_held pool op o x fine is =
    let checked_of : Option operation.Unary → Option Value =
    λ o. option_and_then (λ o. checked (may_unary o x) (unary_value o x)) o in
    is_held_then (may_unary o x) (unary_value o x) (subst (λ o. checked_of o ≢ None) is fine)

-- an operation on two values
pub joined : (op o : Binary) (x y z : Value) → binary_of op x y ≢ None → op ≡ o
    → z ≡ binary_value o x y → binary_of op x y ≡ Some z
joined op o x y z fine is gives =
    checked_is (may_binary op x y) (binary_value op x y) fine
    ∙ ap (λ k. Some (binary_value k x y)) is ∙ ap Some (sym gives)

pub operands_may : (op o : Binary) (x y : Value) → binary_of op x y ≢ None → op ≡ o
    → IsTrue (may_binary o x y)
operands_may op o x y fine is =
    subst (λ k. IsTrue (may_binary k x y)) is
    (may_be (may_binary op x y) (binary_value op x y) fine)

pub joined_held : (op o : Binary) (x y : Value) → binary_of op x y ≢ None → op ≡ o
    → IsTrue (is_held (binary_value o x y))
joined_held op o x y fine is =
    subst (λ k. IsTrue (is_held (binary_value k x y))) is
    (is_held_then (may_binary op x y) (binary_value op x y) fine)
