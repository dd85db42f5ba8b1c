-- Numbers that are brought to the greater count of decimals first. They give the same, so nothing
-- is said of it where expressions are given their values.
use Rattle.std.specs.Prelude.{◌≡◌, ℕ, max, Bool, true, false, List, map}
use Rattle.std.specs.List.{AllByRecursion}
use Rattle.query_rows.specs.Shape.{LiesIn}
use Rattle.query_rows.specs.declared.shape.Shape.TheVariants.{Number}
use Rattle.query_values.specs.Arithmetic.{aligned}
use Rattle.query_values.specs.Operand.{has_at_most}
use Rattle.query_values.specs.Operation.{unary_value, binary_value}
use Rattle.query_values.specs.Unary.{InList}
use Rattle.query_values.specs.declared.operation.Binary.{Binary}
use Rattle.query_values.specs.declared.operation.Binary.TheVariants as binary
use Rattle.query_values.specs.declared.value.Value.{Value}

-- what numbers are brought to the greater count of decimals for
abbrev pub is_aligned : Binary → Bool
is_aligned binary.Mul = false
is_aligned binary.InSet = false
is_aligned op = true

-- numbers and nulls give what they give as they are
abbrev pub AlignmentsChangeNothing : Type 0
AlignmentsChangeNothing = (op : Binary) → is_aligned op ≡ true → (p q m n : ℕ) (x y : Value)
    → LiesIn x (Number p m) → LiesIn y (Number q n)
    → binary_value op (aligned (max p q) x) (aligned (max p q) y) ≡ binary_value op x y

-- and so do a number and the list in which it is looked for
abbrev pub MembersMayBeAligned : Type 0
MembersMayBeAligned = (places : ℕ) (x : Value) (ys : List Value) → has_at_most places x ≡ true
    → AllByRecursion (λ y. has_at_most places y ≡ true) ys
    → unary_value (InList (map (aligned places) ys)) (aligned places x) ≡ unary_value (InList ys) x
