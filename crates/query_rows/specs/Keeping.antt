-- What shapes promise of operations.
use Rattle.std.specs.Prelude.{◌≡◌, ℕ, ◌≤◌, true, List, length, Option, Some, None, Ok, Err}
use Rattle.std.specs.List.{AllByRecursion}
use Rattle.query_values.specs.Aggregate.{aggregate_of, may_take}
use Rattle.query_values.specs.Held.{checked}
use Rattle.query_values.specs.Operand.{may_unary, may_binary}
use Rattle.query_values.specs.Operation.{unary_value, binary_value}
use Rattle.query_values.specs.Unary as unary
use Rattle.query_values.specs.declared.operation.Aggregate.{Aggregate}
use Rattle.query_values.specs.declared.operation.Aggregate.TheVariants.{CountRows}
use Rattle.query_values.specs.declared.operation.Binary.{Binary}
use Rattle.query_values.specs.declared.value.Value.{Value}
use Rattle.query_rows.specs.Rules.{Ruled, unary_shape, binary_shape, aggregate_shape}
use Rattle.query_rows.specs.Shape.{LiesIn, IsBelow, joined}
use Rattle.query_rows.specs.declared.shape.Shape.{Shape}

-- where there is a shape, there is a value, and it is of that shape
abbrev pub Has : Option Value → Ruled → Type 0
Has x (Err e) = Unit {0}
Has None (Ok s) = ⊥
Has (Some x) (Ok s) = LiesIn x s

-- An operation that gives a shape may be applied to all values of its operands' shapes, and its
-- value can be held and is of that shape.
pub record KeepShapes : Type 0 where
  pub unary : (op : unary.Unary) (x : Value) (s : Shape) → LiesIn x s
      → Has (checked (may_unary op x) (unary_value op x)) (unary_shape op s)
  pub binary : (op : Binary) (x y : Value) (s t : Shape) → LiesIn x s → LiesIn y t
      → Has (checked (may_binary op x y) (binary_value op x y)) (binary_shape op s t)

-- where the greater has a shape, so has the lesser, and it is below
abbrev pub Under : Ruled → Ruled → Type 0
Under a (Err e) = Unit {0}
Under (Err e) (Ok t) = ⊥
Under (Ok s) (Ok t) = IsBelow s t

-- Of shapes that are below others an operation gives one below.
pub record AreMonotone : Type 0 where
  pub unary : (op : unary.Unary) (s t : Shape) → IsBelow s t
      → Under (unary_shape op s) (unary_shape op t)
  pub binary : (op : Binary) (s t u v : Shape) → IsBelow s t → IsBelow u v
      → Under (binary_shape op s u) (binary_shape op t v)

-- Being below is an order, what is of a shape is of each above it, and what two join to is the
-- least above both.
pub record AreOrdered : Type 0 where
  pub reflexive : (s : Shape) → IsBelow s s
  pub transitive : (s t u : Shape) → IsBelow s t → IsBelow t u → IsBelow s u
  pub keeps : (x : Value) (s t : Shape) → LiesIn x s → IsBelow s t → LiesIn x t
  pub above : (s t u : Shape) → joined s t ≡ Some u → IsBelow s u × IsBelow t u
  pub least : (s t d : Shape) → IsBelow s d → IsBelow t d
      → (u : Shape) × (joined s t ≡ Some u) × IsBelow u d

abbrev pub AllIn : Shape → List Value → Type 0
AllIn s xs = AllByRecursion (λ x. LiesIn x s) xs

-- What is gathered over at most n values can be held and is of the shape that is given, and each
-- value more may be gathered; of lesser shapes, and of fewer values, a lesser shape is given.
pub record GatherShapes : Type 0 where
  pub rows : (n : ℕ) (xs : List Value) → length xs ≤ n
      → Has (checked true (aggregate_of CountRows xs)) (aggregate_shape n CountRows None)
  pub values : (a : Aggregate) (n : ℕ) (s : Shape) (xs : List Value) → length xs ≤ n → AllIn s xs
      → Has (checked true (aggregate_of a xs)) (aggregate_shape n a (Some s))
  pub takes : (a : Aggregate) (n : ℕ) (s t : Shape) (xs : List Value) (x : Value)
      → aggregate_shape n a (Some s) ≡ Ok t → AllIn s xs → LiesIn x s
      → may_take a (aggregate_of a xs) x ≡ true
  pub monotone : (a : Aggregate) (n m : ℕ) (s t : Shape) → n ≤ m → IsBelow s t
      → Under (aggregate_shape n a (Some s)) (aggregate_shape m a (Some t))
