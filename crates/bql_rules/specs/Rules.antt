-- The shapes that the operations of a query give.
use Rattle.std.specs.Prelude.{ℕ, ◌&&◌, Bool, true, false, max, List, [], ◌∷◌}
use Rattle.std.specs.Prelude.{fold, Option, Some, None, Ok, Err, if◌then◌else◌}
use Rattle.std.specs.Int.RustNames.{unsigned_abs}
use Rattle.std.specs.List.{list_all}
use Rattle.std.specs.Result.{is_ok}
use Rattle.limits.specs.declared.bounds.Bounds.{Bounds}
use Rattle.bql_tree.specs.declared.function.Function.{Function}
use Rattle.bql_tree.specs.declared.function.Function.TheVariants as function
use Rattle.bql_tree.specs.declared.tree.BinaryOperator.{BinaryOperator}
use Rattle.bql_tree.specs.declared.tree.BinaryOperator.TheVariants as binary
use Rattle.bql_tree.specs.declared.tree.Leaf.{Leaf}
use Rattle.bql_tree.specs.declared.tree.Leaf.TheVariants as leaf
use Rattle.bql_tree.specs.declared.tree.UnaryOperator.{UnaryOperator}
use Rattle.bql_tree.specs.declared.tree.UnaryOperator.TheVariants as unary
use Rattle.bql_rules.specs.declared.operators.Operation.{Operation}
use Rattle.bql_rules.specs.declared.operators.Operation.TheVariants.{Or, And, Aligned, Plain}
use Rattle.query_terms.specs.Column.{is_in}
use Rattle.query_rows.specs.ColumnShape.{column_shape}
use Rattle.query_rows.specs.Rules as machine
use Rattle.query_rows.specs.Rules.{Ruled}
use Rattle.query_rows.specs.declared.shape.Misfit.TheVariants.{Kind, TooWide}
use Rattle.query_rows.specs.declared.shape.Shape.{Shape}
use Rattle.query_rows.specs.declared.shape.Shape.TheVariants.{Truth, Text, Day, Number}
use Rattle.query_rows.specs.declared.shape.Shape.TheVariants.{Amount}
use Rattle.query_values.specs.declared.operation.Aggregate.{Aggregate}
use Rattle.query_values.specs.declared.operation.Aggregate.TheVariants as aggregate
use Rattle.query_values.specs.declared.operation.Binary as operation
use Rattle.query_values.specs.declared.operation.Binary.TheVariants as operations

-- ---- leaves

-- a NULL has no shape of its own, and a column that the schema doesn't know has none
abbrev pub leaf_shape : Bounds → Leaf → Ruled
leaf_shape b (leaf.Column c) = if is_in b.schema c then Ok (column_shape b c) else Err Kind
leaf_shape b leaf.Null = Err Kind
leaf_shape b (leaf.Number n) = Ok (Number n.places (unsigned_abs n.count))
leaf_shape b (leaf.TooWide digits) = Err TooWide
leaf_shape b (leaf.Text t) = Ok Text
leaf_shape b (leaf.Day d) = Ok Day
leaf_shape b (leaf.Truth t) = Ok Truth
leaf_shape b leaf.Rows = Ok (machine.whole b.postings)
leaf_shape b (leaf.Meta e k) = Ok Text
leaf_shape b (leaf.HasAccount p) = Ok Truth

-- ---- operators

abbrev pub unary_shape : UnaryOperator → Shape → Ruled
unary_shape unary.Not s = machine.of_truth Truth s
unary_shape unary.Minus s = machine.negated s
unary_shape (unary.Matches pattern) s = machine.of_text Truth s
unary_shape (unary.Root n) s = machine.of_text Text s

abbrev pub of_truths : Shape → Shape → Ruled
of_truths Truth Truth = Ok Truth
of_truths s t = Err Kind

abbrev pub of_both : operation.Binary → Ruled → Ruled → Ruled
of_both op (Ok s) (Ok t) = machine.binary_shape op s t
of_both op (Ok s) (Err e) = Err e
of_both op (Err e) t = Err e

-- what the machine gives, where two numbers are first brought to the greater count of decimals
abbrev pub by_machine : operation.Binary → Shape → Shape → Ruled
by_machine op (Number p m) (Number q n) =
    of_both op (machine.aligned (max p q) (Number p m)) (machine.aligned (max p q) (Number q n))
by_machine op s t = machine.binary_shape op s t

-- what the machine does for an operator between two values
abbrev pub operation_of : BinaryOperator → Operation
operation_of binary.Or = Or
operation_of binary.And = And
operation_of binary.Equal = Aligned operations.Equal
operation_of binary.NotEqual = Aligned operations.NotEqual
operation_of binary.Less = Aligned operations.Less
operation_of binary.LessOrEqual = Aligned operations.AtMost
operation_of binary.Greater = Aligned operations.Greater
operation_of binary.GreaterOrEqual = Aligned operations.AtLeast
operation_of binary.In = Plain operations.InSet
operation_of binary.Plus = Aligned operations.Add
operation_of binary.Minus = Aligned operations.Sub
operation_of binary.Times = Plain operations.Mul

abbrev pub operation_shape : Operation → Shape → Shape → Ruled
operation_shape Or s t = of_truths s t
operation_shape And s t = of_truths s t
operation_shape (Aligned op) s t = by_machine op s t
operation_shape (Plain op) s t = machine.binary_shape op s t

abbrev pub binary_shape : BinaryOperator → Shape → Shape → Ruled
binary_shape op s t = operation_shape (operation_of op) s t

-- ---- functions of one argument

-- numbers are summed to a number, all else to an inventory
abbrev pub sum_over : Shape → Aggregate
sum_over (Number p m) = aggregate.Sum p
sum_over (Amount p m) = aggregate.SumInventory p
sum_over s = aggregate.SumInventory 8

abbrev pub summing : Option Shape → Aggregate
summing (Some s) = sum_over s
summing None = aggregate.SumInventory 8

-- the aggregate that a function is, over values of one shape, or of none
abbrev pub aggregate_for : Function → Option Shape → Option Aggregate
aggregate_for function.Count s = Some aggregate.Count
aggregate_for function.Sum s = Some (summing s)
aggregate_for function.First s = Some aggregate.First
aggregate_for function.Last s = Some aggregate.Last
aggregate_for function.Min s = Some aggregate.Min
aggregate_for function.Max s = Some aggregate.Max
aggregate_for f s = None

abbrev pub gathered_by : Option Aggregate → ℕ → Shape → Ruled
gathered_by (Some a) n s = machine.aggregate_shape n a (Some s)
gathered_by None n s = Err Kind

abbrev pub gathered : ℕ → Function → Shape → Ruled
gathered n f s = gathered_by (aggregate_for f (Some s)) n s

abbrev pub of_one : ℕ → Function → Shape → Ruled
of_one n function.Parent s = machine.of_text Text s
of_one n function.Leaf s = machine.of_text Text s
of_one n function.Length s = machine.length_of s
of_one n function.Units s = machine.units_of s
of_one n function.Cost s = machine.cost_of s
of_one n function.Year s = machine.of_day (machine.whole 9999) s
of_one n function.Month s = machine.of_day (machine.whole 12) s
of_one n function.Day s = machine.of_day (machine.whole 31) s
of_one n function.Number s = machine.number_of s
of_one n function.Currency s = machine.currency_of s
of_one n function.Abs s = machine.magnitude_of s
of_one n function.RootRank s = machine.of_text (machine.whole 5) s
of_one n f s = gathered n f s

-- ---- IN with a list

-- both texts, both days or both numbers
abbrev pub are_alike : Shape → Shape → Bool
are_alike Text Text = true
are_alike Day Day = true
are_alike (Number p m) (Number q n) = true
are_alike s t = false

abbrev pub places_of : Shape → ℕ
places_of (Number p m) = p
places_of s = 0

-- a number may be brought to so many decimals
abbrev pub is_held_with : ℕ → Shape → Bool
is_held_with places (Number p m) = is_ok (machine.aligned places (Number p m))
is_held_with places s = true

abbrev pub greatest_places : Shape → List Shape → ℕ
greatest_places s ss = fold (λ most t. max most (places_of t)) (places_of s) ss

-- what is looked for and the members are of one kind; numbers are brought to the greatest count of
-- decimals
abbrev pub one_of : Shape → List Shape → Ruled
one_of s ss =
    if are_alike s s && list_all (are_alike s) ss
    then (if list_all (is_held_with (greatest_places s ss)) (s ∷ ss) then Ok Truth
    else Err TooWide)
    else Err Kind

-- what is looked for stands first
abbrev pub listed : List Shape → Ruled
listed [] = Err Kind
listed (s ∷ ss) = one_of s ss

-- ---- calls

abbrev pub single : ℕ → Function → List Shape → Ruled
single n f [] = Err Kind
single n f (s ∷ []) = of_one n f s
single n f (s ∷ t ∷ ss) = Err Kind

abbrev pub call_shape : Bounds → Function → List Shape → Ruled
call_shape b function.OneOf ss = listed ss
call_shape b f ss = single b.postings f ss
