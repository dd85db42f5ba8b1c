-- The value of an expression over some rows: a group, or one row alone. Columns and metadata are
-- those of the first row, aggregates gather over all. What has no type is null.
use Rattle.std.specs.Prelude.{ℕ, ◌&&◌, ◌||◌, false, List, [], ◌∷◌, map}
use Rattle.std.specs.Prelude.{if◌then◌else◌}
use Rattle.limits.specs.declared.bounds.Bounds.{Bounds}
use Rattle.bql_tree.specs.Tree.{Operation, leaf_of, one_of, two_of, call_of, Tree, node, Trees}
use Rattle.bql_tree.specs.Tree.{no_trees, trees}
use Rattle.bql_tree.specs.declared.function.Function.{Function}
use Rattle.bql_tree.specs.declared.function.Function.TheVariants as function
use Rattle.bql_tree.specs.declared.tree.BinaryOperator.{BinaryOperator}
use Rattle.bql_tree.specs.declared.tree.BinaryOperator.TheVariants as binary
use Rattle.bql_tree.specs.declared.tree.Leaf.{Leaf}
use Rattle.bql_tree.specs.declared.tree.Leaf.TheVariants as leaf
use Rattle.bql_tree.specs.declared.tree.UnaryOperator.{UnaryOperator}
use Rattle.bql_tree.specs.declared.tree.UnaryOperator.TheVariants as unary
use Rattle.bql_types.specs.Gathered.{aggregate_by}
use Rattle.bql_types.specs.Shaped.{shapes_of}
use Rattle.bql_types.specs.Sought.{is_aggregate}
use Rattle.query_terms.specs.declared.column.Column.TheVariants as column
use Rattle.query_values.specs.Aggregate.{aggregate_of}
use Rattle.query_values.specs.Operation.{is_true, unary_value, binary_value}
use Rattle.query_values.specs.Unary as operation
use Rattle.query_values.specs.declared.operation.Binary.TheVariants as operations
use Rattle.query_values.specs.declared.value.Value.{Value}
use Rattle.query_values.specs.declared.value.Value.TheVariants.{Null, Truth, Number, Text, Day}
use Rattle.bql_meaning.specs.Reading.{Reading, cell, text, at_first}

-- ---- what is no aggregate

abbrev pub leaf_value : Leaf → List Reading → Value
leaf_value (leaf.Column c) rows = at_first (cell c) rows
leaf_value leaf.Null rows = Null
leaf_value (leaf.Number n) rows = Number n.places n.count
leaf_value (leaf.TooWide digits) rows = Null
leaf_value (leaf.Text t) rows = Text t
leaf_value (leaf.Day d) rows = Day d
leaf_value (leaf.Truth b) rows = Truth b
leaf_value leaf.Rows rows = Null
leaf_value (leaf.Meta e key) rows = at_first (λ r. text e key r.row) rows
leaf_value (leaf.HasAccount pattern) rows =
    unary_value (operation.MatchAny pattern) (at_first (cell column.Accounts) rows)

abbrev pub one_value : UnaryOperator → Value → Value
one_value unary.Not x = unary_value operation.Not x
one_value unary.Minus x = unary_value operation.Neg x
one_value (unary.Matches pattern) x = unary_value (operation.Match pattern) x
one_value (unary.Root n) x = unary_value (operation.Root n) x

-- OR and AND take null as false; NULL is a value like others to = and !=
abbrev pub two_value : BinaryOperator → Value → Value → Value
two_value binary.Or x y = Truth (is_true x || is_true y)
two_value binary.And x y = Truth (is_true x && is_true y)
two_value binary.Equal x y = binary_value operations.Equal x y
two_value binary.NotEqual x y = binary_value operations.NotEqual x y
two_value binary.Less x y = binary_value operations.Less x y
two_value binary.LessOrEqual x y = binary_value operations.AtMost x y
two_value binary.Greater x y = binary_value operations.Greater x y
two_value binary.GreaterOrEqual x y = binary_value operations.AtLeast x y
two_value binary.In x y = binary_value operations.InSet x y
two_value binary.Plus x y = binary_value operations.Add x y
two_value binary.Minus x y = binary_value operations.Sub x y
two_value binary.Times x y = binary_value operations.Mul x y

abbrev pub of_one : Function → Value → Value
of_one function.Parent x = unary_value operation.Parent x
of_one function.Leaf x = unary_value operation.Leaf x
of_one function.Length x = unary_value operation.Length x
of_one function.Units x = unary_value operation.Units x
of_one function.Cost x = unary_value operation.Cost x
of_one function.Year x = unary_value operation.Year x
of_one function.Month x = unary_value operation.Month x
of_one function.Day x = unary_value operation.Day x
of_one function.Number x = unary_value operation.Number x
of_one function.Currency x = unary_value operation.Currency x
of_one function.Abs x = unary_value operation.Abs x
of_one function.RootRank x = unary_value operation.RootRank x
of_one f x = Null

abbrev pub call_value : Function → List Value → Value
call_value function.OneOf (x ∷ ys) = unary_value (operation.InList ys) x
call_value f (x ∷ []) = of_one f x
call_value f xs = Null

-- over the values of its parts
abbrev pub applied : Operation → List Reading → List Value → Value
applied (leaf_of l) rows xs = leaf_value l rows
applied (one_of op) rows (x ∷ []) = one_value op x
applied (two_of op) rows (x ∷ y ∷ []) = two_value op x y
applied (call_of f) rows xs = call_value f xs
applied op rows xs = Null

-- ---- aggregates

-- what is gathered of a row: the value of the one part, null where there is none
abbrev pub input_of : List Value → Value
input_of [] = Null
input_of (x ∷ xs) = x

-- ---- expressions

module _ (b : Bounds) where
  abbrev mutual
    pub value_of : List Reading → Tree ℕ → Value
    value_of rows (node at op parts) =
        if is_aggregate op
        then aggregate_of (aggregate_by op (shapes_of b false parts))
        (map (λ r. input_of (values_of (r ∷ []) parts)) rows)
        else applied op rows (values_of rows parts)

    pub values_of : List Reading → Trees ℕ → List Value
    values_of rows no_trees = []
    values_of rows (trees t ts) = value_of rows t ∷ values_of rows ts
