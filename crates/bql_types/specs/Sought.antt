-- What may not stand where it stands in an expression: aggregates, the running balance, and what
-- reads a row.
use Rattle.std.specs.Prelude.{ℕ, Bool, true, false, ◌&&◌, ◌||◌, List, [], ◌++◌}
use Rattle.std.specs.Prelude.{if◌then◌else◌}
use Rattle.std.specs.List.{list_any}
use Rattle.std.specs.Option.{is_some}
use Rattle.limits.specs.declared.bounds.Bounds.{Bounds}
use Rattle.bql_tree.specs.Tree.{Operation, leaf_of, call_of, Tree, node, Trees, no_trees, trees}
use Rattle.query_terms.specs.declared.column.Column.TheVariants.{Balance}
use Rattle.bql_tree.specs.declared.function.Function.{Function}
use Rattle.bql_tree.specs.declared.function.Function.TheVariants as function
use Rattle.bql_tree.specs.declared.tree.Leaf.{Leaf}
use Rattle.bql_tree.specs.declared.tree.Leaf.TheVariants as leaf
use Rattle.bql_types.specs.Cause.{cause_at, where_true}
use Rattle.bql_types.specs.Same.{same}
use Rattle.bql_types.specs.Shaped.{shapes_of}
use Rattle.bql_types.specs.declared.cause.TypeCause.{TypeCause}
use Rattle.bql_types.specs.declared.cause.TypeCauseKind.TheVariants as kind

-- ---- aggregates

abbrev pub is_aggregate_function : Function → Bool
is_aggregate_function function.Count = true
is_aggregate_function function.Sum = true
is_aggregate_function function.First = true
is_aggregate_function function.Last = true
is_aggregate_function function.Min = true
is_aggregate_function function.Max = true
is_aggregate_function f = false

abbrev pub is_rows : Leaf → Bool
is_rows leaf.Rows = true
is_rows l = false

abbrev pub is_aggregate : Operation → Bool
is_aggregate (leaf_of l) = is_rows l
is_aggregate (call_of f) = is_aggregate_function f
is_aggregate op = false

-- an aggregate stands in it, or it is one
abbrev mutual
  pub aggregates : Tree ℕ → Bool
  aggregates (node at op parts) = is_aggregate op || one_aggregates parts

  pub one_aggregates : Trees ℕ → Bool
  one_aggregates no_trees = false
  one_aggregates (trees t ts) = aggregates t || one_aggregates ts

abbrev pub have_shapes : Bounds → Trees ℕ → Bool
have_shapes b ts = is_some (shapes_of b false ts)

abbrev pub is_told : Bounds → Bool → Trees ℕ → Bool
is_told b is_misplaced ts = is_misplaced && have_shapes b ts

-- an aggregate may not stand inside an aggregate, and nowhere where the whole may have none;
-- one whose parts have no shapes isn't told
abbrev mutual
  pub misplaced : Bounds → Bool → Tree ℕ → List TypeCause
  misplaced b inside (node at op parts) =
      where_true (is_told b (is_aggregate op && inside) parts)
      (cause_at kind.AggregateMisplaced at)
      ++ all_misplaced b (is_aggregate op || inside) parts

  pub all_misplaced : Bounds → Bool → Trees ℕ → List TypeCause
  all_misplaced b inside no_trees = []
  all_misplaced b inside (trees t ts) = misplaced b inside t ++ all_misplaced b inside ts

-- ---- the running balance

abbrev pub is_balance_leaf : Leaf → Bool
is_balance_leaf (leaf.Column Balance) = true
is_balance_leaf l = false

abbrev pub is_balance : Operation → Bool
is_balance (leaf_of l) = is_balance_leaf l
is_balance op = false

abbrev mutual
  pub balances : Tree ℕ → List TypeCause
  balances (node at op parts) =
      where_true (is_balance op) (cause_at kind.BalanceMisplaced at) ++ all_balances parts

  pub all_balances : Trees ℕ → List TypeCause
  all_balances no_trees = []
  all_balances (trees t ts) = balances t ++ all_balances ts

-- ---- columns and metadata

abbrev pub is_of_row : Leaf → Bool
is_of_row (leaf.Column c) = true
is_of_row (leaf.Meta e k) = true
is_of_row (leaf.HasAccount p) = true
is_of_row l = false

abbrev pub reads_row : Operation → Bool
reads_row (leaf_of l) = is_of_row l
reads_row op = false

abbrev pub is_key : List (Tree ℕ) → Tree ℕ → Bool
is_key keys t = list_any (same t) keys

-- a column or a metadata entry stands in an aggregate, or in what is equal to a key
abbrev mutual
  pub ungrouped : List (Tree ℕ) → Tree ℕ → List TypeCause
  ungrouped keys (node at op parts) =
      if is_key keys (node at op parts) || is_aggregate op then []
      else (where_true (reads_row op) (cause_at kind.NotGrouped at) ++ all_ungrouped keys parts)

  pub all_ungrouped : List (Tree ℕ) → Trees ℕ → List TypeCause
  all_ungrouped keys no_trees = []
  all_ungrouped keys (trees t ts) = ungrouped keys t ++ all_ungrouped keys ts
