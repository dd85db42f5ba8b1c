-- What is computed for a query: the expressions that are shown or order rows, the keys, and what is
-- gathered of each group.
use Rattle.std.specs.Prelude.{ℕ, suc, List, [], ◌∷◌, ◌++◌, map, Option, Some, None, if◌then◌else◌}
use Rattle.theory.specs.Form.{steps}
use Rattle.bql_parser.specs.Asked.{Asked, Item, ItemKind, target_item, tree_item}
use Rattle.bql_tree.specs.Tree.{Tree, node, Trees, no_trees, trees}
use Rattle.bql_types.specs.Same.{same}
use Rattle.bql_types.specs.Sought.{is_aggregate, is_key}
use Rattle.bql_types.specs.Typing.{Grouping, grouping_of, target_tree}

-- one more, unless one that is the same stands before it
abbrev pub added : List (Tree ℕ) → Tree ℕ → List (Tree ℕ)
added ts t = if is_key ts t then ts else ts ++ t ∷ []

-- the index of the first that is the same
abbrev pub index_of : List (Tree ℕ) → Tree ℕ → ℕ
index_of [] t = 0
index_of (u ∷ us) t = if same t u then 0 else suc (index_of us t)

-- ---- what is shown, and what orders rows

abbrev pub tree_by : ItemKind → List (Tree ℕ)
tree_by (target_item index) = []
tree_by (tree_item t) = t ∷ []

-- what orders rows and is no target
abbrev pub own_trees : List Item → List (Tree ℕ)
own_trees [] = []
own_trees (i ∷ is) = tree_by i.kind ++ own_trees is

-- the targets, and behind them what only orders rows, equal ones once
abbrev pub shown : Asked → List (Tree ℕ)
shown s = steps added (map target_tree s.targets) (own_trees s.order.items)

abbrev pub index_by : List (Tree ℕ) → ItemKind → ℕ
index_by ts (target_item index) = index
index_by ts (tree_item t) = index_of ts t

abbrev pub index_for : List (Tree ℕ) → Item → ℕ
index_for ts i = index_by ts i.kind

-- ---- what is gathered

-- the aggregates of an expression, in order of reading; none stands inside another
abbrev mutual
  pub aggregates_in : Tree ℕ → List (Tree ℕ)
  aggregates_in (node at op parts) =
      if is_aggregate op then node at op parts ∷ [] else all_aggregates parts

  pub all_aggregates : Trees ℕ → List (Tree ℕ)
  all_aggregates no_trees = []
  all_aggregates (trees t ts) = aggregates_in t ++ all_aggregates ts

abbrev pub aggregates_of : List (Tree ℕ) → List (Tree ℕ)
aggregates_of [] = []
aggregates_of (t ∷ ts) = aggregates_in t ++ aggregates_of ts

-- the first part, of which an aggregate gathers the values; COUNT(*) has none
abbrev pub first_of : Trees ℕ → Option (Tree ℕ)
first_of no_trees = None
first_of (trees t ts) = Some t

abbrev pub first_part : Tree ℕ → Option (Tree ℕ)
first_part (node at op parts) = first_of parts

-- ---- plans

pub record Plan : Type 0 where
  pub shown : List (Tree ℕ)
  pub order : List ℕ
  pub grouping : Grouping
  pub aggregates : List (Tree ℕ)

abbrev pub plan_over : List (Tree ℕ) → Asked → Plan
plan_over ts s = record {
  shown = ts;
  order = map (index_for ts) s.order.items;
  grouping = grouping_of s;
  aggregates = steps added [] (aggregates_of ts);
}

abbrev pub plan : Asked → Plan
plan s = plan_over (shown s) s
