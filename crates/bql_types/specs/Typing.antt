-- Queries that have a type: all the causes for which one has none.
use Rattle.std.specs.Prelude.{ℕ, Bool, true, false, not, List, [], ◌∷◌, ◌++◌}
use Rattle.std.specs.Prelude.{Option, Some, None, ◌≡◌, if◌then◌else◌}
use Rattle.std.specs.List.{slice_get, list_any}
use Rattle.std.specs.Option.{is_some}
use Rattle.limits.specs.declared.bounds.Bounds.{Bounds}
use Rattle.bql_grammar.specs.Clause as clause
use Rattle.bql_parser.specs.Asked.{Target, Item, ItemKind, target_item, tree_item, Asked}
use Rattle.bql_tree.specs.Tree.{Tree, node}
use Rattle.query_rows.specs.declared.shape.Shape.{Shape}
use Rattle.query_rows.specs.declared.shape.Shape.TheVariants as shape
use Rattle.bql_types.specs.Cause.{cause_at, where_true, least_of}
use Rattle.bql_types.specs.Shaped.{shape_of, shape_causes}
use Rattle.bql_types.specs.Sought.{aggregates, misplaced, balances, ungrouped}
use Rattle.bql_types.specs.declared.cause.TypeCause.{TypeCause}
use Rattle.bql_types.specs.declared.cause.TypeCauseKind.TheVariants as kind

abbrev pub place_of : Tree ℕ → ℕ
place_of (node at op parts) = at

-- all that is found for each
abbrev pub each : {A : Type 0} → (A → List TypeCause) → List A → List TypeCause
each f [] = []
each f (x ∷ xs) = f x ++ each f xs

-- ---- what rows are grouped by

abbrev pub target_aggregates : Target → Bool
target_aggregates t = aggregates t.tree

abbrev pub one_target_aggregates : List Target → Bool
one_target_aggregates ts = list_any target_aggregates ts

abbrev pub target_tree : Target → Tree ℕ
target_tree t = t.tree

abbrev pub tree_of_found : Option Target → List (Tree ℕ)
tree_of_found (Some t) = t.tree ∷ []
tree_of_found None = []

abbrev pub key_by : List Target → ItemKind → List (Tree ℕ)
key_by ts (target_item index) = tree_of_found (slice_get ts index)
key_by ts (tree_item t) = t ∷ []

-- what an item is, or the target that it names
abbrev pub key_of : List Target → Item → List (Tree ℕ)
key_of ts i = key_by ts i.kind

-- a target that has no aggregate
abbrev pub plain_target : Target → List (Tree ℕ)
plain_target t = if target_aggregates t then [] else t.tree ∷ []

-- the keys of each
abbrev pub all_keys : {A : Type 0} → (A → List (Tree ℕ)) → List A → List (Tree ℕ)
all_keys f [] = []
all_keys f (x ∷ xs) = f x ++ all_keys f xs

abbrev pub keys_of : List Target → List Item → List (Tree ℕ)
keys_of ts is = all_keys (key_of ts) is

abbrev pub plain_targets : List Target → List (Tree ℕ)
plain_targets ts = all_keys plain_target ts

-- how the rows of a query come to be: each of its own, or each of a group with these keys
pub record Grouping : Type 0 where
  pub is_aggregating : Bool
  pub keys : List (Tree ℕ)

-- of a query without GROUP BY the targets that have no aggregate are the keys, where it aggregates
abbrev pub keys_of_targets : Bool → List Target → List (Tree ℕ)
keys_of_targets is_aggregating ts = if is_aggregating then plain_targets ts else []

-- a query aggregates where it has GROUP BY or an aggregate in a target
abbrev pub grouping_by : List Target → Option (List Item) → Grouping
grouping_by ts (Some is) = record { is_aggregating = true; keys = keys_of ts is }
grouping_by ts None = record {
  is_aggregating = one_target_aggregates ts;
  keys = keys_of_targets (one_target_aggregates ts) ts;
}

abbrev pub grouping_of : Asked → Grouping
grouping_of s = grouping_by s.targets s.group

-- ---- what is at fault in an expression, by where it stands

-- a target or an order item: aggregates stand in queries that aggregate, not in one another; there
-- a column is grouped, and the running balance stands nowhere
abbrev pub grouped_causes : Grouping → Tree ℕ → List TypeCause
grouped_causes g t = if g.is_aggregating then ungrouped g.keys t ++ balances t else []

abbrev pub shown_causes : Bounds → Grouping → Tree ℕ → List TypeCause
shown_causes b g t =
    shape_causes b t ++ (misplaced b (not g.is_aggregating) t ++ grouped_causes g t)

-- a filter or a group item: there are no aggregates and no running balance
abbrev pub row_causes : Bounds → Tree ℕ → List TypeCause
row_causes b t = shape_causes b t ++ (misplaced b true t ++ balances t)

abbrev pub isnt_truth : Option Shape → Bool
isnt_truth (Some shape.Truth) = false
isnt_truth (Some s) = true
isnt_truth None = false

abbrev pub tree_filter_causes : Bounds → Tree ℕ → List TypeCause
tree_filter_causes b t =
    row_causes b t
    ++ where_true (isnt_truth (shape_of b t)) (cause_at kind.KindClash (place_of t))

abbrev pub filter_causes : Bounds → Option (Tree ℕ) → List TypeCause
filter_causes b (Some t) = tree_filter_causes b t
filter_causes b None = []

abbrev pub filters_causes : Bounds → clause.Filters (Tree ℕ) → List TypeCause
filters_causes b f = filter_causes b f.from ++ filter_causes b f.filter

-- ---- targets and items

abbrev pub target_causes : Bounds → Grouping → Target → List TypeCause
target_causes b g t = shown_causes b g t.tree

-- what an item names that isn't there has no shape
abbrev pub nothing_at : ℕ → List TypeCause
nothing_at place = cause_at kind.KindClash place ∷ []

abbrev pub named_group_causes : Bounds → ℕ → Option Target → List TypeCause
named_group_causes b place (Some t) =
    where_true (is_some (least_of (misplaced b true t.tree)))
    (cause_at kind.AggregateMisplaced place)
named_group_causes b place None = nothing_at place

abbrev pub group_causes_by : Bounds → List Target → ℕ → ItemKind → List TypeCause
group_causes_by b ts place (target_item index) = named_group_causes b place (slice_get ts index)
group_causes_by b ts place (tree_item t) = row_causes b t

abbrev pub group_item_causes : Bounds → List Target → Item → List TypeCause
group_item_causes b ts i = group_causes_by b ts i.place i.kind

abbrev pub group_causes : Bounds → List Target → Option (List Item) → List TypeCause
group_causes b ts (Some is) = each (group_item_causes b ts) is
group_causes b ts None = []

-- rows are ordered by numbers, texts and days
abbrev pub is_ordered : Shape → Bool
is_ordered (shape.Number p m) = true
is_ordered shape.Text = true
is_ordered shape.Day = true
is_ordered s = false

abbrev pub isnt_ordered : Option Shape → Bool
isnt_ordered (Some s) = not (is_ordered s)
isnt_ordered None = false

abbrev pub order_causes_at : Bounds → ℕ → Tree ℕ → List TypeCause
order_causes_at b place t =
    where_true (isnt_ordered (shape_of b t)) (cause_at kind.NotOrderable place)

abbrev pub named_order_causes : Bounds → ℕ → Option Target → List TypeCause
named_order_causes b place (Some t) = order_causes_at b place t.tree
named_order_causes b place None = nothing_at place

abbrev pub own_order_causes : Bounds → Grouping → Tree ℕ → List TypeCause
own_order_causes b g t = shown_causes b g t ++ order_causes_at b (place_of t) t

abbrev pub order_causes_by : Bounds → Grouping → List Target → ℕ → ItemKind → List TypeCause
order_causes_by b g ts place (target_item index) =
    named_order_causes b place (slice_get ts index)
order_causes_by b g ts place (tree_item t) = own_order_causes b g t

abbrev pub order_item_causes : Bounds → Grouping → List Target → Item → List TypeCause
order_item_causes b g ts i = order_causes_by b g ts i.place i.kind

-- ---- queries

abbrev pub causes_by : Bounds → Grouping → Asked → List TypeCause
causes_by b g s =
    each (target_causes b g) s.targets
    ++ (filters_causes b s.filters
    ++ (group_causes b s.targets s.group
    ++ each (order_item_causes b g s.targets) s.order.items))

-- all causes for which a query has no type
abbrev pub causes : Bounds → Asked → List TypeCause
causes b s = causes_by b (grouping_of s) s

-- the query has a type
abbrev pub IsTyped : Bounds → Asked → Type 0
IsTyped b s = causes b s ≡ []
