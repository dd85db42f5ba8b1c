-- Operators between two stand between two in all that is computed for a query.
use Rattle.std.proofs.Common.{ℕ, zero, suc, Bool, true, false, cond, List, [], ◌∷◌, map}
use Rattle.std.proofs.Common.{Option, Some, None, Vec, Box}
use Rattle.std.specs.Prelude.{slice_get, IfSome}
use Rattle.std.specs.declared.alloc.Global.{Global}
use Rattle.std.specs.List.{AllByRecursion}
use Rattle.bql_parser.specs.Answer.{query_of}
use Rattle.bql_parser.specs.Asked.{Asked, Target, Item, ItemKind, target_item, tree_item}
use Rattle.bql_parser.specs.View.{filter_of, group_of, item_of, kind_of, target_of}
use Rattle.bql_parser.specs.declared.query.Item as items
use Rattle.bql_parser.specs.declared.query.ItemKind as kinds
use Rattle.bql_parser.specs.declared.query.ItemKind.TheVariants as kind
use Rattle.bql_parser.specs.declared.query.Query.{Query}
use Rattle.bql_parser.specs.declared.query.Target as targets
use Rattle.bql_plan.specs.Plan.{aggregates_in, aggregates_of, all_aggregates, own_trees, plan, shown}
use Rattle.bql_plan.specs.Plan.{tree_by}
use Rattle.bql_plan.specs.Whole.{group_trees}
use Rattle.bql_compiler.specs.Program.{input_in, inputs_in}
use Rattle.bql_tree.specs.Tree.{Tree, node, Trees, no_trees, trees, tree_of, row_trees}
use Rattle.bql_tree.specs.declared.tree.Expr.{Expr, Row_of-Expr, end_of-Expr, more_of-Expr}
use Rattle.bql_tree.specs.declared.tree.Expr.TheVariants as expr
use Rattle.bql_types.specs.Sought.{is_aggregate}
use Rattle.bql_types.specs.Typing.{grouping_by, grouping_of, key_by, key_of, keys_of}
use Rattle.bql_types.specs.Typing.{keys_of_targets, one_target_aggregates, plain_target}
use Rattle.bql_types.specs.Typing.{plain_targets, target_aggregates, target_tree, tree_of_found}
use Rattle.bql_compiler.proofs.ConstantFacts.{all_first, all_second}
use Rattle.bql_compiler.specs.Sided.{AreSided, IsSided}
use Rattle.bql_compiler.proofs.SchemeListFacts.{are_added, both_are}

abbrev AllSided : List (Tree ℕ) → Type 0
AllSided ts = AllByRecursion IsSided ts

-- ---- expressions

mutual
  sided : (e : Expr) → IsSided (tree_of e)
  sided (expr.Leaf at op) = (tt, tt)
  sided (expr.One' at op p x) = (tt, (sided x, tt))
  sided (expr.Two' at op p x q y) = (tt, (sided x, (sided y, tt)))
  sided (expr.Call' at f shape row) = (tt, row_sided row)

  row_sided : {m : _} (row : Row_of-Expr m) → AreSided (row_trees row)
  row_sided end_of-Expr = tt
  row_sided (more_of-Expr x rest) = (sided x, row_sided rest)

targets_sided : (ts : List targets.Target) → AllSided (map target_tree (map target_of ts))
targets_sided [] = tt
targets_sided (t ∷ ts) = (sided t.expr.value, targets_sided ts)

kind_sided : (k : kinds.ItemKind) → AllSided (tree_by (kind_of k))
kind_sided (kind.Target index) = tt
kind_sided (kind.Expr e) = (sided e.value, tt)

items_sided : (is : List items.Item) → AllSided (own_trees (map item_of is))
items_sided [] = tt
items_sided (i ∷ is) =
    both_are IsSided (tree_by (kind_of i.kind)) (own_trees (map item_of is)) (kind_sided i.kind)
    (items_sided is)

group_sided : (g : Option (Vec items.Item Global)) → AllSided (group_trees (group_of g))
group_sided None = tt
group_sided (Some v) = items_sided v.items

filter_sided : (f : Option (Box Expr Global)) → IfSome (filter_of f) IsSided
filter_sided None = tt
filter_sided (Some e) = sided e.value

-- ---- keys

found_sided : (ts : List Target) (index : ℕ) → AllSided (map target_tree ts)
    → AllSided (tree_of_found (slice_get ts index))
found_sided [] index h = tt
found_sided (t ∷ ts) zero h = (h.0, tt)
found_sided (t ∷ ts) (suc index) h = found_sided ts index h.1

key_sided : (ts : List Target) (k : ItemKind) → AllSided (map target_tree ts)
    → AllSided (tree_by k) → AllSided (key_by ts k)
key_sided ts (target_item index) h e = found_sided ts index h
key_sided ts (tree_item t) h e = e

item_keys_sided : (ts : List Target) (is : List Item) → AllSided (map target_tree ts)
    → AllSided (own_trees is) → AllSided (keys_of ts is)
item_keys_sided ts [] h k = tt
item_keys_sided ts (i ∷ is) h k =
    both_are IsSided (key_of ts i) (keys_of ts is)
    (key_sided ts i.kind h (all_first IsSided (tree_by i.kind) (own_trees is) k))
    (item_keys_sided ts is h (all_second IsSided (tree_by i.kind) (own_trees is) k))

plain_sided : (has : Bool) (t : Tree ℕ) → IsSided t → AllSided (cond has [] (t ∷ []))
plain_sided true t h = tt
plain_sided false t h = (h, tt)

plain_keys_sided : (ts : List Target) → AllSided (map target_tree ts) → AllSided (plain_targets ts)
plain_keys_sided [] h = tt
plain_keys_sided (t ∷ ts) h =
    both_are IsSided (plain_target t) (plain_targets ts)
    (plain_sided (target_aggregates t) t.tree h.0) (plain_keys_sided ts h.1)

target_keys_sided : (is : Bool) (ts : List Target) → AllSided (map target_tree ts)
    → AllSided (keys_of_targets is ts)
target_keys_sided true ts h = plain_keys_sided ts h
target_keys_sided false ts h = tt

keys_sided : (ts : List Target) (o : Option (List Item)) → AllSided (map target_tree ts)
    → AllSided (group_trees o) → AllSided (grouping_by ts o).keys
keys_sided ts None h k = target_keys_sided (one_target_aggregates ts) ts h
keys_sided ts (Some is) h k = item_keys_sided ts is h k

-- ---- aggregates

mutual
  in_one : (t : Tree ℕ) → IsSided t → AllSided (aggregates_in t)
  in_one (node at op parts) h = by (is_aggregate op) (in_parts parts h.1)
    where
      by : (is : Bool) → AllSided (all_aggregates parts)
          → AllSided (cond is (node at op parts ∷ []) (all_aggregates parts))
      by true k = (h, tt)
      by false k = k

  in_parts : (ts : Trees ℕ) → AreSided ts → AllSided (all_aggregates ts)
  in_parts no_trees h = tt
  in_parts (trees t ts) h =
      both_are IsSided (aggregates_in t) (all_aggregates ts) (in_one t h.0) (in_parts ts h.1)

in_all : (ts : List (Tree ℕ)) → AllSided ts → AllSided (aggregates_of ts)
in_all [] h = tt
in_all (t ∷ ts) h =
    both_are IsSided (aggregates_in t) (aggregates_of ts) (in_one t h.0) (in_all ts h.1)

input_sided : (t : Tree ℕ) → IsSided t → AllSided (input_in t)
input_sided (node at op no_trees) h = tt
input_sided (node at op (trees t ts)) h = (h.1.0, tt)

inputs_sided : (ts : List (Tree ℕ)) → AllSided ts → AllSided (inputs_in ts)
inputs_sided [] h = tt
inputs_sided (t ∷ ts) h =
    both_are IsSided (input_in t) (inputs_in ts) (input_sided t h.0) (inputs_sided ts h.1)

-- ---- queries

pub record ArePlannedSided (q : Asked) : Type 0 where
  pub from : IfSome q.filters.from IsSided
  pub filter : IfSome q.filters.filter IsSided
  pub shown : AllByRecursion IsSided (plan q).shown
  pub keys : AllByRecursion IsSided (grouping_of q).keys
  pub inputs : AllByRecursion IsSided (inputs_in (plan q).aggregates)

pub planned_sided : (q : Query) → ArePlannedSided (query_of q)
planned_sided q =
    let s = query_of q in
    let ts = targets_sided q.targets.items in
    let all = are_added IsSided (own_trees s.order.items) (map target_tree s.targets) ts
    (items_sided q.order.items.items) in
    record {
      from = filter_sided q.filters.from;
      filter = filter_sided q.filters.filter;
      shown = all;
      keys = keys_sided s.targets s.group ts (group_sided q.group);
      inputs = inputs_sided (plan s).aggregates
          (are_added IsSided (aggregates_of (shown s)) [] tt (in_all (shown s) all));
    }
