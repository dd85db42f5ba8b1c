-- Each text that a query writes is short.
use Rattle.std.proofs.Common.{ℕ, List, [], ◌∷◌, ◌++◌, length, map, Option, Some, None, IfSome}
use Rattle.std.proofs.Common.{arith}
use Rattle.std.specs.List.{AllByRecursion}
use Rattle.bql_parser.proofs.SmallLaw.{queries_are_small}
use Rattle.bql_parser.specs.Answer.{query_of}
use Rattle.bql_parser.specs.Asked.{Asked, Target, Item, ItemKind, target_item, tree_item}
use Rattle.bql_parser.specs.Small.{IsSmallIn, IsSmallTree, AreSmallTrees, IsSmallTarget}
use Rattle.bql_parser.specs.Small.{IsSmallKind, IsSmallItem, AreSmallItems, IsSmall}
use Rattle.bql_plan.specs.Plan.{own_trees, tree_by}
use Rattle.bql_plan.specs.Whole.{expressions, filter_trees, group_trees}
use Rattle.bql_tree.specs.Tree.{Operation, leaf_of, one_of, two_of, call_of, Tree, node, Trees}
use Rattle.bql_tree.specs.Tree.{no_trees, trees}
use Rattle.bql_tree.specs.declared.tree.Leaf.{Leaf}
use Rattle.bql_tree.specs.declared.tree.Leaf.TheVariants as leaf
use Rattle.bql_types.specs.Typing.{target_tree}
use Rattle.bql_meaning.specs.Laws.{QueriesHaveShortTexts}
use Rattle.bql_meaning.specs.Shaped.{IsShortIn, HasShortTexts, AllHaveShortTexts}

short_leaf : (l : Leaf) (ts : Trees ℕ) → IsSmallIn (leaf_of l) ts → IsShortIn (leaf_of l)
short_leaf (leaf.Text t) ts h = omega (arith, h)
short_leaf l ts h = tt

short_in : (op : Operation) (ts : Trees ℕ) → IsSmallIn op ts → IsShortIn op
short_in (leaf_of l) ts h = short_leaf l ts h
short_in (one_of op) ts h = tt
short_in (two_of op) ts h = tt
short_in (call_of f) ts h = tt

mutual
  short_tree : (t : Tree ℕ) → IsSmallTree t → HasShortTexts t
  short_tree (node at op parts) h = (short_in op parts h.0, short_trees parts h.1)

  short_trees : (ts : Trees ℕ) → AreSmallTrees ts → AllHaveShortTexts ts
  short_trees no_trees h = tt
  short_trees (trees t ts) h = (short_tree t h.0, short_trees ts h.1)

abbrev AllShort : List (Tree ℕ) → Type 0
AllShort ts = AllByRecursion HasShortTexts ts

all_joined : (ts us : List (Tree ℕ)) → AllShort ts → AllShort us → AllShort (ts ++ us)
all_joined [] us h k = k
all_joined (t ∷ ts) us h k = (h.0, all_joined ts us h.1 k)

short_targets : (ts : List Target) → AllByRecursion IsSmallTarget ts
    → AllShort (map target_tree ts)
short_targets [] h = tt
short_targets (t ∷ ts) h = (short_tree t.tree h.0.1, short_targets ts h.1)

short_filter : (o : Option (Tree ℕ)) → IfSome o IsSmallTree → AllShort (filter_trees o)
short_filter (Some t) h = (short_tree t h, tt)
short_filter None h = tt

short_kind : (n : ℕ) (k : ItemKind) → IsSmallKind n k → AllShort (tree_by k)
short_kind n (target_item index) h = tt
short_kind n (tree_item t) h = (short_tree t h, tt)

short_items : (n : ℕ) (is : List Item) → AllByRecursion (IsSmallItem n) is
    → AllShort (own_trees is)
short_items n [] h = tt
short_items n (i ∷ is) h =
    all_joined (tree_by i.kind) (own_trees is) (short_kind n i.kind h.0) (short_items n is h.1)

short_group : (n : ℕ) (o : Option (List Item)) → IfSome o (AreSmallItems n)
    → AllShort (group_trees o)
short_group n (Some is) h = short_items n is h.all
short_group n None h = tt

all_short : (s : Asked) → IsSmall s → AllShort (expressions s)
all_short s h =
    let n = length s.targets in
    let os = own_trees s.order.items in
    let gs = group_trees s.group in
    let fs = filter_trees s.filters.filter in
    let ts = filter_trees s.filters.from in
    all_joined (map target_tree s.targets) (ts ++ (fs ++ (gs ++ os)))
    (short_targets s.targets h.targets)
    (all_joined ts (fs ++ (gs ++ os)) (short_filter s.filters.from h.from)
    (all_joined fs (gs ++ os) (short_filter s.filters.filter h.filter)
    (all_joined gs os (short_group n s.group h.group) (short_items n s.order.items h.order.all))))

pub queries_have_short_texts : QueriesHaveShortTexts
queries_have_short_texts q = all_short (query_of q) (queries_are_small q)
