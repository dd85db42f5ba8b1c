-- Why shapes are whole: what has no cause has a shape with each of its parts.
use Rattle.std.proofs.Common.{◌≡◌, ℕ, Bool, true, false, not, ◌&&◌, List, [], ◌∷◌, ◌++◌}
use Rattle.std.proofs.Common.{Option, Some, None, refl, ◌⊎◌, inl, inr, map}
use Rattle.std.proofs.Common.{if◌then◌else◌}
use Rattle.std.specs.List.{AllByRecursion}
use Rattle.limits.specs.declared.bounds.Bounds.{Bounds}
use Rattle.bql_parser.specs.Asked.{Asked, Target, Item, ItemKind, target_item, tree_item}
use Rattle.bql_plan.specs.Labels.{labelled, all_labelled}
use Rattle.bql_plan.specs.Plan.{tree_by, own_trees}
use Rattle.bql_plan.specs.Whole.{IsWhole, AreWhole, HasWholeShapes, TypedAreWhole, expressions}
use Rattle.bql_plan.specs.Whole.{filter_trees, group_trees}
use Rattle.bql_tree.specs.Tree.{Tree, node, Trees}
use Rattle.bql_tree.specs.Tree.{trees, no_trees}
use Rattle.bql_types.specs.Shaped.{shape_causes, all_shape_causes, is_equation, is_null}
use Rattle.bql_types.specs.Sought.{misplaced, balances}
use Rattle.bql_types.specs.Typing.{each, Grouping, grouping_of, target_tree}
use Rattle.bql_types.specs.Typing.{shown_causes, row_causes, grouped_causes, filter_causes}
use Rattle.bql_types.specs.Typing.{filters_causes, target_causes, group_causes, group_item_causes}
use Rattle.bql_types.specs.Typing.{group_causes_by, order_item_causes, order_causes_by}
use Rattle.bql_types.specs.Typing.{order_causes_at, place_of, causes}
use Rattle.bql_types.proofs.LawFacts.{no_more, shapes_are_found}

-- ---- an expression without causes

skipped : (skips : Bool) (b : Bounds) (t : Tree ℕ) → (if skips then [] else shape_causes b t) ≡ []
    → (shape_causes b t ≡ [] → IsWhole t (labelled b t))
    → (skips ≡ true) ⊎ IsWhole t (labelled b t)
skipped true b t e h = inl refl
skipped false b t e h = inr (h e)

mutual
  whole : (b : Bounds) (t : Tree ℕ) → shape_causes b t ≡ [] → IsWhole t (labelled b t)
  whole b (node at op parts) e =
      let s = shapes_are_found b (node at op parts) e in
      let h = no_more (all_shape_causes b (is_equation op) parts) _ e in
      (s.0, s.1, all_whole b (is_equation op) parts h.0)

  all_whole : (b : Bounds) (eq : Bool) (ts : Trees ℕ) → all_shape_causes b eq ts ≡ []
      → AreWhole eq ts (all_labelled b ts)
  all_whole b eq no_trees e = tt
  all_whole b eq (trees t ts) e =
      let h = no_more (if eq && is_null t then [] else shape_causes b t) _ e in
      (skipped (eq && is_null t) b t h.0 (whole b t), all_whole b eq ts h.1)

-- ---- those of a query

abbrev Faultless : Bounds → Tree ℕ → Type 0
Faultless b t = shape_causes b t ≡ []

abbrev AreFaultless : Bounds → List (Tree ℕ) → Type 0
AreFaultless b ts = AllByRecursion (Faultless b) ts

both_are : (P : Tree ℕ → Type 0) (ts us : List (Tree ℕ)) → AllByRecursion P ts
    → AllByRecursion P us → AllByRecursion P (ts ++ us)
both_are P [] us h k = k
both_are P (t ∷ ts) us h k = (h.0, both_are P ts us h.1 k)

both : (b : Bounds) (ts us : List (Tree ℕ)) → AreFaultless b ts → AreFaultless b us
    → AreFaultless b (ts ++ us)
both b ts us h k = both_are (Faultless b) ts us h k

are_shown : (b : Bounds) (g : Grouping) (ts : List Target) → each (target_causes b g) ts ≡ []
    → AreFaultless b (map target_tree ts)
are_shown b g [] e = tt
are_shown b g (t ∷ ts) e =
    let h = no_more (target_causes b g t) (each (target_causes b g) ts) e in
    ((no_more (shape_causes b t.tree) _ h.0).0, are_shown b g ts h.1)

of_row : (b : Bounds) (t : Tree ℕ) → row_causes b t ≡ [] → Faultless b t
of_row b t e = (no_more (shape_causes b t) (misplaced b true t ++ balances t) e).0

of_filter : (b : Bounds) (o : Option (Tree ℕ)) → filter_causes b o ≡ []
    → AreFaultless b (filter_trees o)
of_filter b None e = tt
of_filter b (Some t) e = (of_row b t (no_more (row_causes b t) _ e).0, tt)

group_tree : (b : Bounds) (ts : List Target) (place : ℕ) (k : ItemKind)
    → group_causes_by b ts place k ≡ [] → AreFaultless b (tree_by k)
group_tree b ts place (target_item index) e = tt
group_tree b ts place (tree_item t) e = (of_row b t e, tt)

in_group : (b : Bounds) (ts : List Target) (is : List Item)
    → each (group_item_causes b ts) is ≡ [] → AreFaultless b (own_trees is)
in_group b ts [] e = tt
in_group b ts (i ∷ is) e =
    let h = no_more (group_item_causes b ts i) (each (group_item_causes b ts) is) e in
    both b (tree_by i.kind) (own_trees is) (group_tree b ts i.place i.kind h.0)
    (in_group b ts is h.1)

of_group : (b : Bounds) (ts : List Target) (o : Option (List Item)) → group_causes b ts o ≡ []
    → AreFaultless b (group_trees o)
of_group b ts None e = tt
of_group b ts (Some is) e = in_group b ts is e

order_tree : (b : Bounds) (g : Grouping) (ts : List Target) (place : ℕ) (k : ItemKind)
    → order_causes_by b g ts place k ≡ [] → AreFaultless b (tree_by k)
order_tree b g ts place (target_item index) e = tt
order_tree b g ts place (tree_item t) e =
    let h = no_more (shown_causes b g t) (order_causes_at b (place_of t) t) e in
    let k = no_more (shape_causes b t)
    (misplaced b (not g.is_aggregating) t ++ grouped_causes g t) h.0 in
    (k.0, tt)

in_order : (b : Bounds) (g : Grouping) (ts : List Target) (is : List Item)
    → each (order_item_causes b g ts) is ≡ [] → AreFaultless b (own_trees is)
in_order b g ts [] e = tt
in_order b g ts (i ∷ is) e =
    let h = no_more (order_item_causes b g ts i) (each (order_item_causes b g ts) is) e in
    both b (tree_by i.kind) (own_trees is) (order_tree b g ts i.place i.kind h.0)
    (in_order b g ts is h.1)

record IsFaultless (b : Bounds) (s : Asked) : Type 0 where
  pub targets : AreFaultless b (map target_tree s.targets)
  pub from : AreFaultless b (filter_trees s.filters.from)
  pub filter : AreFaultless b (filter_trees s.filters.filter)
  pub group : AreFaultless b (group_trees s.group)
  pub order : AreFaultless b (own_trees s.order.items)

faultless : (b : Bounds) (s : Asked) → causes b s ≡ [] → IsFaultless b s
faultless b s e =
    let g = grouping_of s in
    let h = no_more (each (target_causes b g) s.targets) _ e in
    let k = no_more (filters_causes b s.filters) _ h.1 in
    let f = no_more (filter_causes b s.filters.from) (filter_causes b s.filters.filter) k.0 in
    let o = no_more (group_causes b s.targets s.group) _ k.1 in
    record {
      targets = are_shown b g s.targets h.0;
      from = of_filter b s.filters.from f.0;
      filter = of_filter b s.filters.filter f.1;
      group = of_group b s.targets s.group o.0;
      order = in_order b g s.targets s.order.items o.1;
    }

all : (b : Bounds) (ts : List (Tree ℕ)) → AreFaultless b ts → AllByRecursion (HasWholeShapes b) ts
all b [] h = tt
all b (t ∷ ts) h = (whole b t h.0, all b ts h.1)

all_expressions : (b : Bounds) (s : Asked) → IsFaultless b s → AreFaultless b (expressions s)
all_expressions b s h =
    both b (map target_tree s.targets) _ h.targets
    (both b (filter_trees s.filters.from) _ h.from
    (both b (filter_trees s.filters.filter) _ h.filter
    (both b (group_trees s.group) (own_trees s.order.items) h.group h.order)))

pub typed_are_whole : TypedAreWhole
typed_are_whole b q e =
    all b (expressions q) (all_expressions b q (faultless b q e))
