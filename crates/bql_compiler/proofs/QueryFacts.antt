-- What is known of the expressions that are planned for a small query that has a type: what each
-- section computes stands where it may.
use Rattle.std.proofs.Common.{◌≡◌, ℕ, zero, suc, Bool, true, false, not, cond, ◌&&◌, ◌||◌, List}
use Rattle.std.proofs.Common.{[], ◌∷◌, ◌++◌, map, length, Option, Some, None, refl, sym, ap, ◌∙◌}
use Rattle.std.proofs.Common.{subst, ◌⊎◌, inl, inr, ◌≤◌, arith, length-append}
use Rattle.std.specs.Prelude.{slice_get, IfSome}
use Rattle.std.specs.List.{AllByRecursion}
use Rattle.std.specs.Option.{is_some}
use Rattle.limits.specs.declared.bounds.Bounds.{Bounds}
use Rattle.limits.specs.declared.counts.TheConstants.{MOST_ITEMS}
use Rattle.bql_parser.specs.Asked.{Asked, Target, Item, ItemKind, target_item, tree_item}
use Rattle.bql_parser.specs.Small.{AreSmallItems, AreSmallTrees, IsSmall, IsSmallItem, IsSmallKind}
use Rattle.bql_parser.specs.Small.{IsSmallTarget, IsSmallTree}
use Rattle.bql_plan.specs.Labels.{all_labelled, labelled}
use Rattle.bql_plan.specs.Plan.{aggregates_in, aggregates_of, all_aggregates, own_trees, plan}
use Rattle.bql_plan.specs.Plan.{shown, tree_by}
use Rattle.bql_plan.specs.Whole.{AreWhole, HasWholeShapes, IsWhole, filter_trees}
use Rattle.bql_plan.specs.Whole.{group_trees}
use Rattle.bql_plan.proofs.WholeFacts.{typed_are_whole}
use Rattle.bql_compiler.specs.Program.{input_in, inputs_in}
use Rattle.bql_tree.specs.Tree.{Operation, leaf_of, Tree, node, Trees}
use Rattle.bql_tree.specs.Tree.{no_trees, trees}
use Rattle.bql_tree.specs.declared.tree.Leaf.TheVariants as leaf
use Rattle.bql_types.proofs.ItemFacts.{none_told}
use Rattle.bql_types.proofs.LawFacts.{no_more}
use Rattle.bql_types.specs.Cause.{cause_at, least_of, where_true}
use Rattle.bql_types.specs.Shaped.{is_equation, is_null, shape_causes, shape_of}
use Rattle.bql_types.specs.Sought.{aggregates, all_balances, all_misplaced, balances, is_aggregate}
use Rattle.bql_types.specs.Sought.{is_balance, is_told, misplaced, one_aggregates, ungrouped}
use Rattle.bql_types.specs.Typing.{Grouping, IsTyped, each, filter_causes, filters_causes}
use Rattle.bql_types.specs.Typing.{group_causes, group_causes_by, group_item_causes, grouped_causes}
use Rattle.bql_types.specs.Typing.{grouping_by, grouping_of, isnt_truth, key_by, key_of, keys_of}
use Rattle.bql_types.specs.Typing.{keys_of_targets, named_group_causes, one_target_aggregates}
use Rattle.bql_types.specs.Typing.{order_causes_at, order_causes_by, order_item_causes, place_of}
use Rattle.bql_types.specs.Typing.{plain_target, plain_targets, row_causes, shown_causes}
use Rattle.bql_types.specs.Typing.{target_aggregates, target_causes, target_tree, tree_of_found}
use Rattle.bql_types.specs.declared.cause.TypeCause.{TypeCause}
use Rattle.bql_types.specs.declared.cause.TypeCauseKind.TheVariants as kind
use Rattle.query_rows.specs.declared.shape.Shape.{Shape}
use Rattle.bql_compiler.proofs.ConstantFacts.{all_first, all_second}
use Rattle.bql_compiler.proofs.LoweredReadFacts.{no_equation}
use Rattle.bql_compiler.proofs.SchemeListFacts.{are_added, both_are}

-- ---- what may be computed where

-- an expression that is small and has a shape with each of its parts
pub record IsTypedTree (b : Bounds) (t : Tree ℕ) : Type 0 where
  pub small : IsSmallTree t
  pub whole : HasWholeShapes b t

-- of each row: no aggregate stands in it, and it doesn't read the running inventory
pub record IsOfRows (b : Bounds) (t : Tree ℕ) : Type 0 where
  pub typed : IsTypedTree b t
  pub plain : misplaced b true t ≡ []
  pub balanceless : balances t ≡ []

-- what is shown, or orders rows
pub record IsShown (b : Bounds) (g : Grouping) (t : Tree ℕ) : Type 0 where
  pub typed : IsTypedTree b t
  pub placed : misplaced b (not g.is_aggregating) t ≡ []
  pub grouped : grouped_causes g t ≡ []

-- an aggregate: no other stands in it, and where rows are grouped it doesn't read the running
-- inventory
pub record IsGathered (b : Bounds) (g : Grouping) (at : ℕ) (op : Operation) (parts : Trees ℕ) :
    Type 0 where
  pub is : is_aggregate op ≡ true
  pub typed : IsTypedTree b (node at op parts)
  pub plain : all_misplaced b true parts ≡ []
  pub balanceless : g.is_aggregating ≡ true → all_balances parts ≡ []

abbrev pub IsAggregate : Bounds → Grouping → Tree ℕ → Type 0
IsAggregate b g (node at op parts) = IsGathered b g at op parts

pub typed_shape : (b : Bounds) (t : Tree ℕ) → IsTypedTree b t
    → (s : Shape) × (shape_of b t ≡ Some s)
typed_shape b (node at op parts) h = (h.whole.0, h.whole.1)

grouped_by : (is : Bool) (xs ys : List TypeCause) → is ≡ true → cond is (xs ++ ys) [] ≡ []
    → (xs ≡ []) × (ys ≡ [])
grouped_by true xs ys e h = no_more xs ys h
grouped_by false xs ys e h = absurd cc

-- where rows are grouped, columns are read in keys and aggregates alone, and the running inventory
-- nowhere
pub in_groups : (b : Bounds) (g : Grouping) (t : Tree ℕ) → IsShown b g t
    → g.is_aggregating ≡ true → (ungrouped g.keys t ≡ []) × (balances t ≡ [])
in_groups b g t h is = grouped_by g.is_aggregating (ungrouped g.keys t) (balances t) is h.grouped

-- ---- expressions without aggregates

either : (a b : Bool) → (a || b) ≡ false → (a ≡ false) × (b ≡ false)
either true b e = absurd cc
either false b e = (refl, e)

mutual
  none_misplaced : (b : Bounds) (inside : Bool) (t : Tree ℕ) → aggregates t ≡ false
      → misplaced b inside t ≡ []
  none_misplaced b inside (node at op parts) e =
      let h = either (is_aggregate op) (one_aggregates parts) e in
      ap (λ a. where_true (is_told b (a && inside) parts) (cause_at kind.AggregateMisplaced at)
      ++ all_misplaced b (a || inside) parts) h.0
      ∙ none_of_all b inside parts h.1

  none_of_all : (b : Bounds) (inside : Bool) (ts : Trees ℕ) → one_aggregates ts ≡ false
      → all_misplaced b inside ts ≡ []
  none_of_all b inside no_trees e = refl
  none_of_all b inside (trees t ts) e =
      let h = either (aggregates t) (one_aggregates ts) e in
      ap (λ cs. cs ++ all_misplaced b inside ts) (none_misplaced b inside t h.0)
      ∙ none_of_all b inside ts h.1

-- ---- aggregates in expressions

second_of : (a b : Bool) → (a && b) ≡ true → b ≡ true
second_of true b e = e
second_of false b e = absurd cc

null_has_none : (t : Tree ℕ) → is_null t ≡ true → aggregates_in t ≡ []
null_has_none (node at (leaf_of leaf.Null) no_trees) e = refl
null_has_none (node at (leaf_of leaf.Null) (trees t ts)) e = absurd cc
null_has_none (node at (leaf_of l) parts) e = absurd cc
null_has_none (node at op parts) e = absurd cc

module _ (b : Bounds) (g : Grouping) where
  abbrev AreAggregates : List (Tree ℕ) → Type 0
  AreAggregates ts = AllByRecursion (IsAggregate b g) ts

  -- what is asked of an expression in which aggregates may stand
  record MayHave (inside : Bool) (t : Tree ℕ) : Type 0 where
    typed : IsTypedTree b t
    placed : misplaced b inside t ≡ []
    balanceless : g.is_aggregating ≡ true → balances t ≡ []

  record AllMayHave (inside eq : Bool) (ts : Trees ℕ) : Type 0 where
    small : AreSmallTrees ts
    whole : AreWhole eq ts (all_labelled b ts)
    placed : all_misplaced b inside ts ≡ []
    balanceless : g.is_aggregating ≡ true → all_balances ts ≡ []

  parts_may : (inside : Bool) (at : ℕ) (op : Operation) (parts : Trees ℕ)
      → MayHave inside (node at op parts)
      → AllMayHave (is_aggregate op || inside) (is_equation op) parts
  parts_may inside at op parts h = record {
    small = h.typed.small.1;
    whole = h.typed.whole.2;
    placed =
        (no_more (where_true (is_told b (is_aggregate op && inside) parts)
        (cause_at kind.AggregateMisplaced at)) (all_misplaced b (is_aggregate op || inside) parts)
        h.placed).1;
    balanceless = λ is. (no_more (where_true (is_balance op) (cause_at kind.BalanceMisplaced at))
        (all_balances parts) (h.balanceless is)).1;
  }

  mutual
    in_one : (inside : Bool) (t : Tree ℕ) → MayHave inside t → AreAggregates (aggregates_in t)
    in_one inside (node at op parts) h =
        by (is_aggregate op) refl
        (λ e. in_parts inside (is_equation op) parts
        (subst (λ a. AllMayHave (a || inside) (is_equation op) parts) e
        (parts_may inside at op parts h)))
      where
        by : (is : Bool) → is_aggregate op ≡ is
            → (is_aggregate op ≡ false → AreAggregates (all_aggregates parts))
            → AreAggregates (cond is (node at op parts ∷ []) (all_aggregates parts))
        by true e k =
            let m = parts_may inside at op parts h in (
              record {
                is = e;
                typed = h.typed;
                plain = ap (λ a. all_misplaced b (a || inside) parts) (sym e) ∙ m.placed;
                balanceless = m.balanceless;
              },
              tt,
            )
        by false e k = k e

    in_parts : (inside eq : Bool) (ts : Trees ℕ) → AllMayHave inside eq ts
        → AreAggregates (all_aggregates ts)
    in_parts inside eq no_trees h = tt
    in_parts inside eq (trees t ts) h =
        both_are (IsAggregate b g) (aggregates_in t) (all_aggregates ts)
        (by h.whole.0 (λ w. in_one inside t (record {
          typed = record { small = h.small.0; whole = w };
          placed = m.0;
          balanceless = λ is. (no_more (balances t) (all_balances ts) (h.balanceless is)).0;
        })))
        (in_parts inside eq ts (record {
          small = h.small.1;
          whole = h.whole.1;
          placed = m.1;
          balanceless = λ is. (no_more (balances t) (all_balances ts) (h.balanceless is)).1;
        }))
      where
        m : (misplaced b inside t ≡ []) × (all_misplaced b inside ts ≡ [])
        m = no_more (misplaced b inside t) (all_misplaced b inside ts) h.placed

        by : ((eq && is_null t) ≡ true) ⊎ IsWhole t (labelled b t)
            → (IsWhole t (labelled b t) → AreAggregates (aggregates_in t))
            → AreAggregates (aggregates_in t)
        by (inl null) k =
            subst AreAggregates (sym (null_has_none t (second_of eq (is_null t) null))) tt
        by (inr w) k = k w

  aggregates_shown : (t : Tree ℕ) → IsShown b g t → AreAggregates (aggregates_in t)
  aggregates_shown t h =
      in_one (not g.is_aggregating) t (record {
        typed = h.typed;
        placed = h.placed;
        balanceless = λ is. (in_groups b g t h is).1;
      })

  all_aggregates_shown : (ts : List (Tree ℕ)) → AllByRecursion (IsShown b g) ts
      → AreAggregates (aggregates_of ts)
  all_aggregates_shown [] h = tt
  all_aggregates_shown (t ∷ ts) h =
      both_are (IsAggregate b g) (aggregates_in t) (aggregates_of ts) (aggregates_shown t h.0)
      (all_aggregates_shown ts h.1)

-- ---- what is gathered

module _ (b : Bounds) (g : Grouping) where
  -- the first part of an aggregate, which it gathers, has a shape
  first_whole : (op : Operation) (t : Tree ℕ) → is_aggregate op ≡ true
      → ((is_equation op && is_null t) ≡ true) ⊎ IsWhole t (labelled b t) → HasWholeShapes b t
  first_whole op t is (inl null) =
      absurd (both (sym (ap (λ eq. eq && is_null t) (no_equation op is)) ∙ null))
    where
      both : false ≡ true → ⊥
      both e = cc
  first_whole op t is (inr w) = w

  input_typed : (t : Tree ℕ) → IsAggregate b g t → AllByRecursion (IsTypedTree b) (input_in t)
  input_typed (node at op no_trees) h = tt
  input_typed (node at op (trees t ts)) h = (
    record { small = h.typed.small.1.0; whole = first_whole op t h.is h.typed.whole.2.0 },
    tt,
  )

  pub inputs_typed : (ts : List (Tree ℕ)) → AllByRecursion (IsAggregate b g) ts
      → AllByRecursion (IsTypedTree b) (inputs_in ts)
  inputs_typed [] h = tt
  inputs_typed (t ∷ ts) h =
      both_are (IsTypedTree b) (input_in t) (inputs_in ts) (input_typed t h.0)
      (inputs_typed ts h.1)

  input_of_rows : (t : Tree ℕ) → IsAggregate b g t → g.is_aggregating ≡ true
      → AllByRecursion (IsOfRows b) (input_in t)
  input_of_rows (node at op no_trees) h is = tt
  input_of_rows (node at op (trees t ts)) h is = (
    record {
      typed = (input_typed (node at op (trees t ts)) h).0;
      plain = (no_more (misplaced b true t) (all_misplaced b true ts) h.plain).0;
      balanceless = (no_more (balances t) (all_balances ts) (h.balanceless is)).0;
    },
    tt,
  )

  -- of groups, what is gathered may be computed of each row
  pub inputs_of_rows : (ts : List (Tree ℕ)) → AllByRecursion (IsAggregate b g) ts
      → g.is_aggregating ≡ true → AllByRecursion (IsOfRows b) (inputs_in ts)
  inputs_of_rows [] h is = tt
  inputs_of_rows (t ∷ ts) h is =
      both_are (IsOfRows b) (input_in t) (inputs_in ts) (input_of_rows t h.0 is)
      (inputs_of_rows ts h.1 is)

-- ---- what is shown

module _ (b : Bounds) (g : Grouping) where
  is_shown : (t : Tree ℕ) → IsTypedTree b t → shown_causes b g t ≡ [] → IsShown b g t
  is_shown t typed e =
      let h = no_more (shape_causes b t) (misplaced b (not g.is_aggregating) t ++ grouped_causes g t)
      e in
      let k = no_more (misplaced b (not g.is_aggregating) t) (grouped_causes g t) h.1 in
      record { typed = typed; placed = k.0; grouped = k.1 }

  targets_shown : (ts : List Target) → each (target_causes b g) ts ≡ []
      → AllByRecursion IsSmallTarget ts → AllByRecursion (HasWholeShapes b) (map target_tree ts)
      → AllByRecursion (IsShown b g) (map target_tree ts)
  targets_shown [] e small whole = tt
  targets_shown (t ∷ ts) e small whole =
      let h = no_more (target_causes b g t) (each (target_causes b g) ts) e in (
        is_shown t.tree (record { small = small.0.1; whole = whole.0 }) h.0,
        targets_shown ts h.1 small.1 whole.1,
      )

  order_shown : (n : ℕ) (ts : List Target) (place : ℕ) (k : ItemKind)
      → order_causes_by b g ts place k ≡ [] → IsSmallKind n k
      → AllByRecursion (HasWholeShapes b) (tree_by k) → AllByRecursion (IsShown b g) (tree_by k)
  order_shown n ts place (target_item index) e small whole = tt
  order_shown n ts place (tree_item t) e small whole =
      let h = no_more (shown_causes b g t) (order_causes_at b (place_of t) t) e in
      (is_shown t (record { small = small; whole = whole.0 }) h.0, tt)

  items_shown : (n : ℕ) (ts : List Target) (is : List Item)
      → each (order_item_causes b g ts) is ≡ [] → AllByRecursion (IsSmallItem n) is
      → AllByRecursion (HasWholeShapes b) (own_trees is)
      → AllByRecursion (IsShown b g) (own_trees is)
  items_shown n ts [] e small whole = tt
  items_shown n ts (i ∷ is) e small whole =
      let h = no_more (order_item_causes b g ts i) (each (order_item_causes b g ts) is) e in
      both_are (IsShown b g) (tree_by i.kind) (own_trees is)
      (order_shown n ts i.place i.kind h.0 small.0
      (all_first (HasWholeShapes b) (tree_by i.kind) (own_trees is) whole))
      (items_shown n ts is h.1 small.1
      (all_second (HasWholeShapes b) (tree_by i.kind) (own_trees is) whole))

-- ---- keys and filters

of_rows : (b : Bounds) (t : Tree ℕ) → IsTypedTree b t → row_causes b t ≡ [] → IsOfRows b t
of_rows b t typed e =
    let h = no_more (shape_causes b t) (misplaced b true t ++ balances t) e in
    let k = no_more (misplaced b true t) (balances t) h.1 in
    record { typed = typed; plain = k.0; balanceless = k.1 }

filter_of_rows : (b : Bounds) (o : Option (Tree ℕ)) → filter_causes b o ≡ []
    → IfSome o IsSmallTree → AllByRecursion (HasWholeShapes b) (filter_trees o)
    → IfSome o (IsOfRows b)
filter_of_rows b None e small whole = tt
filter_of_rows b (Some t) e small whole =
    let h = no_more (row_causes b t)
    (where_true (isnt_truth (shape_of b t)) (cause_at kind.KindClash (place_of t))) e in
    of_rows b t (record { small = small; whole = whole.0 }) h.0

-- where rows are grouped, what is shown and has no aggregate may be a key
shown_key : (b : Bounds) (g : Grouping) (t : Tree ℕ) → IsShown b g t → g.is_aggregating ≡ true
    → misplaced b true t ≡ [] → IsOfRows b t
shown_key b g t h is plain =
    record { typed = h.typed; plain = plain; balanceless = (in_groups b g t h is).1 }

not_told : {A : Type 0} (o : Option A) (c : TypeCause) → where_true (is_some o) c ≡ []
    → o ≡ None
not_told None c e = refl
not_told (Some x) c e = absurd cc

module _ (b : Bounds) (g : Grouping) (is : g.is_aggregating ≡ true) where
  named_key : (ts : List Target) (place index : ℕ) → named_group_causes b place (slice_get ts index) ≡ []
      → AllByRecursion (IsShown b g) (map target_tree ts)
      → AllByRecursion (IsOfRows b) (tree_of_found (slice_get ts index))
  named_key [] place index e shown = tt
  named_key (t ∷ ts) place zero e shown = (
    shown_key b g t.tree shown.0 is
        (none_told (misplaced b true t.tree)
        (not_told (least_of (misplaced b true t.tree)) (cause_at kind.AggregateMisplaced place) e)),
    tt,
  )
  named_key (t ∷ ts) place (suc index) e shown = named_key ts place index e shown.1

  item_key : (n : ℕ) (ts : List Target) (place : ℕ) (k : ItemKind)
      → group_causes_by b ts place k ≡ [] → IsSmallKind n k
      → AllByRecursion (HasWholeShapes b) (tree_by k)
      → AllByRecursion (IsShown b g) (map target_tree ts)
      → AllByRecursion (IsOfRows b) (key_by ts k)
  item_key n ts place (target_item index) e small whole shown = named_key ts place index e shown
  item_key n ts place (tree_item t) e small whole shown =
      (of_rows b t (record { small = small; whole = whole.0 }) e, tt)

  item_keys : (n : ℕ) (ts : List Target) (is : List Item)
      → each (group_item_causes b ts) is ≡ [] → AllByRecursion (IsSmallItem n) is
      → AllByRecursion (HasWholeShapes b) (own_trees is)
      → AllByRecursion (IsShown b g) (map target_tree ts)
      → AllByRecursion (IsOfRows b) (keys_of ts is)
  item_keys n ts [] e small whole shown = tt
  item_keys n ts (i ∷ is) e small whole shown =
      let h = no_more (group_item_causes b ts i) (each (group_item_causes b ts) is) e in
      both_are (IsOfRows b) (key_of ts i) (keys_of ts is)
      (item_key n ts i.place i.kind h.0 small.0
      (all_first (HasWholeShapes b) (tree_by i.kind) (own_trees is) whole) shown)
      (item_keys n ts is h.1 small.1
      (all_second (HasWholeShapes b) (tree_by i.kind) (own_trees is) whole) shown)

  plain_key : (has : Bool) (t : Target) → target_aggregates t ≡ has → IsShown b g t.tree
      → AllByRecursion (IsOfRows b) (cond has [] (t.tree ∷ []))
  plain_key true t e shown = tt
  plain_key false t e shown =
      (shown_key b g t.tree shown is (none_misplaced b true t.tree e), tt)

  plain_keys : (ts : List Target) → AllByRecursion (IsShown b g) (map target_tree ts)
      → AllByRecursion (IsOfRows b) (plain_targets ts)
  plain_keys [] shown = tt
  plain_keys (t ∷ ts) shown =
      both_are (IsOfRows b) (plain_target t) (plain_targets ts)
      (plain_key (target_aggregates t) t refl shown.0) (plain_keys ts shown.1)

target_keys : (is : Bool) (b : Bounds) (g : Grouping) (ts : List Target) → g.is_aggregating ≡ is
    → AllByRecursion (IsShown b g) (map target_tree ts)
    → AllByRecursion (IsOfRows b) (keys_of_targets is ts)
target_keys true b g ts e shown = plain_keys b g e ts shown
target_keys false b g ts e shown = tt

keys : (b : Bounds) (n : ℕ) (ts : List Target) (o : Option (List Item))
    → group_causes b ts o ≡ [] → IfSome o (AreSmallItems n)
    → AllByRecursion (HasWholeShapes b) (group_trees o)
    → AllByRecursion (IsShown b (grouping_by ts o)) (map target_tree ts)
    → AllByRecursion (IsOfRows b) (grouping_by ts o).keys
keys b n ts None e small whole shown =
    target_keys (one_target_aggregates ts) b (grouping_by ts None) ts refl shown
keys b n ts (Some is) e small whole shown =
    item_keys b (grouping_by ts (Some is)) refl n ts is e small.all whole shown

-- ---- how many keys

found_few : (o : Option Target) → length (tree_of_found o) ≤ 1
found_few None = omega arith
found_few (Some t) = omega arith

key_few : (ts : List Target) (k : ItemKind) → length (key_by ts k) ≤ 1
key_few ts (target_item index) = found_few (slice_get ts index)
key_few ts (tree_item t) = omega arith

item_keys_few : (ts : List Target) (is : List Item) → length (keys_of ts is) ≤ length is
item_keys_few ts [] = omega arith
item_keys_few ts (i ∷ is) =
    let e = length-append (key_of ts i) (keys_of ts is) in
    omega (arith, e, key_few ts i.kind, item_keys_few ts is)

plain_few : (has : Bool) (t : Tree ℕ) → length (cond has [] (t ∷ [])) ≤ 1
plain_few true t = omega arith
plain_few false t = omega arith

plain_keys_few : (ts : List Target) → length (plain_targets ts) ≤ length ts
plain_keys_few [] = omega arith
plain_keys_few (t ∷ ts) =
    let e = length-append (plain_target t) (plain_targets ts) in
    omega (arith, e, plain_few (target_aggregates t) t.tree, plain_keys_few ts)

target_keys_few : (is : Bool) (ts : List Target) → length (keys_of_targets is ts) ≤ length ts
target_keys_few true ts = plain_keys_few ts
target_keys_few false ts = omega arith

keys_few : (n : ℕ) (ts : List Target) (o : Option (List Item)) → length ts ≤ MOST_ITEMS
    → IfSome o (AreSmallItems n) → length (grouping_by ts o).keys ≤ MOST_ITEMS
keys_few n ts None few small =
    let h = target_keys_few (one_target_aggregates ts) ts in omega (arith, h, few)
keys_few n ts (Some is) few small = let h = item_keys_few ts is in omega (arith, h, small.few)

-- ---- queries

-- What the sections of a query's program compute.
pub record IsPlanned (b : Bounds) (q : Asked) : Type 0 where
  pub from : IfSome q.filters.from (IsOfRows b)
  pub filter : IfSome q.filters.filter (IsOfRows b)
  pub shown : AllByRecursion (IsShown b (grouping_of q)) (plan q).shown
  pub keys : AllByRecursion (IsOfRows b) (grouping_of q).keys
  pub few : length (grouping_of q).keys ≤ MOST_ITEMS
  pub aggregates : AllByRecursion (IsAggregate b (grouping_of q)) (plan q).aggregates

pub is_planned : (b : Bounds) (q : Asked) → IsTyped b q → IsSmall q → IsPlanned b q
is_planned b q typed small =
    let g = grouping_of q in
    let w = typed_are_whole b q typed in
    let from = filter_trees q.filters.from in
    let filter = filter_trees q.filters.filter in
    let group = group_trees q.group in
    let order = own_trees q.order.items in
    let w1 = all_second (HasWholeShapes b) (map target_tree q.targets)
    (from ++ (filter ++ (group ++ order))) w in
    let w2 = all_second (HasWholeShapes b) from (filter ++ (group ++ order)) w1 in
    let w3 = all_second (HasWholeShapes b) filter (group ++ order) w2 in
    let h = no_more (each (target_causes b g) q.targets) _ typed in
    let k = no_more (filters_causes b q.filters) _ h.1 in
    let f = no_more (filter_causes b q.filters.from) (filter_causes b q.filters.filter) k.0 in
    let o = no_more (group_causes b q.targets q.group) _ k.1 in
    let n = length q.targets in
    let targets = targets_shown b g q.targets h.0 small.targets
    (all_first (HasWholeShapes b) (map target_tree q.targets)
    (from ++ (filter ++ (group ++ order))) w) in
    let all = are_added (IsShown b g) order (map target_tree q.targets) targets
    (items_shown b g n q.targets q.order.items o.1 small.order.all
    (all_second (HasWholeShapes b) group order w3)) in
    record {
      from = filter_of_rows b q.filters.from f.0 small.from
          (all_first (HasWholeShapes b) from (filter ++ (group ++ order)) w1);
      filter = filter_of_rows b q.filters.filter f.1 small.filter
          (all_first (HasWholeShapes b) filter (group ++ order) w2);
      shown = all;
      keys = keys b n q.targets q.group o.0 small.group
          (all_first (HasWholeShapes b) group order w3) targets;
      few = keys_few n q.targets q.group small.few small.group;
      aggregates = are_added (IsAggregate b g) (aggregates_of (shown q)) [] tt
          (all_aggregates_shown b g (shown q) all);
    }
