-- Which aggregates stand in what is computed: none of a row, and of a group those that are gathered.
use Rattle.std.proofs.Common.{◌≡◌, ℕ, zero, suc, ◌&&◌, ◌||◌, Bool, true, false, cond, List, []}
use Rattle.std.proofs.Common.{◌∷◌, ◌++◌, Some, refl, sym, ap, ◌∙◌, inl, inr}
use Rattle.std.specs.Prelude.{slice_get}
use Rattle.std.specs.List.{AllByRecursion, list_any}
use Rattle.std.specs.Option.{is_some}
use Rattle.limits.specs.declared.bounds.Bounds.{Bounds}
use Rattle.bql_lowering.specs.Lowered.{has}
use Rattle.bql_parser.specs.Asked.{Asked}
use Rattle.bql_plan.proofs.LawFacts.{aggregates_are_counted}
use Rattle.bql_plan.specs.Labels.{all_labelled, labelled}
use Rattle.bql_plan.specs.Plan.{aggregates_in, aggregates_of, all_aggregates, index_of, plan, shown}
use Rattle.bql_plan.specs.Whole.{AreWhole, IsWhole}
use Rattle.bql_tree.specs.Tree.{Operation, leaf_of, Tree, node, Trees, no_trees, trees}
use Rattle.bql_tree.specs.declared.tree.Leaf.TheVariants as leaf
use Rattle.bql_types.proofs.LawFacts.{no_more}
use Rattle.bql_types.specs.Cause.{cause_at, where_true}
use Rattle.bql_types.specs.Same.{same}
use Rattle.bql_types.specs.Shaped.{is_equation, is_null, shape_of, shapes_of}
use Rattle.bql_types.specs.Sought.{all_misplaced, have_shapes, is_aggregate, is_told, misplaced}
use Rattle.bql_types.specs.declared.cause.TypeCause.{TypeCause}
use Rattle.bql_types.specs.declared.cause.TypeCauseKind.TheVariants as kind
use Rattle.bql_compiler.proofs.ConstantFacts.{all_first, all_second}
use Rattle.bql_compiler.proofs.LoweredReadFacts.{no_equation}
use Rattle.bql_compiler.proofs.TypedFacts.{by_rule}
use Rattle.query_rows.specs.declared.shape.Shape.{Shape}
use Rattle.bql_compiler.proofs.CarriedListFacts.{all_among, some_is}

true_false : true ≡ false → ⊥
true_false e = cc

-- ---- of a row

not_told : (so : Bool) (c : TypeCause) → where_true so c ≡ [] → so ≡ false
not_told true c e = cc
not_told false c e = refl

second_of : (a b : Bool) → (a && b) ≡ true → b ≡ true
second_of true b e = e
second_of false b e = cc

null_has_none : (t : Tree ℕ) → is_null t ≡ true → aggregates_in t ≡ []
null_has_none (node at (leaf_of leaf.Null) no_trees) e = refl
null_has_none (node at (leaf_of leaf.Null) (trees t ts)) e = absurd cc
null_has_none (node at (leaf_of l) parts) e = absurd cc
null_has_none (node at op parts) e = absurd cc

-- an aggregate whose parts have shapes would be told
not_here : (b : Bounds) (at : ℕ) (op : Operation) (parts : Trees ℕ) (s : Shape)
    → shape_of b (node at op parts) ≡ Some s
    → where_true (is_told b (is_aggregate op && true) parts) (cause_at kind.AggregateMisplaced at) ≡ []
    → is_aggregate op ≡ false
not_here b at op parts s e none = by (is_aggregate op) refl
  where
    by : (is : Bool) → is_aggregate op ≡ is → is_aggregate op ≡ false
    by false is = is
    by true is =
        let k = by_rule b op parts s e in
        let shapes : have_shapes b parts ≡ true =
        ap (λ eq. is_some (shapes_of b eq parts)) (sym (no_equation op is)) ∙ ap is_some k.are in
        absurd (true_false ((λ i. (sym is i && true) && sym shapes i)
        ∙ not_told (is_told b (is_aggregate op && true) parts) (cause_at kind.AggregateMisplaced at) none))

mutual
  pub none_inside : (b : Bounds) (t : Tree ℕ) → IsWhole t (labelled b t) → misplaced b true t ≡ []
      → aggregates_in t ≡ []
  none_inside b (node at op parts) whole none =
      let m =
      no_more (where_true (is_told b (is_aggregate op && true) parts)
      (cause_at kind.AggregateMisplaced at)) (all_misplaced b (is_aggregate op || true) parts) none in
      let plain = not_here b at op parts whole.0 whole.1 m.0 in
      ap (λ is. cond is (node at op parts ∷ []) (all_aggregates parts)) plain
      ∙ none_in_parts b (is_equation op) parts whole.2
      (ap (λ is. all_misplaced b (is || true) parts) (sym plain) ∙ m.1)

  none_in_parts : (b : Bounds) (eq : Bool) (ts : Trees ℕ) → AreWhole eq ts (all_labelled b ts)
      → all_misplaced b true ts ≡ [] → all_aggregates ts ≡ []
  none_in_parts b eq no_trees whole none = refl
  none_in_parts b eq (trees t ts) (inl null, whole) none =
      λ i. null_has_none t (second_of eq (is_null t) null) i
      ++ none_in_parts b eq ts whole (no_more (misplaced b true t) (all_misplaced b true ts) none).1 i
  none_in_parts b eq (trees t ts) (inr one, whole) none =
      let m = no_more (misplaced b true t) (all_misplaced b true ts) none in
      λ i. none_inside b t one m.0 i ++ none_in_parts b eq ts whole m.1 i

-- ---- of a group

-- what stands among some is one of them
keyed_at : (ts : List (Tree ℕ)) (i : ℕ) (t u : Tree ℕ) → slice_get ts i ≡ Some u
    → same t u ≡ true → list_any (same t) ts ≡ true
keyed_at [] i t u at is = absurd cc
keyed_at (x ∷ ts) zero t u at is =
    ap (λ z. z || list_any (same t) ts) (ap (same t) (some_is x u at) ∙ is)
keyed_at (x ∷ ts) (suc i) t u at is = by (same t x) (keyed_at ts i t u at is)
  where
    by : (b : Bool) → list_any (same t) ts ≡ true → (b || list_any (same t) ts) ≡ true
    by true e = refl
    by false e = e

-- each aggregate of what is shown is counted
all_counted : (q : Asked)
    → AllByRecursion (λ a. has (plan q).aggregates a ≡ true) (aggregates_of (shown q))
all_counted q =
    all_among (λ a. has (plan q).aggregates a ≡ true) (aggregates_of (shown q))
    (λ a m. let s = aggregates_are_counted q a m in
    keyed_at (plan q).aggregates (index_of (plan q).aggregates a) a s.tree s.there s.is)

each_counted : (P : Tree ℕ → Type 0) (ts : List (Tree ℕ)) → AllByRecursion P (aggregates_of ts)
    → AllByRecursion (λ t. AllByRecursion P (aggregates_in t)) ts
each_counted P [] all = tt
each_counted P (t ∷ ts) all = (
  all_first P (aggregates_in t) (aggregates_of ts) all,
  each_counted P ts (all_second P (aggregates_in t) (aggregates_of ts) all),
)

pub shown_are_counted : (q : Asked)
    → AllByRecursion
    (λ t. AllByRecursion (λ a. has (plan q).aggregates a ≡ true) (aggregates_in t)) (plan q).shown
shown_are_counted q =
    each_counted (λ a. has (plan q).aggregates a ≡ true) (shown q) (all_counted q)
