-- What stands behind a list of causes that is empty.
use Rattle.std.proofs.Common.{◌≡◌, ℕ, zero, suc, Bool, true, false, not, List, [], ◌∷◌, ◌++◌}
use Rattle.std.proofs.Common.{Option, Some, None, refl, sym, ap, ◌∙◌, arith}
use Rattle.std.specs.List.{IsAmong, slice_get}
use Rattle.limits.specs.declared.bounds.Bounds.{Bounds}
use Rattle.bql_parser.specs.Asked.{Target, ItemKind, target_item, tree_item}
use Rattle.bql_tree.specs.Tree.{Tree}
use Rattle.query_rows.specs.declared.shape.Shape.{Shape}
use Rattle.query_rows.specs.declared.shape.Shape.TheVariants as shape
use Rattle.bql_types.specs.Cause.{where_true}
use Rattle.bql_types.specs.Laws.{IsShaped, IsFilter, IsOrder, TypedHaveShapes}
use Rattle.bql_types.specs.Shaped.{shape_of, shape_causes}
use Rattle.bql_types.specs.Sought.{misplaced, balances}
use Rattle.bql_types.specs.Typing.{each, Grouping, grouping_of, shown_causes, row_causes}
use Rattle.bql_types.specs.Typing.{isnt_truth}
use Rattle.bql_types.specs.Typing.{filter_causes, filters_causes, target_causes, group_causes}
use Rattle.bql_types.specs.Typing.{order_item_causes, isnt_ordered, is_ordered, grouped_causes}
use Rattle.bql_types.specs.Typing.{order_causes_at, order_causes_by}
use Rattle.bql_types.specs.Typing.{named_order_causes}
use Rattle.bql_types.specs.declared.cause.TypeCause.{TypeCause}
use Rattle.bql_types.proofs.LawFacts.{no_more, shapes_are_found}

among : {A : Type 0} (f : A → List TypeCause) (xs : List A) (x : A) → each f xs ≡ [] → IsAmong xs x
    → f x ≡ []
among f [] x e (i, (b, h)) = absurd (omega (arith, b))
among f (y ∷ ys) x e (zero, (b, h)) = ap f h ∙ (no_more (f y) (each f ys) e).0
among f (y ∷ ys) x e (suc i, (b, h)) =
    among f ys x (no_more (f y) (each f ys) e).1 (i, (omega (arith, b), h))

not_told : (is : Bool) (c : TypeCause) → where_true is c ≡ [] → is ≡ false
not_told true c e = absurd cc
not_told false c e = refl

truth : (s : Shape) → isnt_truth (Some s) ≡ false → s ≡ shape.Truth
truth shape.Truth e = refl
truth shape.Text e = absurd cc
truth shape.Day e = absurd cc
truth shape.Set e = absurd cc
truth (shape.Number p m) e = absurd cc
truth (shape.Amount p m) e = absurd cc
truth (shape.Position u v) e = absurd cc
truth (shape.Inventory p u v) e = absurd cc

is_filter : (b : Bounds) (o : Option (Tree ℕ)) → filter_causes b o ≡ [] → IsFilter b o
is_filter b None e = tt
is_filter b (Some t) e =
    let h = no_more (row_causes b t) _ e in
    let k = no_more (shape_causes b t) (misplaced b true t ++ balances t) h.0 in
    let s = shapes_are_found b t k.0 in
    s.1
    ∙ ap Some (truth s.0 (ap isnt_truth (sym s.1) ∙ not_told (isnt_truth (shape_of b t)) _ h.1))

ordered : (b : Bool) → not b ≡ false → b ≡ true
ordered true e = refl
ordered false e = absurd cc

has_order : (b : Bounds) (place : ℕ) (t : Tree ℕ) (s : Shape) → shape_of b t ≡ Some s
    → order_causes_at b place t ≡ [] → is_ordered s ≡ true
has_order b place t s h e =
    ordered (is_ordered s)
    (ap isnt_ordered (sym h) ∙ not_told (isnt_ordered (shape_of b t)) _ e)

found_target : (b : Bounds) (place : ℕ) (ts : List Target) (index : ℕ) (o : Option Target)
    → slice_get ts index ≡ o → named_order_causes b place o ≡ []
    → ((t : Target) → slice_get ts index ≡ Some t → IsShaped b t.tree)
    → IsOrder b ts (target_item index)
found_target b place ts index None is e h = absurd cc
found_target b place ts index (Some t) is e h =
    let s = h t is in (t, s.0, is, s.1, has_order b place t.tree s.0 s.1 e)

own_order : (b : Bounds) (g : Grouping) (place : ℕ) (ts : List Target) (t : Tree ℕ)
    → shown_causes b g t ++ order_causes_at b place t ≡ [] → IsOrder b ts (tree_item t)
own_order b g place ts t e =
    let h = no_more (shown_causes b g t) (order_causes_at b place t) e in
    let k = no_more (shape_causes b t)
    (misplaced b (not g.is_aggregating) t ++ grouped_causes g t) h.0 in
    let s = shapes_are_found b t k.0 in
    (s.0, s.1, has_order b place t s.0 s.1 h.1)

is_shaped : (b : Bounds) (g : Grouping) (t : Target) → target_causes b g t ≡ [] → IsShaped b t.tree
is_shaped b g t e =
    shapes_are_found b t.tree
    (no_more (shape_causes b t.tree)
    (misplaced b (not g.is_aggregating) t.tree ++ grouped_causes g t.tree) e).0

within : (ts : List Target) (index : ℕ) (t : Target) → slice_get ts index ≡ Some t → IsAmong ts t
within [] index t e = absurd cc
within (u ∷ ts) zero t e = (zero, (omega arith, sym (some_is u t e)))
  where
    some_is : (u t : Target) → Some u ≡ Some t → u ≡ t
    some_is u t e = cc
within (u ∷ ts) (suc i) t e = let h = within ts i t e in (suc h.0, (omega (arith, h.1.0), h.1.1))

order_by : (b : Bounds) (g : Grouping) (ts : List Target) (place : ℕ) (kind : ItemKind)
    → order_causes_by b g ts place kind ≡ []
    → ((t : Target) → IsAmong ts t → IsShaped b t.tree) → IsOrder b ts kind
order_by b g ts place (target_item index) e h =
    found_target b place ts index (slice_get ts index) refl e (λ t is. h t (within ts index t is))
order_by b g ts place (tree_item t) e h = own_order b g _ ts t e

pub typed_have_shapes : TypedHaveShapes
typed_have_shapes b s e =
    let g = grouping_of s in
    let h = no_more (each (target_causes b g) s.targets) _ e in
    let k = no_more (filters_causes b s.filters) _ h.1 in
    let f = no_more (filter_causes b s.filters.from) (filter_causes b s.filters.filter) k.0 in
    let o = no_more (group_causes b s.targets s.group) _ k.1 in
    let ts = λ (t : Target) (m : IsAmong s.targets t).
    is_shaped b g t (among (target_causes b g) s.targets t h.0 m) in
    record {
      targets = ts;
      from = is_filter b s.filters.from f.0;
      filter = is_filter b s.filters.filter f.1;
      order = λ i m. order_by b g s.targets i.place i.kind
          (among (order_item_causes b g s.targets) s.order.items i o.1 m) ts;
    }
