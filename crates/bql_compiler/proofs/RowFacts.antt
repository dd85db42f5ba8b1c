-- Which rows come out: as many values as there are targets and hidden ones, and what orders them has
-- an order.
use Rattle.std.proofs.Common.{◌≡◌, ℕ, zero, suc, ◌≤◌, ◌<◌, true, List}
use Rattle.std.proofs.Common.{[], ◌∷◌, ◌++◌, map, length, Some, refl, sym, ap, ◌∙◌, arith}
use Rattle.std.proofs.lemmas.Bool.{and_from}
use Rattle.std.proofs.lemmas.List.{length-map}
use Rattle.std.proofs.lemmas.Option.{slice_get-map, slice_get_within}
use Rattle.std.specs.Prelude.{option_map, slice_get}
use Rattle.std.specs.List.{AllByRecursion, IsAmong, list_all}
use Rattle.limits.specs.declared.bounds.Bounds.{Bounds}
use Rattle.bql_parser.specs.Asked.{Asked, Item, ItemKind, target_item, tree_item}
use Rattle.bql_plan.proofs.LawFacts.{order_is_shown}
use Rattle.bql_plan.specs.Plan.{index_by, index_for, own_trees, plan, shown, tree_by}
use Rattle.bql_compiler.specs.Program.{output_of, target_name}
use Rattle.bql_tree.specs.Tree.{Tree}
use Rattle.bql_types.proofs.OneShapeFacts.{same_have_one_shape}
use Rattle.bql_types.proofs.TypedFacts.{typed_have_shapes}
use Rattle.bql_types.specs.Laws.{IsOrder}
use Rattle.bql_types.specs.Shaped.{shape_of}
use Rattle.bql_types.specs.Typing.{IsTyped, is_ordered, target_tree}
use Rattle.query_rows.specs.Rules.{is_ranked}
use Rattle.query_rows.specs.declared.shape.Shape.{Shape}
use Rattle.query_rows.specs.declared.shape.Shape.TheVariants as shape
use Rattle.well_shaped.specs.Ends.{AreRow, has_order}
use Rattle.bql_compiler.proofs.GatherFacts.{AreShapes, as_many, shape_at}
use Rattle.bql_compiler.proofs.SchemeListFacts.{IsFront, each_is, front_at, front_length, stay_in_front}

-- ---- the targets stand in front

targets_in_front : (q : Asked) → IsFront (map target_tree q.targets) (shown q)
targets_in_front q = stay_in_front (own_trees q.order.items) (map target_tree q.targets)

pub shown_many : (q : Asked) → length q.targets ≤ length (shown q)
shown_many q =
    let n = length-map q.targets target_tree in
    let m = front_length (map target_tree q.targets) (shown q) (targets_in_front q) in
    omega (arith, n, m)

-- ---- what rows are ordered by

-- at the index stands what has an order
record HasOrder (b : Bounds) (q : Asked) (i : ℕ) : Type 0 where
  tree : Tree ℕ
  shape : Shape
  there : slice_get (shown q) i ≡ Some tree
  has : shape_of b tree ≡ Some shape
  is : is_ordered shape ≡ true

front_among : {A : Type 0} (xs ys : List A) (x : A) → IsAmong xs x → IsAmong (xs ++ ys) x
front_among [] ys x (i, (less, e)) = absurd (omega (arith, less))
front_among (v ∷ xs) ys x (zero, (less, e)) = (zero, (omega arith, e))
front_among (v ∷ xs) ys x (suc i, (less, e)) =
    let k = front_among xs ys x (i, (omega (arith, less), e)) in
    (suc k.0, (omega (arith, k.1.0), k.1.1))

among_behind : {A : Type 0} (xs ys : List A) (x : A) → IsAmong ys x → IsAmong (xs ++ ys) x
among_behind [] ys x h = h
among_behind (v ∷ xs) ys x h =
    let k = among_behind xs ys x h in (suc k.0, (omega (arith, k.1.0), k.1.1))

module _ (b : Bounds) (q : Asked) where
  item_order : (k : ItemKind) → IsOrder b q.targets k
      → ((t : Tree ℕ) → IsAmong (tree_by k) t → IsAmong (own_trees q.order.items) t)
      → HasOrder b q (index_by (shown q) k)
  item_order (target_item index) h own = record {
    tree = h.0.tree;
    shape = h.1;
    there =
        front_at (map target_tree q.targets) (shown q) index h.0.tree (targets_in_front q)
        (slice_get-map target_tree q.targets index ∙ ap (option_map target_tree) h.2);
    has = h.3;
    is = h.4;
  }
  item_order (tree_item t) h own =
      let at = order_is_shown q t (own t (0, (omega arith, refl))) in
      record {
        tree = at.tree;
        shape = h.0;
        there = at.there;
        has = sym (same_have_one_shape b t at.tree at.is) ∙ h.1;
        is = h.2;
      }

  items_order : (is : List Item) → ((i : Item) → IsAmong is i → IsOrder b q.targets i.kind)
      → ((t : Tree ℕ) → IsAmong (own_trees is) t → IsAmong (own_trees q.order.items) t)
      → AllByRecursion (HasOrder b q) (map (index_for (shown q)) is)
  items_order [] h own = tt
  items_order (i ∷ is) h own = (
    item_order i.kind (h i (0, (omega arith, refl)))
        (λ t among. own t (front_among (tree_by i.kind) (own_trees is) t among)),
    items_order is (λ j among. h j (among_behind (i ∷ []) is j among))
        (λ t among. own t (among_behind (tree_by i.kind) (own_trees is) t among)),
  )

  all_order : IsTyped b q → AllByRecursion (HasOrder b q) (plan q).order
  all_order typed =
      items_order q.order.items (typed_have_shapes b q typed).order (λ t among. among)

  pub order_within : IsTyped b q → AllByRecursion (λ i. i < length (shown q)) (plan q).order
  order_within typed =
      each_is (HasOrder b q) (λ i. i < length (shown q))
      (λ i h. slice_get_within (shown q) i h.tree h.there) (plan q).order (all_order typed)

-- ---- rows

ranked : (s : Shape) → is_ordered s ≡ true → is_ranked s ≡ true
ranked (shape.Number p m) e = refl
ranked shape.Text e = refl
ranked shape.Day e = refl
ranked s e = absurd cc

module _ (b : Bounds) (q : Asked) (ss : List Shape) (are : AreShapes b (shown q) ss) where
  has_order_at : (i : ℕ) → HasOrder b q i → has_order (slice_get ss i) ≡ true
  has_order_at i h =
      ap has_order (shape_at b (shown q) ss i h.tree are h.there ∙ h.has) ∙ ranked h.shape h.is

  all_have_order : (is : List ℕ) → AllByRecursion (HasOrder b q) is
      → list_all (λ column. has_order (slice_get ss column)) is ≡ true
  all_have_order [] h = refl
  all_have_order (i ∷ is) h =
      and_from (has_order (slice_get ss i))
      (list_all (λ column. has_order (slice_get ss column)) is) (has_order_at i h.0)
      (all_have_order is h.1)

  pub are_row : IsTyped b q → AreRow (output_of q (plan q)) ss
  are_row typed = record {
    as_many =
        let n = length-map q.targets target_name in
        let m = as_many b (shown q) ss are in
        omega (arith, n, m, shown_many q);
    ordered = all_have_order (plan q).order (all_order b q typed);
  }
