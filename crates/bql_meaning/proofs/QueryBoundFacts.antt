-- By whichever bounds a query has a type, its rows are the same.
use Rattle.std.proofs.Common.{◌≡◌, ℕ, zero, suc, ◌&&◌, List, [], ◌∷◌}
use Rattle.std.proofs.Common.{map, filter, Option, Some, None, refl, ap, ◌∙◌, cond}
use Rattle.std.proofs.Common.{arith}
use Rattle.std.specs.List.{AllByRecursion, IsAmong, slice_get}
use Rattle.limits.specs.declared.bounds.Bounds.{Bounds}
use Rattle.bql_parser.specs.Answer.{query_of}
use Rattle.bql_grammar.specs.Clause as clause
use Rattle.bql_parser.specs.Asked.{Asked, Target, Item, ItemKind, target_item, tree_item}
use Rattle.bql_parser.specs.declared.query.Query.{Query}
use Rattle.bql_tree.specs.Tree.{Tree}
use Rattle.bql_types.proofs.TypedFacts.{typed_have_shapes}
use Rattle.bql_types.specs.Laws.{HasShapes, IsShaped, IsFilter, IsOrder}
use Rattle.bql_types.specs.Typing.{IsTyped, Grouping, grouping_of}
use Rattle.query_rows.specs.Same.{same_values, each_once}
use Rattle.query_rows.specs.Row.{Row}
use Rattle.query_values.specs.Operation.{is_true}
use Rattle.bql_meaning.specs.Answer.{holds, passing, balanced, unbalanced, groups, grouped, alone}
use Rattle.bql_meaning.specs.Answer.{target_value, target_values, item_value, kind_value, row_of}
use Rattle.bql_meaning.specs.Answer.{rows_of}
use Rattle.bql_meaning.specs.Keys.{IsTypedKey}
use Rattle.bql_meaning.specs.Meaning.{value_of}
use Rattle.bql_meaning.specs.Reading.{Reading}
use Rattle.bql_meaning.proofs.BoundlessFacts.{by_any_bounds}
use Rattle.bql_meaning.proofs.TypedFacts.{keys_are_typed}

all_among : {X : Type 0} (P : X → Type 0) (xs : List X) → ((x : X) → IsAmong xs x → P x)
    → AllByRecursion P xs
all_among P [] h = tt
all_among P (x ∷ xs) h = (
  h x (0, (omega arith, refl)),
  all_among P xs (λ y among. let low = among.1.0 in
      h y (suc among.0, (omega (arith, low), among.1.1))),
)

module _ (b c : Bounds) where
  abbrev HasOneValue : Tree ℕ → Type 0
  HasOneValue t = (rows : List Reading) → value_of b rows t ≡ value_of c rows t

  abbrev HaveOneValue : List (Tree ℕ) → Type 0
  HaveOneValue ts = AllByRecursion HasOneValue ts

  shaped : (t : Tree ℕ) → IsShaped b t → IsShaped c t → HasOneValue t
  shaped t h k = by_any_bounds b c t h.0 k.0 h.1 k.1

  -- ---- the rows that pass

  same_filter : (f : Option (Tree ℕ)) → IsFilter b f → IsFilter c f → (r : Row)
      → holds b f r ≡ holds c f r
  same_filter None h k r = refl
  same_filter (Some t) h k r = ap is_true (by_any_bounds b c t _ _ h k (unbalanced r ∷ []))

  same_passing : (f : clause.Filters (Tree ℕ)) → IsFilter b f.from → IsFilter c f.from
      → IsFilter b f.filter → IsFilter c f.filter → (rows : List Row)
      → passing b f rows ≡ passing c f rows
  same_passing f h k m n rows = λ i.
      balanced []
      (filter (λ r. same_filter f.from h k r i && same_filter f.filter m n r i) rows)

  -- ---- groups and rows

  same_values_at : (ts : List (Tree ℕ)) → HaveOneValue ts → (rows : List Reading)
      → map (value_of b rows) ts ≡ map (value_of c rows) ts
  same_values_at [] all rows = refl
  same_values_at (t ∷ ts) all rows = λ i. all.0 rows i ∷ same_values_at ts all.1 rows i

  same_groups : (keys : List (Tree ℕ)) → HaveOneValue keys → (rows : List Reading)
      → groups b keys rows ≡ groups c keys rows
  same_groups keys all rows = λ i.
      map (λ values. filter (λ r. same_values (same_values_at keys all (r ∷ []) i) values) rows)
      (each_once [] (map (λ r. same_values_at keys all (r ∷ []) i) rows))

  same_grouped : (g : Grouping) → HaveOneValue g.keys → (rows : List Reading)
      → grouped b g rows ≡ grouped c g rows
  same_grouped g all rows =
      ap (λ z. cond g.is_aggregating z (alone rows)) (same_groups g.keys all rows)

  -- ---- what is shown, and what orders rows

  abbrev HaveOneTarget : List Target → Type 0
  HaveOneTarget ts = AllByRecursion (λ (t : Target). HasOneValue t.tree) ts

  all_targets : (ts : List Target) → AllByRecursion (λ (t : Target). IsShaped b t.tree) ts
      → AllByRecursion (λ (t : Target). IsShaped c t.tree) ts → HaveOneTarget ts
  all_targets [] h k = tt
  all_targets (t ∷ ts) h k = (shaped t.tree h.0 k.0, all_targets ts h.1 k.1)

  same_targets : (ts : List Target) → HaveOneTarget ts → (rows : List Reading)
      → target_values b ts rows ≡ target_values c ts rows
  same_targets [] all rows = refl
  same_targets (t ∷ ts) all rows = λ i. all.0 rows i ∷ same_targets ts all.1 rows i

  same_target : (ts : List Target) → HaveOneTarget ts → (index : ℕ) (rows : List Reading)
      → target_value b rows (slice_get ts index) ≡ target_value c rows (slice_get ts index)
  same_target [] all index rows = refl
  same_target (t ∷ ts) all zero rows = all.0 rows
  same_target (t ∷ ts) all (suc index) rows = same_target ts all.1 index rows

  same_kind : (ts : List Target) → HaveOneTarget ts → (kind : ItemKind) → IsOrder b ts kind
      → IsOrder c ts kind → (rows : List Reading)
      → kind_value b ts rows kind ≡ kind_value c ts rows kind
  same_kind ts all (target_item index) h k rows = same_target ts all index rows
  same_kind ts all (tree_item t) h k rows = shaped t (h.0, h.1) (k.0, k.1) rows

  same_items : (ts : List Target) → HaveOneTarget ts → (is : List Item)
      → AllByRecursion (λ (i : Item). IsOrder b ts i.kind) is
      → AllByRecursion (λ (i : Item). IsOrder c ts i.kind) is → (rows : List Reading)
      → map (item_value b ts rows) is ≡ map (item_value c ts rows) is
  same_items ts all [] h k rows = refl
  same_items ts all (i ∷ is) h k rows = λ j.
      same_kind ts all i.kind h.0 k.0 rows j ∷ same_items ts all is h.1 k.1 rows j

  same_row : (s : Asked) → HasShapes b s → HasShapes c s → (rows : List Reading)
      → row_of b s rows ≡ row_of c s rows
  same_row s h k rows = λ i.
      record { shown = same_targets s.targets all rows i; ranks = items i }
    where
      all : HaveOneTarget s.targets
      all =
          all_targets s.targets (all_among _ s.targets h.targets)
          (all_among _ s.targets k.targets)

      items : map (item_value b s.targets rows) s.order.items
          ≡ map (item_value c s.targets rows) s.order.items
      items =
          same_items s.targets all s.order.items (all_among _ s.order.items h.order)
          (all_among _ s.order.items k.order) rows

  same_keys : (ts : List (Tree ℕ)) → AllByRecursion (IsTypedKey b) ts
      → AllByRecursion (IsTypedKey c) ts → HaveOneValue ts
  same_keys [] h k = tt
  same_keys (t ∷ ts) h k =
      (shaped t (h.0.shape, h.0.has) (k.0.shape, k.0.has), same_keys ts h.1 k.1)

  same_rows : (s : Asked) → HasShapes b s → HasShapes c s
      → AllByRecursion (IsTypedKey b) (grouping_of s).keys
      → AllByRecursion (IsTypedKey c) (grouping_of s).keys
      → (rows : List Row) → rows_of b s rows ≡ rows_of c s rows
  same_rows s h k m n rows =
      ap (λ passed. map (row_of b s) (grouped b (grouping_of s) passed))
      (same_passing s.filters h.from k.from h.filter k.filter rows)
      ∙ ap (map (row_of b s))
      (same_grouped (grouping_of s) (same_keys (grouping_of s).keys m n)
      (passing c s.filters rows))
      ∙ (λ i. map (λ group. same_row s h k group i)
      (grouped c (grouping_of s) (passing c s.filters rows)))

pub rows_by_any_bounds : (b c : Bounds) (q : Query) → IsTyped b (query_of q)
    → IsTyped c (query_of q) → (rows : List Row)
    → rows_of b (query_of q) rows ≡ rows_of c (query_of q) rows
rows_by_any_bounds b c q h k rows =
    same_rows b c (query_of q) (typed_have_shapes b (query_of q) h)
    (typed_have_shapes c (query_of q) k) (keys_are_typed b q h) (keys_are_typed c q k) rows
