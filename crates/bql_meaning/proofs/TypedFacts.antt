-- The keys of queries that have a type have shapes and no aggregates.
use Rattle.std.proofs.Common.{◌≡◌, ℕ, zero, suc, Bool, true, false, ◌&&◌, ◌||◌, List, [], ◌∷◌, ◌++◌}
use Rattle.std.proofs.Common.{map, Option, Some, None, refl, sym, ap, subst, ◌∙◌, cond, Vec}
use Rattle.std.proofs.Common.{true≢false}
use Rattle.std.specs.declared.alloc.Global.{Global}
use Rattle.std.specs.List.{AllByRecursion, slice_get}
use Rattle.std.specs.Option.{is_some}
use Rattle.limits.specs.declared.bounds.Bounds.{Bounds}
use Rattle.bql_parser.specs.Answer.{query_of}
use Rattle.bql_parser.specs.View.{target_of, item_of}
use Rattle.bql_parser.specs.View.{group_of, kind_of}
use Rattle.bql_parser.specs.Asked.{Asked, Target, Item, ItemKind, target_item, tree_item}
use Rattle.bql_parser.specs.declared.query.Item as items
use Rattle.bql_parser.specs.declared.query.ItemKind as kinds
use Rattle.bql_parser.specs.declared.query.ItemKind.TheVariants as kind
use Rattle.bql_parser.specs.declared.query.Query.{Query}
use Rattle.bql_parser.specs.declared.query.Target as targets
use Rattle.bql_tree.specs.Tree.{Operation, leaf_of, one_of, two_of, call_of, Tree, node, Trees}
use Rattle.bql_tree.specs.Tree.{no_trees, trees, tree_of, row_trees}
use Rattle.bql_tree.specs.declared.tree.Expr.{Expr, Row_of-Expr, end_of-Expr, more_of-Expr}
use Rattle.bql_tree.specs.declared.tree.Expr.TheVariants as expr
use Rattle.bql_tree.specs.declared.tree.Leaf.TheVariants as leaf
use Rattle.bql_types.proofs.ItemFacts.{none_told}
use Rattle.bql_types.proofs.LawFacts.{no_more, shapes_are_found}
use Rattle.bql_types.specs.Cause.{where_true, least_of}
use Rattle.bql_types.specs.Shaped.{shape_of, shapes_of, shape_causes, is_equation, is_null}
use Rattle.bql_types.specs.Sought.{is_aggregate, aggregates, one_aggregates, misplaced, is_told}
use Rattle.bql_types.specs.Sought.{all_misplaced, balances}
use Rattle.bql_types.specs.Typing.{IsTyped, Grouping, grouping_by, grouping_of, each}
use Rattle.bql_types.specs.Typing.{target_causes, keys_of}
use Rattle.bql_types.specs.Typing.{keys_of_targets, one_target_aggregates}
use Rattle.bql_types.specs.Typing.{group_item_causes, plain_targets, filters_causes, group_causes}
use Rattle.bql_types.specs.Typing.{row_causes, plain_target}
use Rattle.bql_types.specs.Typing.{named_group_causes, group_causes_by, key_by}
use Rattle.bql_types.specs.Typing.{tree_of_found, key_of, causes}
use Rattle.bql_types.specs.declared.cause.TypeCause.{TypeCause}
use Rattle.query_rows.specs.declared.shape.Shape.{Shape}
use Rattle.bql_meaning.specs.Keys.{IsTypedKey}
use Rattle.bql_meaning.proofs.BoundlessFacts.{null_part, shaped_part}
use Rattle.bql_meaning.proofs.ValueFacts.{first_shape, FromParts, from_parts}

-- ---- trees of expressions: leaves have no parts

abbrev IsBareLeaf : Operation → Trees ℕ → Type 0
IsBareLeaf (leaf_of l) (trees t ts) = ⊥
IsBareLeaf op parts = Unit {0}

abbrev mutual
  IsProper : Tree ℕ → Type 0
  IsProper (node at op parts) = IsBareLeaf op parts × AreProper parts

  AreProper : Trees ℕ → Type 0
  AreProper no_trees = Unit {0}
  AreProper (trees t ts) = IsProper t × AreProper ts

mutual
  proper : (e : Expr) → IsProper (tree_of e)
  proper (expr.Leaf at op) = (tt, tt)
  proper (expr.One' at op p x) = (tt, (proper x, tt))
  proper (expr.Two' at op p x q y) = (tt, (proper x, (proper y, tt)))
  proper (expr.Call' at f shape row) = (tt, row_proper row)

  row_proper : {m : _} (row : Row_of-Expr m) → AreProper (row_trees row)
  row_proper end_of-Expr = tt
  row_proper (more_of-Expr x rest) = (proper x, row_proper rest)

-- ---- where no aggregate is misplaced that is at fault anywhere, there is none

not_told : (is : Bool) (c : TypeCause) → where_true is c ≡ [] → is ≡ false
not_told true c e = absurd cc
not_told false c e = refl

null_plain : (t : Tree ℕ) → IsProper t → is_null t ≡ true → aggregates t ≡ false
null_plain (node at (leaf_of leaf.Null) no_trees) is e = refl
null_plain (node at (leaf_of leaf.Null) (trees t ts)) is e = absurd is.0
null_plain (node at (leaf_of l) parts) is e = absurd cc
null_plain (node at op parts) is e = absurd cc

second : (a b : Bool) → (a && b) ≡ true → b ≡ true
second true b e = e
second false b e = absurd cc

-- an aggregate whose parts have shapes is told
told_here : (b : Bounds) (op : Operation) (parts : Trees ℕ) (s : Shape) (o : Option (List Shape))
    → is_aggregate op ≡ true → shapes_of b false parts ≡ o → FromParts b op o s
    → is_told b (is_aggregate op && true) parts ≡ true
told_here b op parts s None is has h = absurd h
told_here b op parts s (Some ss) is has h = λ i. (is i && true) && is_some (has i)

no_equation : (op : Operation) → is_aggregate op ≡ true → is_equation op ≡ false
no_equation (leaf_of l) e = refl
no_equation (one_of op) e = refl
no_equation (two_of op) e = absurd cc
no_equation (call_of f) e = refl

here_plain : (b : Bounds) (at : ℕ) (op : Operation) (parts : Trees ℕ) (s : Shape) (c : TypeCause)
    → FromParts b op (shapes_of b (is_equation op) parts) s
    → where_true (is_told b (is_aggregate op && true) parts) c ≡ [] → is_aggregate op ≡ false
here_plain b at op parts s c h none = by (is_aggregate op) refl
  where
    by : (is : Bool) → is_aggregate op ≡ is → is_aggregate op ≡ false
    by false e = e
    by true e =
        let from = subst (λ eq. FromParts b op (shapes_of b eq parts) s) (no_equation op e) h in
        let told = told_here b op parts s (shapes_of b false parts) e refl from in
        let not_so = not_told (is_told b (is_aggregate op && true) parts) c none in
        absurd (true≢false (sym told ∙ not_so))

mutual
  no_aggregate : (b : Bounds) (t : Tree ℕ) → IsProper t → (s : Shape) → shape_of b t ≡ Some s
      → misplaced b true t ≡ [] → aggregates t ≡ false
  no_aggregate b (node at op parts) is s e none =
      let h = from_parts b op (shapes_of b (is_equation op) parts) s e in
      let m = no_more (where_true (is_told b (is_aggregate op && true) parts) _) _ none in
      let plain = here_plain b at op parts s _ h m.0 in
      let rest = sym (ap (λ z. all_misplaced b (z || true) parts) plain) ∙ m.1 in
      (λ i. plain i || one_aggregates parts)
      ∙ by (shapes_of b (is_equation op) parts) refl h
      (λ ss has. no_aggregates b (is_equation op) parts is.1 ss has rest)
    where
      by : (o : Option (List Shape)) → shapes_of b (is_equation op) parts ≡ o
          → FromParts b op o s
          → ((ss : List Shape) → shapes_of b (is_equation op) parts ≡ Some ss
          → one_aggregates parts ≡ false) → one_aggregates parts ≡ false
      by None has h all = absurd h
      by (Some ss) has h all = all ss has

  no_aggregates : (b : Bounds) (eq : Bool) (ts : Trees ℕ) → AreProper ts → (ss : List Shape)
      → shapes_of b eq ts ≡ Some ss → all_misplaced b true ts ≡ [] → one_aggregates ts ≡ false
  no_aggregates b eq no_trees is ss e none = refl
  no_aggregates b eq (trees t ts) is ss e none =
      let m = no_more (misplaced b true t) (all_misplaced b true ts) none in
      by (eq && is_null t) refl (λ s has. no_aggregate b t is.0 s has m.0)
      (λ ss has. no_aggregates b eq ts is.1 ss has m.1)
    where
      by : (null : Bool) → (eq && is_null t) ≡ null
          → ((s : Shape) → shape_of b t ≡ Some s → aggregates t ≡ false)
          → ((ss : List Shape) → shapes_of b eq ts ≡ Some ss → one_aggregates ts ≡ false)
          → (aggregates t || one_aggregates ts) ≡ false
      by true null one rest = λ i.
          null_plain t is.0 (second eq (is_null t) null) i
          || rest ss (sym (null_part b eq t ts ss null) ∙ e) i
      by false other one rest =
          let h = first_shape (shape_of b t) (shapes_of b eq ts) ss
          (sym (shaped_part b eq t ts ss other) ∙ e) in
          λ i. one h.0 h.2 i || rest h.1 h.3 i

-- ---- keys

abbrev AllKeys : Bounds → List (Tree ℕ) → Type 0
AllKeys b keys = AllByRecursion (IsTypedKey b) keys

both_all : (b : Bounds) (xs ys : List (Tree ℕ)) → AllKeys b xs → AllKeys b ys → AllKeys b (xs ++ ys)
both_all b [] ys h k = k
both_all b (x ∷ xs) ys h k = (h.0, both_all b xs ys h.1 k)

-- targets without aggregates
plain_keys : (b : Bounds) (g : Grouping) (ts : List Target) → each (target_causes b g) ts ≡ []
    → AllKeys b (plain_targets ts)
plain_keys b g [] none = tt
plain_keys b g (t ∷ ts) none =
    let h = no_more (target_causes b g t) (each (target_causes b g) ts) none in
    both_all b (plain_target t) (plain_targets ts) (by (aggregates t.tree) refl h.0)
    (plain_keys b g ts h.1)
  where
    by : (gathers : Bool) → aggregates t.tree ≡ gathers → target_causes b g t ≡ []
        → AllKeys b (cond gathers [] (t.tree ∷ []))
    by true e h = tt
    by false e h =
        let s = shapes_are_found b t.tree (no_more (shape_causes b t.tree) _ h).0 in
        (record { shape = s.0; has = s.1; plain = e }, tt)

-- a target that a key may name
record IsProperTarget (b : Bounds) (t : Target) : Type 0 where
  pub proper : IsProper t.tree
  pub shape : Shape
  pub has : shape_of b t.tree ≡ Some shape

proper_targets : (b : Bounds) (g : Grouping) (ts : List Target)
    → AllByRecursion (λ t. IsProper t.tree) ts → each (target_causes b g) ts ≡ []
    → AllByRecursion (IsProperTarget b) ts
proper_targets b g [] are none = tt
proper_targets b g (t ∷ ts) are none =
    let h = no_more (target_causes b g t) (each (target_causes b g) ts) none in
    let s = shapes_are_found b t.tree (no_more (shape_causes b t.tree) _ h.0).0 in
    (record { proper = are.0; shape = s.0; has = s.1 }, proper_targets b g ts are.1 h.1)

at_index : (P : Target → Type 0) (ts : List Target) (index : ℕ) (t : Target)
    → slice_get ts index ≡ Some t → AllByRecursion P ts → P t
at_index P [] index t e all = absurd cc
at_index P (x ∷ ts) zero t e all = let is : x ≡ t = cc in subst P is all.0
at_index P (x ∷ ts) (suc index) t e all = at_index P ts index t e all.1

isnt_some : (o : Option TypeCause) → is_some o ≡ false → o ≡ None
isnt_some None e = refl
isnt_some (Some c) e = absurd cc

named_key : (b : Bounds) (ts : List Target) (place index : ℕ)
    → AllByRecursion (IsProperTarget b) ts → (o : Option Target) → slice_get ts index ≡ o
    → named_group_causes b place o ≡ [] → AllKeys b (tree_of_found o)
named_key b ts place index are None is none = absurd cc
named_key b ts place index are (Some t) is none =
    let target = at_index (IsProperTarget b) ts index t is are in
    let untold = not_told (is_some (least_of (misplaced b true t.tree))) _ none in
    let well = none_told (misplaced b true t.tree)
    (isnt_some (least_of (misplaced b true t.tree)) untold) in (
      record {
        shape = target.shape;
        has = target.has;
        plain = no_aggregate b t.tree target.proper target.shape target.has well;
      },
      tt,
    )

own_key : (b : Bounds) (t : Tree ℕ) → IsProper t → row_causes b t ≡ [] → AllKeys b (t ∷ [])
own_key b t is none =
    let h = no_more (shape_causes b t) (misplaced b true t ++ balances t) none in
    let s = shapes_are_found b t h.0 in
    let m = no_more (misplaced b true t) (balances t) h.1 in
    (record { shape = s.0; has = s.1; plain = no_aggregate b t is s.0 s.1 m.0 }, tt)

abbrev IsProperKind : ItemKind → Type 0
IsProperKind (target_item index) = Unit {0}
IsProperKind (tree_item t) = IsProper t

kind_key : (b : Bounds) (ts : List Target) (place : ℕ) (k : ItemKind)
    → AllByRecursion (IsProperTarget b) ts → IsProperKind k → group_causes_by b ts place k ≡ []
    → AllKeys b (key_by ts k)
kind_key b ts place (target_item index) are is none =
    named_key b ts place index are (slice_get ts index) refl none
kind_key b ts place (tree_item t) are is none = own_key b t is none

item_keys : (b : Bounds) (ts : List Target) (is : List Item) → AllByRecursion (IsProperTarget b) ts
    → AllByRecursion (λ i. IsProperKind i.kind) is → each (group_item_causes b ts) is ≡ []
    → AllKeys b (keys_of ts is)
item_keys b ts [] are kinds none = tt
item_keys b ts (i ∷ is) are kinds none =
    let h = no_more (group_item_causes b ts i) (each (group_item_causes b ts) is) none in
    both_all b (key_of ts i) (keys_of ts is) (kind_key b ts i.place i.kind are kinds.0 h.0)
    (item_keys b ts is are kinds.1 h.1)

abbrev IsProperGroup : Option (List Item) → Type 0
IsProperGroup None = Unit {0}
IsProperGroup (Some is) = AllByRecursion (λ i. IsProperKind i.kind) is

group_keys : (b : Bounds) (g : Grouping) (ts : List Target) (group : Option (List Item))
    → AllByRecursion (λ t. IsProper t.tree) ts → IsProperGroup group
    → each (target_causes b g) ts ≡ [] → group_causes b ts group ≡ []
    → AllKeys b (grouping_by ts group).keys
group_keys b g ts None are is none well = by (one_target_aggregates ts)
  where
    by : (aggregating : Bool) → AllKeys b (keys_of_targets aggregating ts)
    by true = plain_keys b g ts none
    by false = tt
group_keys b g ts (Some items) are is none well =
    item_keys b ts items (proper_targets b g ts are none) is well

record IsProperSelect (s : Asked) : Type 0 where
  pub targets : AllByRecursion (λ (t : Target). IsProper t.tree) s.targets
  pub group : IsProperGroup s.group

select_keys : (b : Bounds) (s : Asked) → IsProperSelect s → causes b s ≡ []
    → AllKeys b (grouping_of s).keys
select_keys b s is none =
    let h = no_more (each (target_causes b (grouping_of s)) s.targets) _ none in
    let k = no_more (filters_causes b s.filters) _ h.1 in
    let m = no_more (group_causes b s.targets s.group) _ k.1 in
    group_keys b (grouping_of s) s.targets s.group is.targets is.group h.0 m.0

-- ---- queries

targets_proper : (ts : List targets.Target)
    → AllByRecursion (λ (t : Target). IsProper t.tree) (map target_of ts)
targets_proper [] = tt
targets_proper (t ∷ ts) = (proper t.expr.value, targets_proper ts)

kind_proper : (k : kinds.ItemKind) → IsProperKind (kind_of k)
kind_proper (kind.Target index) = tt
kind_proper (kind.Expr e) = proper e.value

items_proper : (is : List items.Item)
    → AllByRecursion (λ (i : Item). IsProperKind i.kind) (map item_of is)
items_proper [] = tt
items_proper (i ∷ is) = (kind_proper i.kind, items_proper is)

group_proper : (g : Option (Vec items.Item Global)) → IsProperGroup (group_of g)
group_proper None = tt
group_proper (Some v) = items_proper v.items

query_proper : (q : Query) → IsProperSelect (query_of q)
query_proper q =
    record { targets = targets_proper q.targets.items; group = group_proper q.group }

pub keys_are_typed : (b : Bounds) (q : Query) → IsTyped b (query_of q)
    → AllByRecursion (IsTypedKey b) (grouping_of (query_of q)).keys
keys_are_typed b q typed = select_keys b (query_of q) (query_proper q) typed
