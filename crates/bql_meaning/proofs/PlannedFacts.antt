-- What a plan shows, and what it orders by, are the targets and the items of its query.
use Rattle.std.proofs.Common.{◌≡◌, ℕ, zero, suc, ◌<◌, ◌||◌, Bool, true, false, cond, List, [], ◌∷◌}
use Rattle.std.proofs.Common.{◌++◌, length, map, take, refl, sym, ap, ◌∙◌, arith, true≢false}
use Rattle.std.specs.List.{AllByRecursion, slice_get}
use Rattle.std.specs.Prelude.{slice_index_or}
use Rattle.theory.specs.Form.{steps}
use Rattle.limits.specs.declared.bounds.Bounds.{Bounds}
use Rattle.bql_parser.proofs.SmallLaw.{queries_are_small}
use Rattle.bql_parser.specs.Answer.{query_of}
use Rattle.bql_parser.specs.Asked.{Target, Item, ItemKind, target_item, tree_item}
use Rattle.bql_parser.specs.Small.{IsSmallItem, IsSmallKind}
use Rattle.bql_parser.specs.declared.query.Query.{Query}
use Rattle.bql_plan.specs.Plan.{plan, added, index_of, index_by, index_for, own_trees, tree_by}
use Rattle.bql_plan.specs.Plan as plans
use Rattle.bql_tree.specs.Tree.{Tree}
use Rattle.bql_types.specs.Same.{same}
use Rattle.bql_types.specs.Sought.{is_key}
use Rattle.bql_types.specs.Typing.{target_tree}
use Rattle.query_values.specs.declared.value.Value.{Value}
use Rattle.query_values.specs.declared.value.Value.TheVariants.{Null}
use Rattle.bql_meaning.specs.Answer.{target_value, target_values, kind_value, item_value, row_of}
use Rattle.bql_meaning.specs.Meaning.{value_of}
use Rattle.bql_meaning.specs.Planned.{ranked_by}
use Rattle.bql_meaning.specs.Reading.{Reading}
use Rattle.bql_meaning.proofs.SameFacts.{have_one_value, same_are_bare}

-- ---- what is added stands there

same_self : (t : Tree ℕ) → same t t ≡ true
same_self t = (same_are_bare t t).1 refl

there_before : (us : List (Tree ℕ)) (v t : Tree ℕ) → is_key us t ≡ true
    → is_key (us ++ v ∷ []) t ≡ true
there_before [] v t e = absurd (true≢false (sym e))
there_before (u ∷ us) v t e = by (same t u) e (there_before us v t)
  where
    by : (b : Bool) → (b || is_key us t) ≡ true
        → (is_key us t ≡ true → is_key (us ++ v ∷ []) t ≡ true)
        → (b || is_key (us ++ v ∷ []) t) ≡ true
    by true e rest = refl
    by false e rest = rest e

there_last : (us : List (Tree ℕ)) (t : Tree ℕ) → is_key (us ++ t ∷ []) t ≡ true
there_last [] t = ap (λ b. b || false) (same_self t)
there_last (u ∷ us) t = by (same t u) (there_last us t)
  where
    by : (b : Bool) → is_key (us ++ t ∷ []) t ≡ true → (b || is_key (us ++ t ∷ []) t) ≡ true
    by true e = refl
    by false e = e

there_when_added : (us : List (Tree ℕ)) (v t : Tree ℕ) → is_key us t ≡ true
    → is_key (added us v) t ≡ true
there_when_added us v t e = by (is_key us v)
  where
    by : (b : Bool) → is_key (cond b us (us ++ v ∷ [])) t ≡ true
    by true = e
    by false = there_before us v t e

added_is_there : (us : List (Tree ℕ)) (t : Tree ℕ) → is_key (added us t) t ≡ true
added_is_there us t = by (is_key us t) refl
  where
    by : (b : Bool) → is_key us t ≡ b → is_key (cond b us (us ++ t ∷ [])) t ≡ true
    by true e = e
    by false e = there_last us t

there_behind : (us vs : List (Tree ℕ)) (t : Tree ℕ) → is_key us t ≡ true
    → is_key (steps added us vs) t ≡ true
there_behind us [] t e = e
there_behind us (v ∷ vs) t e = there_behind (added us v) vs t (there_when_added us v t e)

abbrev AreThere : List (Tree ℕ) → List (Tree ℕ) → Type 0
AreThere us ts = AllByRecursion (λ t. is_key us t ≡ true) ts

all_there : (us vs : List (Tree ℕ)) → AreThere (steps added us vs) vs
all_there us [] = tt
all_there us (v ∷ vs) =
    (there_behind (added us v) vs v (added_is_there us v), all_there (added us v) vs)

-- and only stands behind what was there
pub record Behind (us ws : List (Tree ℕ)) : Type 0 where
  pub rest : List (Tree ℕ)
  pub is : ws ≡ us ++ rest

no_more : (us : List (Tree ℕ)) → us ≡ us ++ []
no_more [] = refl
no_more (u ∷ us) = ap (λ l. u ∷ l) (no_more us)

together : (us vs ws : List (Tree ℕ)) → (us ++ vs) ++ ws ≡ us ++ (vs ++ ws)
together [] vs ws = refl
together (u ∷ us) vs ws = ap (λ l. u ∷ l) (together us vs ws)

one_behind : (us : List (Tree ℕ)) (v : Tree ℕ) → Behind us (added us v)
one_behind us v = by (is_key us v)
  where
    by : (b : Bool) → Behind us (cond b us (us ++ v ∷ []))
    by true = record { rest = []; is = no_more us }
    by false = record { rest = v ∷ []; is = refl }

all_behind : (us vs : List (Tree ℕ)) → Behind us (steps added us vs)
all_behind us [] = record { rest = []; is = no_more us }
all_behind us (v ∷ vs) =
    let one = one_behind us v in
    let others = all_behind (added us v) vs in
    record {
      rest = one.rest ++ others.rest;
      is = others.is ∙ ap (λ l. l ++ others.rest) one.is ∙ together us one.rest others.rest;
    }

-- ---- values

module _ (b : Bounds) (rows : List Reading) where
  abbrev values : List (Tree ℕ) → List Value
  values ts = map (value_of b rows) ts

  -- the first of them are those of the targets
  shown_are : (ts : List Target) (rest : List (Tree ℕ))
      → take (length ts) (values (map target_tree ts ++ rest)) ≡ target_values b ts rows
  shown_are [] rest = refl
  shown_are (t ∷ ts) rest = ap (λ l. value_of b rows t.tree ∷ l) (shown_are ts rest)

  target_is : (ts : List Target) (rest : List (Tree ℕ)) (index : ℕ) → index < length ts
      → slice_index_or (values (map target_tree ts ++ rest)) index Null
      ≡ target_value b rows (slice_get ts index)
  target_is [] rest index low = absurd (omega (arith, low))
  target_is (t ∷ ts) rest zero low = refl
  target_is (t ∷ ts) rest (suc index) low = target_is ts rest index (omega (arith, low))

  tree_is : (us : List (Tree ℕ)) (t : Tree ℕ) → is_key us t ≡ true
      → slice_index_or (values us) (index_of us t) Null ≡ value_of b rows t
  tree_is [] t e = absurd (true≢false (sym e))
  tree_is (u ∷ us) t e = by (same t u) refl e (tree_is us t)
    where
      by : (is : Bool) → same t u ≡ is → (is || is_key us t) ≡ true
          → (is_key us t ≡ true
          → slice_index_or (values us) (index_of us t) Null ≡ value_of b rows t)
          → slice_index_or (values (u ∷ us)) (cond is 0 (suc (index_of us t))) Null
          ≡ value_of b rows t
      by true is e rest = sym (have_one_value b t u is rows)
      by false is e rest = rest e

  items_are : (ts : List Target) (us : List (Tree ℕ)) → Behind (map target_tree ts) us
      → (is : List Item) → AllByRecursion (IsSmallItem (length ts)) is → AreThere us (own_trees is)
      → map (λ i. slice_index_or (values us) i Null) (map (index_for us) is)
      ≡ map (item_value b ts rows) is
  items_are ts us front [] small there = refl
  items_are ts us front (i ∷ is) small there =
      by i.kind small.0 there (items_are ts us front is small.1)
    where
      others : AreThere us (own_trees is) → Type 0
      others there =
          map (λ i. slice_index_or (values us) i Null) (map (index_for us) is)
          ≡ map (item_value b ts rows) is

      named : (index : ℕ) → index < length ts
          → slice_index_or (values us) index Null ≡ target_value b rows (slice_get ts index)
      named index low =
          ap (λ l. slice_index_or (values l) index Null) front.is
          ∙ target_is ts front.rest index low

      by : (kind : ItemKind) → IsSmallKind (length ts) kind
          → AreThere us (tree_by kind ++ own_trees is)
          → ((there : AreThere us (own_trees is)) → others there)
          → slice_index_or (values us) (index_by us kind) Null
          ∷ map (λ i. slice_index_or (values us) i Null) (map (index_for us) is)
          ≡ kind_value b ts rows kind ∷ map (item_value b ts rows) is
      by (target_item index) low there rest = λ j. named index low j ∷ rest there j
      by (tree_item t) small there rest = λ j. tree_is us t there.0 j ∷ rest there.1 j

pub rank_as_asked : (b : Bounds) (q : Query) (rows : List Reading)
    → ranked_by (length (query_of q).targets) (plan (query_of q)).order
    (map (value_of b rows) (plan (query_of q)).shown) ≡ row_of b (query_of q) rows
rank_as_asked b q rows = λ i. record { shown = shown i; ranks = ranks i }
  where
    ts : List Target
    ts = (query_of q).targets

    us : List (Tree ℕ)
    us = plans.shown (query_of q)

    front : Behind (map target_tree ts) us
    front = all_behind (map target_tree ts) (own_trees (query_of q).order.items)

    shown : take (length ts) (map (value_of b rows) us) ≡ target_values b ts rows
    shown =
        ap (λ l. take (length ts) (map (value_of b rows) l)) front.is
        ∙ shown_are b rows ts front.rest

    ranks : map (λ i. slice_index_or (map (value_of b rows) us) i Null)
        (map (index_for us) (query_of q).order.items)
        ≡ map (item_value b ts rows) (query_of q).order.items
    ranks =
        items_are b rows ts us front (query_of q).order.items
        (queries_are_small q).order.all
        (all_there (map target_tree ts) (own_trees (query_of q).order.items))
