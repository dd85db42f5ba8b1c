-- Keys are read at the first row of a group.
use Rattle.std.proofs.Common.{◌≡◌, ℕ, zero, suc, Bool, true, false, ◌||◌, List, [], ◌∷◌, ◌++◌, map}
use Rattle.std.proofs.Common.{filter, refl, sym, ap, ◌∙◌, cond, arith, true≢false, ◌⊎◌}
use Rattle.std.proofs.Common.{inl, inr}
use Rattle.std.specs.List.{IsAmong, AllByRecursion, list_any}
use Rattle.limits.specs.declared.bounds.Bounds.{Bounds}
use Rattle.bql_tree.specs.Tree.{Operation, leaf_of, one_of, two_of, call_of, Tree, node, Trees}
use Rattle.bql_tree.specs.Tree.{no_trees, trees}
use Rattle.bql_tree.specs.declared.tree.Leaf.{Leaf}
use Rattle.bql_tree.specs.declared.tree.Leaf.TheVariants as leaf
use Rattle.bql_types.specs.Sought.{is_aggregate, aggregates, one_aggregates}
use Rattle.query_values.specs.declared.value.Value.{Value}
use Rattle.query_rows.proofs.SameFacts.{lists_same}
use Rattle.query_rows.specs.Grouping.{distinct_keys, members_of}
use Rattle.query_rows.specs.Same.{same_values, each_once}
use Rattle.bql_meaning.specs.Answer.{keys_at}
use Rattle.bql_meaning.specs.Keys.{HasNoAggregate}
use Rattle.bql_meaning.specs.Meaning.{value_of, values_of, applied, leaf_value}
use Rattle.bql_meaning.specs.Reading.{Reading}

-- ---- what is read at the first row

leaf_at_first : (l : Leaf) (r : Reading) (rest : List Reading)
    → leaf_value l (r ∷ rest) ≡ leaf_value l (r ∷ [])
leaf_at_first (leaf.Column c) r rest = refl
leaf_at_first leaf.Null r rest = refl
leaf_at_first (leaf.Number n) r rest = refl
leaf_at_first (leaf.TooWide t) r rest = refl
leaf_at_first (leaf.Text t) r rest = refl
leaf_at_first (leaf.Day d) r rest = refl
leaf_at_first (leaf.Truth b) r rest = refl
leaf_at_first leaf.Rows r rest = refl
leaf_at_first (leaf.Meta e k) r rest = refl
leaf_at_first (leaf.HasAccount p) r rest = refl

applied_at_first : (op : Operation) (r : Reading) (rest : List Reading) (xs : List Value)
    → applied op (r ∷ rest) xs ≡ applied op (r ∷ []) xs
applied_at_first (leaf_of l) r rest xs = leaf_at_first l r rest
applied_at_first (one_of op) r rest [] = refl
applied_at_first (one_of op) r rest (x ∷ []) = refl
applied_at_first (one_of op) r rest (x ∷ y ∷ xs) = refl
applied_at_first (two_of op) r rest [] = refl
applied_at_first (two_of op) r rest (x ∷ []) = refl
applied_at_first (two_of op) r rest (x ∷ y ∷ []) = refl
applied_at_first (two_of op) r rest (x ∷ y ∷ z ∷ xs) = refl
applied_at_first (call_of f) r rest xs = refl

neither : (a b : Bool) → (a || b) ≡ false → (a ≡ false) × (b ≡ false)
neither true b e = cc
neither false b e = (refl, e)

not_gathered : (b : Bounds) (at : ℕ) (op : Operation) (parts : Trees ℕ) (rows : List Reading)
    → is_aggregate op ≡ false
    → value_of b rows (node at op parts) ≡ applied op rows (values_of b rows parts)
not_gathered b at op parts rows e = rw e refl

mutual
  pub at_first : (b : Bounds) (t : Tree ℕ) → HasNoAggregate t → (r : Reading)
      (rest : List Reading) → value_of b (r ∷ rest) t ≡ value_of b (r ∷ []) t
  at_first b (node at op parts) none r rest =
      let h = neither (is_aggregate op) (one_aggregates parts) none in
      not_gathered b at op parts (r ∷ rest) h.0
      ∙ ap (applied op (r ∷ rest)) (all_at_first b parts h.1 r rest)
      ∙ applied_at_first op r rest (values_of b (r ∷ []) parts)
      ∙ sym (not_gathered b at op parts (r ∷ []) h.0)

  all_at_first : (b : Bounds) (ts : Trees ℕ) → one_aggregates ts ≡ false → (r : Reading)
      (rest : List Reading) → values_of b (r ∷ rest) ts ≡ values_of b (r ∷ []) ts
  all_at_first b no_trees none r rest = refl
  all_at_first b (trees t ts) none r rest =
      let h = neither (aggregates t) (one_aggregates ts) none in
      λ i. at_first b t h.0 r rest i ∷ all_at_first b ts h.1 r rest i

-- ---- the first row with some keys

abbrev Stands : List Value → List (List Value) → Type 0
Stands v [] = ⊥
Stands v (x ∷ xs) = (v ≡ x) ⊎ Stands v xs

stands_among : (v : List Value) (xs : List (List Value)) → IsAmong xs v → Stands v xs
stands_among v [] (i, (b, h)) = absurd (omega arith)
stands_among v (x ∷ xs) (zero, (b, h)) = inl h
stands_among v (x ∷ xs) (suc i, (b, h)) = inr (stands_among v xs (i, (omega (arith, b), h)))

stands_behind : (v x : List Value) (xs : List (List Value)) → Stands v (xs ++ x ∷ [])
    → Stands v xs ⊎ (v ≡ x)
stands_behind v x [] (inl e) = inr e
stands_behind v x [] (inr e) = absurd e
stands_behind v x (y ∷ xs) (inl e) = inl (inl e)
stands_behind v x (y ∷ xs) (inr s) = by (stands_behind v x xs s)
  where
    by : Stands v xs ⊎ (v ≡ x) → Stands v (y ∷ xs) ⊎ (v ≡ x)
    by (inl s) = inl (inr s)
    by (inr e) = inr e

abbrev is_there : List Value → List (List Value) → Bool
is_there v kept = list_any (same_values v) kept

alike_are_there : (u v : List Value) → same_values u v ≡ true → (kept : List (List Value))
    → is_there u kept ≡ is_there v kept
alike_are_there u v e [] = refl
alike_are_there u v e (x ∷ kept) =
    λ i. lists_same.congr u v x e i || alike_are_there u v e kept i

not_behind : (v x : List Value) (kept : List (List Value)) → is_there v (kept ++ x ∷ []) ≡ false
    → (is_there v kept ≡ false) × (same_values v x ≡ false)
not_behind v x [] e = (refl, (neither (same_values v x) false e).0)
not_behind v x (y ∷ kept) e =
    let h = neither (same_values v y) (is_there v (kept ++ x ∷ [])) e in
    let k = not_behind v x kept h.1 in
    ((λ i. h.0 i || k.0 i), k.1)

module _ {X : Type 0} (key : X → List Value) where
  abbrev those : List Value → List X → List X
  those v xs = filter (λ x. same_values (key x) v) xs

  -- the first of those with these keys has just these
  pub record Begins (v : List Value) (xs : List X) : Type 0 where
    pub first : X
    pub rest : List X
    pub is : those v xs ≡ first ∷ rest
    pub has : key first ≡ v

  passed : (v : List Value) (x : X) (xs : List X) → same_values (key x) v ≡ false → Begins v xs
      → Begins v (x ∷ xs)
  passed v x xs other h = record {
    first = h.first;
    rest = h.rest;
    is = ap (λ b. cond b (x ∷ those v xs) (those v xs)) other ∙ h.is;
    has = h.has;
  }

  here : (v : List Value) (x : X) (xs : List X) → v ≡ key x → Begins v (x ∷ xs)
  here v x xs e = record {
    first = x;
    rest = those v xs;
    is = ap (λ b. cond b (x ∷ those v xs) (those v xs))
        (ap (same_values (key x)) e ∙ lists_same.refl (key x));
    has = sym e;
  }

  abbrev Found : List Value → List (List Value) → List X → Type 0
  Found v kept xs = Stands v kept ⊎ ((is_there v kept ≡ false) × Begins v xs)

  found : (v : List Value) (kept : List (List Value)) (xs : List X)
      → Stands v (each_once kept (map key xs)) → Found v kept xs
  found v kept [] s = inl s
  found v kept (x ∷ xs) s =
      by (is_there (key x) kept) refl (λ kept. found v kept xs) s
    where
      old : is_there (key x) kept ≡ true → Found v kept xs → Found v kept (x ∷ xs)
      old there (inl s) = inl s
      old there (inr h) = inr (h.0, passed v x xs (other (same_values (key x) v) refl) h.1)
        where
          other : (b : Bool) → same_values (key x) v ≡ b → same_values (key x) v ≡ false
          other true e = absurd (true≢false (sym there ∙ alike_are_there (key x) v e kept ∙ h.0))
          other false e = e

      new_here : is_there (key x) kept ≡ false → Stands v kept ⊎ (v ≡ key x)
          → Found v kept (x ∷ xs)
      new_here absent (inl s) = inl s
      new_here absent (inr e) =
          inr (ap (λ u. is_there u kept) e ∙ absent, here v x xs e)

      new : is_there (key x) kept ≡ false → Found v (kept ++ key x ∷ []) xs
          → Found v kept (x ∷ xs)
      new absent (inl s) = new_here absent (stands_behind v (key x) kept s)
      new absent (inr h) = let k = not_behind v (key x) kept h.0 in
          inr (k.0, passed v x xs (lists_same.symm (key x) v ∙ k.1) h.1)

      by : (b : Bool) → is_there (key x) kept ≡ b
          → ((kept : List (List Value)) → Stands v (each_once kept (map key xs))
          → Found v kept xs) → Stands v (each_once (cond b kept (kept ++ key x ∷ [])) (map key xs))
          → Found v kept (x ∷ xs)
      by true e among s = old e (among kept s)
      by false e among s = new e (among (kept ++ key x ∷ []) s)

  begins : (v : List Value) (xs : List X) → IsAmong (each_once [] (map key xs)) v → Begins v xs
  begins v xs among = by (found v [] xs (stands_among v (each_once [] (map key xs)) among))
    where
      by : Found v [] xs → Begins v xs
      by (inl s) = absurd s
      by (inr h) = h.1

-- ---- keys of a group

keys_at_first : (b : Bounds) (keys : List (Tree ℕ)) → AllByRecursion HasNoAggregate keys
    → (r : Reading) (rest : List Reading) → map (value_of b (r ∷ rest)) keys ≡ keys_at b keys r
keys_at_first b [] none r rest = refl
keys_at_first b (t ∷ keys) none r rest =
    λ i. at_first b t none.0 r rest i ∷ keys_at_first b keys none.1 r rest i

pub of_the_group : (b : Bounds) (keys : List (Tree ℕ)) (rows : List Reading) (values : List Value)
    → AllByRecursion HasNoAggregate keys
    → IsAmong (distinct_keys (keys_at b keys) rows) values
    → map (value_of b (members_of (keys_at b keys) rows values)) keys ≡ values
of_the_group b keys rows values none among =
    let h = begins (keys_at b keys) values rows among in
    ap (λ g. map (value_of b g) keys) h.is
    ∙ keys_at_first b keys none h.first h.rest ∙ h.has

pub of_the_rows : (b : Bounds) (keys : List (Tree ℕ)) (rows : List Reading) (values : List Value)
    → AllByRecursion (λ r. same_values (keys_at b keys r) values ≡ true)
    (members_of (keys_at b keys) rows values)
of_the_rows b keys [] values = tt
of_the_rows b keys (r ∷ rows) values =
    by (same_values (keys_at b keys r) values) refl (of_the_rows b keys rows values)
  where
    by : (is : Bool) → same_values (keys_at b keys r) values ≡ is
        → AllByRecursion (λ r. same_values (keys_at b keys r) values ≡ true)
        (members_of (keys_at b keys) rows values)
        → AllByRecursion (λ r. same_values (keys_at b keys r) values ≡ true)
        (cond is (r ∷ members_of (keys_at b keys) rows values) (members_of (keys_at b keys) rows values))
    by true e rest = (e, rest)
    by false e rest = rest
