-- What comes to a group is what is gathered of its rows, one list for each aggregate.
use Rattle.std.proofs.Common.{◌≡◌, ℕ, Bool, true, false, cond, ◌&&◌, List, [], ◌∷◌, ◌++◌, map}
use Rattle.std.proofs.Common.{Option, Some, None, Ok, refl, sym, ap, ◌∙◌, append_assoc, append-nil}
use Rattle.std.proofs.lemmas.List.{map-append}
use Rattle.std.specs.Prelude.{option_and_then}
use Rattle.std.specs.List.{AllByRecursion}
use Rattle.limits.specs.declared.bounds.Bounds.{Bounds}
use Rattle.bql_meaning.specs.Meaning.{applied, input_of, value_of, values_of}
use Rattle.bql_meaning.specs.Reading.{Reading}
use Rattle.bql_rules.specs.Rules.{sum_over, summing}
use Rattle.bql_compiler.specs.Program.{input_in, inputs_in}
use Rattle.bql_tree.specs.Tree.{leaf_of, one_of, two_of, call_of, Tree, node, Trees}
use Rattle.bql_tree.specs.Tree.{no_trees, trees}
use Rattle.bql_tree.specs.declared.function.Function.{Function}
use Rattle.bql_tree.specs.declared.function.Function.TheVariants as function
use Rattle.bql_tree.specs.declared.tree.Leaf.{Leaf}
use Rattle.bql_tree.specs.declared.tree.Leaf.TheVariants as leaf
use Rattle.bql_types.specs.Gathered.{aggregate_by, aggregate_in, single}
use Rattle.bql_types.specs.Shaped.{rule, shapes_of}
use Rattle.bql_types.specs.Sought.{is_aggregate}
use Rattle.bql_types.specs.Typing.{Grouping}
use Rattle.bql_compiler.proofs.TypedFacts.{by_rule, has_first}
use Rattle.plain_machine.specs.Gathering.{aggregates_over, all_inputs, cons_if, next_input, take_each}
use Rattle.plain_machine.specs.Gathering.{with_input}
use Rattle.plain_machine.specs.Grouping.{come_to}
use Rattle.query_rows.specs.declared.shape.Shape.{Shape}
use Rattle.query_rows.specs.declared.shape.Shape.TheVariants as shape
use Rattle.query_values.specs.Aggregate.{aggregate_of, may_take}
use Rattle.query_values.specs.Held.{is_held}
use Rattle.query_values.specs.declared.operation.Aggregate.{Aggregate}
use Rattle.query_values.specs.declared.value.Value.{Value}
use Rattle.bql_compiler.proofs.QueryFacts.{IsAggregate, typed_shape}
use Rattle.bql_compiler.proofs.CarriedListFacts.{no_value, some_is}

module _ (b : Bounds) where
  -- ---- one aggregate

  -- what is gathered of a row
  abbrev pub input_at : Tree ℕ → Reading → Value
  input_at (node at op parts) r = input_of (values_of b (r ∷ []) parts)

  -- the values that a row section hands over for it
  abbrev values_for : Reading → List (Tree ℕ) → List Value
  values_for r ts = map (value_of b (r ∷ [])) ts

  -- it takes its input, and leaves those of the others
  abbrev Takes : Tree ℕ → Type 0
  Takes u = (r : Reading) (rest : List Value)
      → next_input (aggregate_in b u) (values_for r (input_in u) ++ rest)
      ≡ Some (input_at u r, rest)

  of_sum : (o : Option Shape) (x : Value) (rest : List Value)
      → next_input (summing o) (x ∷ rest) ≡ Some (x, rest)
  of_sum None x rest = refl
  of_sum (Some s) x rest = by s
    where
      by : (s : Shape) → next_input (sum_over s) (x ∷ rest) ≡ Some (x, rest)
      by shape.Truth = refl
      by shape.Text = refl
      by shape.Day = refl
      by shape.Set = refl
      by (shape.Number p m) = refl
      by (shape.Amount p m) = refl
      by (shape.Position p m) = refl
      by (shape.Inventory q p m) = refl

  no_call : (f : Function) (s : Shape) → is_aggregate (call_of f) ≡ true
      → (ss : List Shape) → [] ≡ ss → rule b (call_of f) ss ≡ Ok s → ⊥
  no_call f s is ss none e = by f is (ap (rule b (call_of f)) none ∙ e)
    where
      by : (f : Function) → is_aggregate (call_of f) ≡ true → rule b (call_of f) [] ≡ Ok s → ⊥
      by function.Count is e = cc
      by function.Sum is e = cc
      by function.First is e = cc
      by function.Last is e = cc
      by function.Min is e = cc
      by function.Max is e = cc
      by f is e = absurd cc

  no_leaf : (lf : Leaf) (s a : Shape) (more ss : List Shape) → ss ≡ a ∷ more
      → rule b (leaf_of lf) ss ≡ Ok s → ⊥
  no_leaf lf s a more ss are e = none (sym (ap (rule b (leaf_of lf)) are) ∙ e)
    where
      none : rule b (leaf_of lf) (a ∷ more) ≡ Ok s → ⊥
      none e = cc

  of_same : (xs ys : List Shape) → Some xs ≡ Some ys → xs ≡ ys
  of_same xs ys e = cc

  call_takes : (at : ℕ) (f : Function) (t : Tree ℕ) (ts : Trees ℕ)
      → is_aggregate (call_of f) ≡ true → Takes (node at (call_of f) (trees t ts))
  call_takes at function.Count t ts is r rest = refl
  call_takes at function.Sum t ts is r rest =
      of_sum (single (shapes_of b false (trees t ts))) (value_of b (r ∷ []) t) rest
  call_takes at function.First t ts is r rest = refl
  call_takes at function.Last t ts is r rest = refl
  call_takes at function.Min t ts is r rest = refl
  call_takes at function.Max t ts is r rest = refl
  call_takes at f t ts is r rest = absurd cc

  apart : false ≡ true → ⊥
  apart e = cc

  takes : (g : Grouping) (u : Tree ℕ) → IsAggregate b g u → Takes u
  takes g (node at (leaf_of leaf.Rows) no_trees) h r rest = refl
  takes g (node at (leaf_of leaf.Rows) (trees t ts)) h r rest =
      let s = typed_shape b (node at (leaf_of leaf.Rows) (trees t ts)) h.typed in
      let k = by_rule b (leaf_of leaf.Rows) (trees t ts) s.0 s.1 in
      let m = has_first b t ts k.shapes k.are in
      absurd (no_leaf leaf.Rows s.0 m.one m.more k.shapes m.are k.gives)
  takes g (node at (leaf_of leaf.Null) parts) h r rest = absurd (apart h.is)
  takes g (node at (leaf_of (leaf.Column c)) parts) h r rest = absurd (apart h.is)
  takes g (node at (leaf_of (leaf.Number n)) parts) h r rest = absurd (apart h.is)
  takes g (node at (leaf_of (leaf.TooWide d)) parts) h r rest = absurd (apart h.is)
  takes g (node at (leaf_of (leaf.Text t)) parts) h r rest = absurd (apart h.is)
  takes g (node at (leaf_of (leaf.Day d)) parts) h r rest = absurd (apart h.is)
  takes g (node at (leaf_of (leaf.Truth t)) parts) h r rest = absurd (apart h.is)
  takes g (node at (leaf_of (leaf.Meta o k)) parts) h r rest = absurd (apart h.is)
  takes g (node at (leaf_of (leaf.HasAccount p)) parts) h r rest = absurd (apart h.is)
  takes g (node at (one_of op) parts) h r rest = absurd (apart h.is)
  takes g (node at (two_of op) parts) h r rest = absurd (apart h.is)
  takes g (node at (call_of f) no_trees) h r rest =
      let s = typed_shape b (node at (call_of f) no_trees) h.typed in
      let k = by_rule b (call_of f) no_trees s.0 s.1 in
      absurd (no_call f s.0 h.is k.shapes (of_same [] k.shapes k.are) k.gives)
  takes g (node at (call_of f) (trees t ts)) h r rest = call_takes at f t ts h.is r rest

  -- an aggregate has over rows what is gathered of them
  pub gathered_value : (g : Grouping) (u : Tree ℕ) → IsAggregate b g u → (rows : List Reading)
      → aggregate_of (aggregate_in b u) (map (input_at u) rows) ≡ value_of b rows u
  gathered_value g (node at op parts) h rows =
      sym (ap (λ z. cond z
      (aggregate_of (aggregate_by op (shapes_of b false parts))
      (map (λ r. input_of (values_of b (r ∷ []) parts)) rows))
      (applied op rows (values_of b rows parts))) h.is)

  -- ---- all of them

  -- what is gathered of rows, a list for each
  abbrev pub columns : List (Tree ℕ) → List Reading → List (List Value)
  columns us rows = map (λ u. map (input_at u) rows) us

  abbrev pub inputs_at : List (Tree ℕ) → Reading → List Value
  inputs_at us r = values_for r (inputs_in us)

  abbrev aggregates_in_all : List (Tree ℕ) → List Aggregate
  aggregates_in_all us = map (aggregate_in b) us

  with_input_is : (a : Aggregate) (xs : List Value) (x : Value) (ys : List Value)
      → with_input a xs x ≡ Some ys → xs ++ x ∷ [] ≡ ys
  with_input_is a xs x ys e =
      by (may_take a (aggregate_of a xs) x && is_held (aggregate_of a (xs ++ x ∷ []))) e
    where
      by : (may : Bool) → cond may (Some (xs ++ x ∷ [])) None ≡ Some ys → xs ++ x ∷ [] ≡ ys
      by true e = some_is (xs ++ x ∷ []) ys e
      by false e = absurd (no_value ys e)

  cons_if_is : (o : Option (List Value)) (p : Option (List (List Value))) (ls : List (List Value))
      → cons_if o p ≡ Some ls
      → (x : List Value) × (xs : List (List Value)) × (o ≡ Some x) × (p ≡ Some xs)
      × (x ∷ xs ≡ ls)
  cons_if_is None p ls e = absurd (no_value ls e)
  cons_if_is (Some x) None ls e = absurd (no_value ls e)
  cons_if_is (Some x) (Some xs) ls e = (x, xs, refl, refl, some_is (x ∷ xs) ls e)

  -- with one row more
  one_taken : (g : Grouping) (us : List (Tree ℕ)) → AllByRecursion (IsAggregate b g) us
      → (rows : List Reading) (r : Reading) (ls : List (List Value))
      → take_each with_input (aggregates_in_all us) (columns us rows) (inputs_at us r) ≡ Some ls
      → ls ≡ columns us (rows ++ r ∷ [])
  one_taken g [] all rows r ls e = sym (some_is [] ls e)
  one_taken g (u ∷ us) all rows r ls e =
      let split = map-append (value_of b (r ∷ [])) (input_in u) (inputs_in us) in
      let rest = take_each with_input (aggregates_in_all us) (columns us rows) in
      let next =
      ap (next_input (aggregate_in b u)) split ∙ takes g u all.0 r (inputs_at us r) in
      let k = cons_if_is (with_input (aggregate_in b u) (map (input_at u) rows) (input_at u r))
      (rest (inputs_at us r)) ls
      (sym (ap (option_and_then (λ i. cons_if (with_input (aggregate_in b u) (map (input_at u) rows) i.0)
      (rest i.1))) next) ∙ e) in
      sym k.4
      ∙ (λ i. (sym (with_input_is (aggregate_in b u) (map (input_at u) rows) (input_at u r) k.0 k.2)
      ∙ sym (map-append (input_at u) rows (r ∷ []))) i
      ∷ one_taken g us all.1 rows r k.1 k.3 i)

  -- with some more
  pub come_is : (g : Grouping) (us : List (Tree ℕ)) → AllByRecursion (IsAggregate b g) us
      → (more rows : List Reading) (ls : List (List Value))
      → come_to (all_inputs (aggregates_in_all us)) (columns us rows) (map (inputs_at us) more) ≡ Some ls
      → ls ≡ columns us (rows ++ more)
  come_is g us all [] rows ls e =
      sym (some_is (columns us rows) ls e) ∙ ap (columns us) (sym (append-nil rows))
  come_is g us all (r ∷ more) rows ls e =
      by (λ xs e. come_is g us all more xs ls e)
      (take_each with_input (aggregates_in_all us) (columns us rows) (inputs_at us r)) refl e
    where
      by : ((xs : List Reading)
          → come_to (all_inputs (aggregates_in_all us)) (columns us xs) (map (inputs_at us) more) ≡ Some ls
          → ls ≡ columns us (xs ++ more))
          → (o : Option (List (List Value)))
          → take_each with_input (aggregates_in_all us) (columns us rows) (inputs_at us r) ≡ o
          → option_and_then
          (λ y. come_to (all_inputs (aggregates_in_all us)) y (map (inputs_at us) more)) o ≡ Some ls
          → ls ≡ columns us (rows ++ r ∷ more)
      by others None eo e = absurd (no_value ls e)
      by others (Some xs) eo e =
          others (rows ++ r ∷ [])
          (ap (λ y. come_to (all_inputs (aggregates_in_all us)) y (map (inputs_at us) more))
          (sym (one_taken g us all rows r xs eo)) ∙ e)
          ∙ ap (columns us) (append_assoc rows (r ∷ []) more)

  pub start_is : (us : List (Tree ℕ))
      → (all_inputs (aggregates_in_all us)).start ≡ columns us []
  start_is [] = refl
  start_is (u ∷ us) = ap (λ l. [] ∷ l) (start_is us)

  -- the aggregates of a group have the values of their expressions
  pub over_columns : (g : Grouping) (us : List (Tree ℕ)) → AllByRecursion (IsAggregate b g) us
      → (rows : List Reading)
      → aggregates_over (aggregates_in_all us) (columns us rows) ≡ map (value_of b rows) us
  over_columns g [] all rows = refl
  over_columns g (u ∷ us) all rows =
      λ i. gathered_value g u all.0 rows i ∷ over_columns g us all.1 rows i
