-- IN with a list of the pool gives what it gives with the members of the expression.
use Rattle.std.proofs.Common.{◌≡◌, ◌⊎◌, ℕ, ◌≤◌, max, Bool, true, false, cond, ◌&&◌, ◌==◌, List, [], ◌∷◌, map}
use Rattle.std.proofs.Common.{Option, Some, None, refl, sym, ap, ◌∙◌, subst, inl, inr, arith}
use Rattle.std.proofs.lemmas.Bool.{eqb-true, le-leb}
use Rattle.std.specs.Prelude.{nat_le, nat_lt, option_and_then, option_map, slice_get}
use Rattle.std.specs.List.{AllByRecursion, list_all}
use Rattle.limits.specs.declared.bounds.Bounds.{Bounds}
use Rattle.bql_code.specs.Core.{Core, changing, plainly}
use Rattle.bql_code.specs.Pool.{index_in}
use Rattle.bql_lowering.specs.Kind.{first_kind}
use Rattle.bql_lowering.specs.Lowered.{count_in, day_in, each_in, in_list, list_by, most_places}
use Rattle.bql_lowering.specs.Lowered.{places_in, text_in}
use Rattle.bql_meaning.proofs.AlignmentFacts.{members_aligned}
use Rattle.bql_meaning.specs.Meaning.{values_of}
use Rattle.bql_meaning.specs.Reading.{Reading}
use Rattle.bql_parser.specs.Small.{AreLiterals}
use Rattle.bql_rules.specs.Rules.{are_alike}
use Rattle.bql_tree.specs.Tree.{leaf_of, node, Trees, no_trees, trees}
use Rattle.bql_tree.specs.declared.tree.Leaf.TheVariants as leaf
use Rattle.bql_types.specs.Shaped.{shapes_of}
use Rattle.bql_compiler.specs.CoreValue.{core_value}
use Rattle.bql_compiler.proofs.LoweredListFacts.{IsListed, are_first, both, day_leaf}
use Rattle.bql_compiler.proofs.LoweredListFacts.{more_places, number_leaf, text_leaf}
use Rattle.plain_machine.specs.Loading.{Loads, unary_of}
use Rattle.plain_machine.specs.Pool.{members_in, operation_of}
use Rattle.query_code.specs.declared.instruction.Unary.TheVariants as machine
use Rattle.query_code.specs.declared.program.Constant.{Constant}
use Rattle.query_rows.specs.declared.shape.Shape.{Shape}
use Rattle.query_rows.specs.declared.shape.Shape.TheVariants as shape
use Rattle.query_values.specs.Arithmetic.{aligned}
use Rattle.query_values.specs.Choice.{day_choice, number_choice, text_choice}
use Rattle.query_values.specs.Held.{checked}
use Rattle.query_values.specs.Operand as operand
use Rattle.query_values.specs.Operand.{has_at_most, may_unary}
use Rattle.query_values.specs.Operation.{unary_value}
use Rattle.query_values.specs.Unary as operation
use Rattle.query_values.specs.declared.value.Value.{Value}
use Rattle.query_values.specs.declared.value.Value.TheVariants as value
use Rattle.bql_compiler.specs.Reads.{IsOrNone}
use Rattle.bql_compiler.proofs.AlignedFacts.{align_step, as_it_was}
use Rattle.bql_compiler.proofs.PoolFacts.{at_index}
use Rattle.bql_compiler.proofs.StepFacts.{by_first, of_checked, unary_step}

-- ---- what the members of the pool are

module _ (b : Bounds) (rows : List Reading) where
  text_members : (ts : Trees ℕ) (ss : List Shape) → AreLiterals ts
      → shapes_of b false ts ≡ Some ss → list_all (are_alike shape.Text) ss ≡ true
      → map text_choice (each_in text_in ts) ≡ values_of b rows ts
  text_members no_trees ss are e alike = refl
  text_members (trees t ts) ss are e alike =
      let h = are_first b t ts ss are.0 e in
      let a =
      both (are_alike shape.Text h.one) (list_all (are_alike shape.Text) h.more)
      (ap (list_all (are_alike shape.Text)) (sym h.are) ∙ alike) in
      let n = text_leaf b h.lf h.one h.literal h.first a.0 in
      let is : t ≡ node h.at (leaf_of (leaf.Text n.0)) h.parts =
      h.is_leaf ∙ ap (λ lf. node h.at (leaf_of lf) h.parts) n.1 in
      subst (λ t. map text_choice (each_in text_in (trees t ts)) ≡ values_of b rows (trees t ts))
      (sym is)
      (ap (λ l. value.Text n.0 ∷ l) (text_members ts h.more are.1 h.others a.1))

  day_members : (ts : Trees ℕ) (ss : List Shape) → AreLiterals ts
      → shapes_of b false ts ≡ Some ss → list_all (are_alike shape.Day) ss ≡ true
      → map day_choice (each_in day_in ts) ≡ values_of b rows ts
  day_members no_trees ss are e alike = refl
  day_members (trees t ts) ss are e alike =
      let h = are_first b t ts ss are.0 e in
      let a =
      both (are_alike shape.Day h.one) (list_all (are_alike shape.Day) h.more)
      (ap (list_all (are_alike shape.Day)) (sym h.are) ∙ alike) in
      let n = day_leaf b h.lf h.one h.literal h.first a.0 in
      let is : t ≡ node h.at (leaf_of (leaf.Day n.0)) h.parts =
      h.is_leaf ∙ ap (λ lf. node h.at (leaf_of lf) h.parts) n.1 in
      subst (λ t. map day_choice (each_in day_in (trees t ts)) ≡ values_of b rows (trees t ts))
      (sym is)
      (ap (λ l. value.Day n.0 ∷ l) (day_members ts h.more are.1 h.others a.1))

  number_members : (p m r : ℕ) (ts : Trees ℕ) (ss : List Shape) → AreLiterals ts
      → shapes_of b false ts ≡ Some ss → list_all (are_alike (shape.Number p m)) ss ≡ true
      → map (number_choice r) (each_in (count_in r) ts) ≡ map (aligned r) (values_of b rows ts)
  number_members p m r no_trees ss are e alike = refl
  number_members p m r (trees t ts) ss are e alike =
      let h = are_first b t ts ss are.0 e in
      let a =
      both (are_alike (shape.Number p m) h.one) (list_all (are_alike (shape.Number p m)) h.more)
      (ap (list_all (are_alike (shape.Number p m))) (sym h.are) ∙ alike) in
      let n = number_leaf b p m h.lf h.one h.literal h.first a.0 in
      let is : t ≡ node h.at (leaf_of (leaf.Number n.0)) h.parts =
      h.is_leaf ∙ ap (λ lf. node h.at (leaf_of lf) h.parts) n.1 in
      subst (λ t. map (number_choice r) (each_in (count_in r) (trees t ts))
      ≡ map (aligned r) (values_of b rows (trees t ts)))
      (sym is)
      (ap (λ l. aligned r (value.Number n.0.places n.0.count) ∷ l)
      (number_members p m r ts h.more are.1 h.others a.1))

  -- a number of at most so many decimals
  abbrev pub IsFew : ℕ → Value → Type 0
  IsFew r (value.Number q n) = nat_le q r ≡ true
  IsFew r x = ⊥

  few_members : (p m k r : ℕ) (ts : Trees ℕ) (ss : List Shape) → AreLiterals ts
      → shapes_of b false ts ≡ Some ss → list_all (are_alike (shape.Number p m)) ss ≡ true
      → most_places k ts ≤ r → AllByRecursion (IsFew r) (values_of b rows ts)
  few_members p m k r no_trees ss are e alike le = tt
  few_members p m k r (trees t ts) ss are e alike le =
      let h = are_first b t ts ss are.0 e in
      let a =
      both (are_alike (shape.Number p m) h.one) (list_all (are_alike (shape.Number p m)) h.more)
      (ap (list_all (are_alike (shape.Number p m))) (sym h.are) ∙ alike) in
      let n = number_leaf b p m h.lf h.one h.literal h.first a.0 in
      let is : t ≡ node h.at (leaf_of (leaf.Number n.0)) h.parts =
      h.is_leaf ∙ ap (λ lf. node h.at (leaf_of lf) h.parts) n.1 in
      let le' : most_places (max k n.0.places) ts ≤ r =
      subst (λ t. most_places k (trees t ts) ≤ r) is le in
      let more : max k n.0.places ≤ most_places (max k n.0.places) ts =
      more_places b (max k n.0.places) ts in
      subst (λ t. AllByRecursion (IsFew r) (values_of b rows (trees t ts))) (sym is) (
        le-leb n.0.places r (omega (arith, le', more)),
        few_members p m (max k n.0.places) r ts h.more are.1 h.others a.1 le',
      )

  -- of the kind of the first

  text_list : (ts : Trees ℕ) (ss : List Shape) → AreLiterals ts
      → shapes_of b false ts ≡ Some ss → list_all (are_alike shape.Text) ss ≡ true
      → members_in (list_by (first_kind ts) 0 ts) ≡ Some (values_of b rows ts)
  text_list no_trees ss are e alike = refl
  text_list (trees t ts) ss are e alike =
      let h = are_first b t ts ss are.0 e in
      let a =
      both (are_alike shape.Text h.one) (list_all (are_alike shape.Text) h.more)
      (ap (list_all (are_alike shape.Text)) (sym h.are) ∙ alike) in
      let n = text_leaf b h.lf h.one h.literal h.first a.0 in
      let is : t ≡ node h.at (leaf_of (leaf.Text n.0)) h.parts =
      h.is_leaf ∙ ap (λ lf. node h.at (leaf_of lf) h.parts) n.1 in
      ap (λ u. members_in (list_by (first_kind (trees u ts)) 0 (trees t ts))) is
      ∙ ap Some (text_members (trees t ts) ss are e alike)

  day_list : (ts : Trees ℕ) (ss : List Shape) → AreLiterals ts
      → shapes_of b false ts ≡ Some ss → list_all (are_alike shape.Day) ss ≡ true
      → members_in (list_by (first_kind ts) 0 ts) ≡ Some (values_of b rows ts)
  day_list no_trees ss are e alike = refl
  day_list (trees t ts) ss are e alike =
      let h = are_first b t ts ss are.0 e in
      let a =
      both (are_alike shape.Day h.one) (list_all (are_alike shape.Day) h.more)
      (ap (list_all (are_alike shape.Day)) (sym h.are) ∙ alike) in
      let n = day_leaf b h.lf h.one h.literal h.first a.0 in
      let is : t ≡ node h.at (leaf_of (leaf.Day n.0)) h.parts =
      h.is_leaf ∙ ap (λ lf. node h.at (leaf_of lf) h.parts) n.1 in
      ap (λ u. members_in (list_by (first_kind (trees u ts)) 0 (trees t ts))) is
      ∙ ap Some (day_members (trees t ts) ss are e alike)

  number_list : (p m r : ℕ) (ts : Trees ℕ) (ss : List Shape) → AreLiterals ts
      → shapes_of b false ts ≡ Some ss → list_all (are_alike (shape.Number p m)) ss ≡ true
      → members_in (list_by (first_kind ts) r ts) ≡ Some (map (aligned r) (values_of b rows ts))
  number_list p m r no_trees ss are e alike = refl
  number_list p m r (trees t ts) ss are e alike =
      let h = are_first b t ts ss are.0 e in
      let a =
      both (are_alike (shape.Number p m) h.one) (list_all (are_alike (shape.Number p m)) h.more)
      (ap (list_all (are_alike (shape.Number p m))) (sym h.are) ∙ alike) in
      let n = number_leaf b p m h.lf h.one h.literal h.first a.0 in
      let is : t ≡ node h.at (leaf_of (leaf.Number n.0)) h.parts =
      h.is_leaf ∙ ap (λ lf. node h.at (leaf_of lf) h.parts) n.1 in
      ap (λ u. members_in (list_by (first_kind (trees u ts)) r (trees t ts))) is
      ∙ ap Some (number_members p m r (trees t ts) ss are e alike)

  -- ---- numbers that are looked for

  all_few : (r : ℕ) (ys : List Value) → AllByRecursion (IsFew r) ys
      → AllByRecursion (λ y. has_at_most r y ≡ true) ys
  all_few r [] all = tt
  all_few r (value.Number q n ∷ ys) all = (all.0, all_few r ys all.1)
  all_few r (y ∷ ys) all = absurd all.0

  first : (x y : Bool) → (x && y) ≡ true → x ≡ true
  first true y e = refl
  first false y e = absurd cc

  -- what the machine takes as it is has the decimals of the members
  as_they_are : (r : ℕ) (x : Value) (ys : List Value) → AllByRecursion (IsFew r) ys
      → may_unary (operation.InList (map (aligned r) ys)) x ≡ true
      → unary_value (operation.InList (map (aligned r) ys)) x ≡ unary_value (operation.InList ys) x
  as_they_are r x [] all may = refl
  as_they_are r value.Null (y ∷ ys) all may = refl
  as_they_are r (value.Number p m) (value.Number q n ∷ ys) all may =
      let same : p ≡ r =
      eqb-true p r (first (p == r) (list_all (operand.are_alike (value.Number p m)) (map (aligned r) ys)) may) in
      let le : p ≤ r = omega (arith, same) in
      ap (unary_value (operation.InList (map (aligned r) (value.Number q n ∷ ys))))
      (sym (ap (λ k. aligned k (value.Number p m)) (sym same) ∙ as_it_was p m))
      ∙ members_aligned r (value.Number p m) (value.Number q n ∷ ys) (le-leb p r le)
      (all_few r (value.Number q n ∷ ys) all)
  as_they_are r (value.Text t) (value.Number q n ∷ ys) all may = absurd cc
  as_they_are r (value.Day d) (value.Number q n ∷ ys) all may = absurd cc
  as_they_are r (value.Truth t) (value.Number q n ∷ ys) all may = absurd cc
  as_they_are r (value.Set ts) (value.Number q n ∷ ys) all may = absurd cc
  as_they_are r (value.Amount p c m) (value.Number q n ∷ ys) all may = absurd cc
  as_they_are r (value.Position k m) (value.Number q n ∷ ys) all may = absurd cc
  as_they_are r (value.Inventory i) (value.Number q n ∷ ys) all may = absurd cc
  as_they_are r x (y ∷ ys) all may = absurd all.0

  -- ---- the operation

  module _ (pool : List Constant) (l : Loads) where
    -- what stands at the index of a list
    listed : (c : Constant) (ys : List Value) → members_in c ≡ Some ys
        → (operation_of pool (machine.InList (index_in pool c)) ≡ None)
        ⊎ (operation_of pool (machine.InList (index_in pool c)) ≡ Some (operation.InList ys))
    listed c ys e = by (at_index members_in pool c)
      where
        by : (option_and_then members_in (slice_get pool (index_in pool c)) ≡ None)
            ⊎ (option_and_then members_in (slice_get pool (index_in pool c)) ≡ members_in c)
            → (operation_of pool (machine.InList (index_in pool c)) ≡ None)
            ⊎ (operation_of pool (machine.InList (index_in pool c)) ≡ Some (operation.InList ys))
        by (inl none) = inl (ap (option_map operation.InList) none)
        by (inr some) = inr (ap (option_map operation.InList) (some ∙ e))

    plain_list : (c : Constant) (ys : List Value) (x : Core) (u : Value) → members_in c ≡ Some ys
        → IsOrNone (core_value pool l x) u
        → IsOrNone (option_and_then (unary_of pool (machine.InList (index_in pool c)))
        (core_value pool l x)) (unary_value (operation.InList ys) u)
    plain_list c ys x u e h =
        unary_step pool (machine.InList (index_in pool c)) (operation.InList ys) (core_value pool l x) u
        (listed c ys e) h

    -- what IN of a value gives is what it gives
    of_list : (c : Constant) (ys : List Value) → members_in c ≡ Some ys → (a v : Value)
        → unary_of pool (machine.InList (index_in pool c)) a ≡ Some v
        → (may_unary (operation.InList ys) a ≡ true) × (unary_value (operation.InList ys) a ≡ v)
    of_list c ys e a v f = by (listed c ys e) f
      where
        none : None ≡ Some v → ⊥
        none e = absurd cc

        by : (operation_of pool (machine.InList (index_in pool c)) ≡ None)
            ⊎ (operation_of pool (machine.InList (index_in pool c)) ≡ Some (operation.InList ys))
            → unary_of pool (machine.InList (index_in pool c)) a ≡ Some v
            → (may_unary (operation.InList ys) a ≡ true) × (unary_value (operation.InList ys) a ≡ v)
        by (inl e) f = absurd (none (sym (ap (option_and_then (λ o. checked (may_unary o a) (unary_value o a))) e) ∙ f))
        by (inr e) f =
            of_checked (may_unary (operation.InList ys) a) (unary_value (operation.InList ys) a) v
            (sym (ap (option_and_then (λ o. checked (may_unary o a) (unary_value o a))) e) ∙ f)

    aligned_first : (r : ℕ) (c : Constant) (ys : List Value)
        → members_in c ≡ Some (map (aligned r) ys) → AllByRecursion (IsFew r) ys
        → (o : Option Value) (u : Value) → IsOrNone o u
        → IsOrNone (option_and_then (unary_of pool (machine.InList (index_in pool c)))
        (option_and_then (unary_of pool (machine.Align r)) o)) (unary_value (operation.InList ys) u)
    aligned_first r c ys e few None u h v f = absurd cc
    aligned_first r c ys e few (Some a) u h v f = by (unary_of pool (machine.Align r) a) refl f
      where
        by : (o : Option Value) → unary_of pool (machine.Align r) a ≡ o
            → option_and_then (unary_of pool (machine.InList (index_in pool c))) o ≡ Some v
            → unary_value (operation.InList ys) u ≡ v
        by None eo f = absurd cc
        by (Some z) eo f =
            let s = align_step pool l r a z eo in
            let k = of_list c (map (aligned r) ys) e z v f in
            ap (unary_value (operation.InList ys)) (h a refl)
            ∙ sym (members_aligned r a ys s.0 (all_few r ys few))
            ∙ ap (unary_value (operation.InList (map (aligned r) ys))) s.1 ∙ k.1

    of_numbers : (r : ℕ) (c : Constant) (ys : List Value)
        → members_in c ≡ Some (map (aligned r) ys) → AllByRecursion (IsFew r) ys
        → (less : Bool) (x : Core) (u : Value) → IsOrNone (core_value pool l x) u
        → IsOrNone (option_and_then (unary_of pool (machine.InList (index_in pool c)))
        (core_value pool l (cond less (changing (plainly (machine.Align r)) x) x)))
        (unary_value (operation.InList ys) u)
    of_numbers r c ys e few false x u h =
        by_first (core_value pool l x) u (unary_of pool (machine.InList (index_in pool c)))
        (unary_value (operation.InList ys) u) h
        (λ a is v f.
        let k = of_list c (map (aligned r) ys) e a v f in
        ap (unary_value (operation.InList ys)) is ∙ sym (as_they_are r a ys few k.0) ∙ k.1)
    of_numbers r c ys e few true x u h = aligned_first r c ys e few (core_value pool l x) u h

    -- IN with a list that has a type
    pub list_step : (s t : Shape) (x : Core) (u : Value) (ts : Trees ℕ) (ss : List Shape)
        → AreLiterals ts → shapes_of b false ts ≡ Some ss → IsListed s t ss
        → IsOrNone (core_value pool l x) u
        → IsOrNone (core_value pool l (in_list (places_in (Some s)) x ts))
        (unary_value (operation.InList (values_of b rows ts)) u)
    list_step shape.Text t x u ts ss are e is h =
        plain_list (list_by (first_kind ts) 0 ts) (values_of b rows ts) x u
        (text_list ts ss are e is.alike) h
    list_step shape.Day t x u ts ss are e is h =
        plain_list (list_by (first_kind ts) 0 ts) (values_of b rows ts) x u
        (day_list ts ss are e is.alike) h
    list_step (shape.Number p m) t x u ts ss are e is h =
        of_numbers (most_places p ts) (list_by (first_kind ts) (most_places p ts) ts)
        (values_of b rows ts) (number_list p m (most_places p ts) ts ss are e is.alike)
        (few_members p m p (most_places p ts) ts ss are e is.alike (omega arith))
        (nat_lt p (most_places p ts)) x u h
    list_step shape.Truth t x u ts ss are e is h = absurd (unlike is.itself)
      where
        unlike : are_alike shape.Truth shape.Truth ≡ true → ⊥
        unlike e = absurd cc
    list_step shape.Set t x u ts ss are e is h = absurd (unlike is.itself)
      where
        unlike : are_alike shape.Set shape.Set ≡ true → ⊥
        unlike e = absurd cc
    list_step (shape.Amount p m) t x u ts ss are e is h = absurd (unlike is.itself)
      where
        unlike : are_alike (shape.Amount p m) (shape.Amount p m) ≡ true → ⊥
        unlike e = absurd cc
    list_step (shape.Position p m) t x u ts ss are e is h = absurd (unlike is.itself)
      where
        unlike : are_alike (shape.Position p m) (shape.Position p m) ≡ true → ⊥
        unlike e = absurd cc
    list_step (shape.Inventory q p m) t x u ts ss are e is h = absurd (unlike is.itself)
      where
        unlike : are_alike (shape.Inventory q p m) (shape.Inventory q p m) ≡ true → ⊥
        unlike e = absurd cc
