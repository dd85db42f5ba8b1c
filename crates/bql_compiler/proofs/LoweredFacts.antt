-- What a typed expression is lowered to has its value, by induction on its parts.
use Rattle.std.proofs.Common.{◌≡◌, ℕ, ◌&&◌, Bool, true, false, cond, List, [], ◌∷◌, ◌++◌, map}
use Rattle.std.proofs.Common.{Option, Some, None, Ok, refl, sym, ap, ◌∙◌, subst}
use Rattle.std.specs.Prelude.{slice_get}
use Rattle.std.specs.List.{AllByRecursion}
use Rattle.limits.specs.declared.bounds.Bounds.{Bounds}
use Rattle.bql_code.specs.Core.{Core, aggregate, key, loading}
use Rattle.bql_lowering.specs.Lowered.{Gathered, by_operation, has, lowered, of_binary, of_function}
use Rattle.bql_lowering.specs.Lowered.{in_list, of_null, places_in, places_of}
use Rattle.bql_meaning.specs.Meaning as meaning
use Rattle.bql_meaning.specs.Meaning.{applied, call_value, input_of, two_value, value_of, values_of}
use Rattle.bql_meaning.specs.Reading.{Reading}
use Rattle.bql_parser.specs.Small.{AreSmallTrees, IsSmallIn, IsSmallTree}
use Rattle.bql_plan.specs.Plan.{aggregates_in, all_aggregates, index_of}
use Rattle.bql_rules.specs.Rules as rules
use Rattle.bql_rules.specs.Rules.{single}
use Rattle.bql_tree.specs.Tree.{Operation, leaf_of, one_of, two_of, call_of, Tree, node, Trees}
use Rattle.bql_tree.specs.Tree.{no_trees, trees}
use Rattle.bql_tree.specs.declared.function.Function.{Function}
use Rattle.bql_tree.specs.declared.function.Function.TheVariants as function
use Rattle.bql_tree.specs.declared.tree.BinaryOperator.{BinaryOperator}
use Rattle.bql_tree.specs.declared.tree.BinaryOperator.TheVariants as binary
use Rattle.bql_tree.specs.declared.tree.Leaf.TheVariants as leaf
use Rattle.bql_tree.specs.declared.tree.UnaryOperator.{UnaryOperator}
use Rattle.bql_types.specs.Gathered.{aggregate_by}
use Rattle.bql_types.specs.Shaped.{beside, beside_null, is_equality, is_null, operand}
use Rattle.bql_types.specs.Shaped.{rule, shape_of, shapes_of}
use Rattle.bql_types.specs.Sought.{is_aggregate, is_rows}
use Rattle.bql_compiler.specs.CoreValue.{core_value}
use Rattle.bql_compiler.proofs.LoweredListFacts.{is_listed, leaf_only}
use Rattle.bql_compiler.proofs.TypedFacts.{ByRule, by_rule, has_first, null_shapeless}
use Rattle.plain_machine.specs.Loading.{Loads}
use Rattle.query_code.specs.declared.program.Constant.{Constant}
use Rattle.query_rows.specs.declared.shape.Shape.{Shape}
use Rattle.query_values.specs.Aggregate.{aggregate_of}
use Rattle.query_values.specs.Operation.{unary_value}
use Rattle.query_values.specs.Unary as operation
use Rattle.query_values.specs.declared.operation.Binary.TheVariants as operations
use Rattle.query_values.specs.declared.value.Value.{Value}
use Rattle.query_values.specs.declared.value.Value.TheVariants as value
use Rattle.bql_compiler.specs.Reads.{IsOrNone, Reads}
use Rattle.bql_compiler.specs.Sided.{AreSided, HasSides, IsSided}
use Rattle.bql_compiler.proofs.AlignedFacts.{joined_step}
use Rattle.bql_compiler.proofs.LeafFacts.{function_step, leaf_step, null_ahead, null_behind}
use Rattle.bql_compiler.proofs.LeafFacts.{unary_operator}
use Rattle.bql_compiler.proofs.MemberFacts.{list_step}
use Rattle.bql_compiler.proofs.StepFacts.{and_step, binary_step, of_equal, or_step, pushed}

all_first : {A : Type 0} (P : A → Type 0) (xs ys : List A) → AllByRecursion P (xs ++ ys)
    → AllByRecursion P xs
all_first P [] ys h = tt
all_first P (x ∷ xs) ys h = (h.0, all_first P xs ys h.1)

all_second : {A : Type 0} (P : A → Type 0) (xs ys : List A) → AllByRecursion P (xs ++ ys)
    → AllByRecursion P ys
all_second P [] ys h = h
all_second P (x ∷ xs) ys h = all_second P xs ys h.1

-- NULL is null
null_value : (b : Bounds) (rows : List Reading) (t : Tree ℕ) → is_null t ≡ true
    → value_of b rows t ≡ value.Null
null_value b rows (node at (leaf_of leaf.Null) no_trees) e = refl
null_value b rows (node at (leaf_of leaf.Null) (trees t ts)) e = absurd cc
null_value b rows (node at (leaf_of (leaf.Column c)) ts) e = absurd cc
null_value b rows (node at (leaf_of (leaf.Number n)) ts) e = absurd cc
null_value b rows (node at (leaf_of (leaf.TooWide digits)) ts) e = absurd cc
null_value b rows (node at (leaf_of (leaf.Text t)) ts) e = absurd cc
null_value b rows (node at (leaf_of (leaf.Day d)) ts) e = absurd cc
null_value b rows (node at (leaf_of (leaf.Truth t)) ts) e = absurd cc
null_value b rows (node at (leaf_of leaf.Rows) ts) e = absurd cc
null_value b rows (node at (leaf_of (leaf.Meta o k)) ts) e = absurd cc
null_value b rows (node at (leaf_of (leaf.HasAccount p)) ts) e = absurd cc
null_value b rows (node at (one_of op) ts) e = absurd cc
null_value b rows (node at (two_of op) ts) e = absurd cc
null_value b rows (node at (call_of f) ts) e = absurd cc

-- beside NULL stands an equation
beside_equality : (op : BinaryOperator) (s : Shape) → beside_null op ≡ Ok s → is_equality op ≡ true
beside_equality binary.Equal s e = refl
beside_equality binary.NotEqual s e = refl
beside_equality op s e = absurd cc

module _ (b : Bounds) (pool : List Constant) (l : Loads) (g : Gathered) (rows : List Reading)
    (reads : Reads b g l rows) where
  abbrev IsCounted : Tree ℕ → Type 0
  IsCounted a = has g.aggregates a ≡ true

  abbrev AreCounted : List (Tree ℕ) → Type 0
  AreCounted ts = AllByRecursion IsCounted ts

  -- what is computed gives this value, or nothing
  abbrev Gives : Core → Value → Type 0
  Gives x v = IsOrNone (core_value pool l x) v

  -- an expression of which this is to be shown
  abbrev IsShown : Tree ℕ → Type 0
  IsShown t = (s : Shape) → shape_of b t ≡ Some s → IsSmallTree t → IsSided t
      → AreCounted (aggregates_in t) → Gives (lowered b g t) (value_of b rows t)

  abbrev AreShown : Trees ℕ → Type 0
  AreShown no_trees = Unit {0}
  AreShown (trees t ts) = IsShown t × AreShown ts

  -- what the parts of an operation are to it
  record AreParts (op : Operation) (parts : Trees ℕ) (s : Shape) : Type 0 where
    shown : AreShown parts
    ruled : ByRule b op parts s
    few : IsSmallIn op parts
    small : AreSmallTrees parts
    sided : AreSided parts
    counted : AreCounted (all_aggregates parts)

  -- ---- of one part

  of_unary_part : (op : UnaryOperator) (parts : Trees ℕ) (s : Shape)
      → AreParts (one_of op) parts s
      → Gives (by_operation b g (one_of op) parts) (applied (one_of op) rows (values_of b rows parts))
  of_unary_part op no_trees s h = absurd (none h.ruled.shapes h.ruled.are h.ruled.gives)
    where
      none : (ss : List Shape) → shapes_of b false no_trees ≡ Some ss → rule b (one_of op) ss ≡ Ok s
          → ⊥
      none [] e f = absurd cc
      none (t ∷ ts) e f = absurd cc
  of_unary_part op (trees t no_trees) s h =
      let k = has_first b t no_trees h.ruled.shapes h.ruled.are in
      unary_operator b pool l g rows reads op (lowered b g t) (value_of b rows t)
      (h.shown.0 k.one k.first h.small.0 h.sided.0
      (all_first IsCounted (aggregates_in t) [] h.counted))
  of_unary_part op (trees t (trees u us)) s h =
      let k = has_first b t (trees u us) h.ruled.shapes h.ruled.are in
      let m = has_first b u us k.more k.others in
      absurd (two k.one m.one m.more
      (ap (λ x. rule b (one_of op) (k.one ∷ x)) (sym m.are)
      ∙ ap (rule b (one_of op)) (sym k.are) ∙ h.ruled.gives))
    where
      two : (a c : Shape) (more : List Shape) → rule b (one_of op) (a ∷ c ∷ more) ≡ Ok s → ⊥
      two a c more e = absurd cc

  -- ---- between two

  both_sides : (op : BinaryOperator) (p q : Option ℕ) (x y : Core) (u w : Value) → Gives x u
      → Gives y w → Gives (of_binary op p q x y) (two_value op u w)
  both_sides binary.Or p q x y u w h k =
      or_step (core_value pool l x) (core_value pool l y) u w h k
  both_sides binary.And p q x y u w h k =
      and_step (core_value pool l x) (core_value pool l y) u w h k
  both_sides binary.Equal p q x y u w h k =
      joined_step pool l operations.Equal refl p q x y u w h k
  both_sides binary.NotEqual p q x y u w h k =
      joined_step pool l operations.NotEqual refl p q x y u w h k
  both_sides binary.Less p q x y u w h k =
      joined_step pool l operations.Less refl p q x y u w h k
  both_sides binary.LessOrEqual p q x y u w h k =
      joined_step pool l operations.AtMost refl p q x y u w h k
  both_sides binary.Greater p q x y u w h k =
      joined_step pool l operations.Greater refl p q x y u w h k
  both_sides binary.GreaterOrEqual p q x y u w h k =
      joined_step pool l operations.AtLeast refl p q x y u w h k
  both_sides binary.In p q x y u w h k =
      binary_step operations.InSet (core_value pool l x) (core_value pool l y) u w h k
  both_sides binary.Plus p q x y u w h k =
      joined_step pool l operations.Add refl p q x y u w h k
  both_sides binary.Minus p q x y u w h k =
      joined_step pool l operations.Sub refl p q x y u w h k
  both_sides binary.Times p q x y u w h k =
      binary_step operations.Mul (core_value pool l x) (core_value pool l y) u w h k

  of_same : (xs ys : List Shape) → Some xs ≡ Some ys → xs ≡ ys
  of_same xs ys e = cc

  no_sides : (op : BinaryOperator) (s : Shape) {ss : List Shape} → [] ≡ ss
      → rule b (two_of op) ss ≡ Ok s → ⊥
  no_sides op s e f = none (ap (rule b (two_of op)) e ∙ f)
    where
      none : rule b (two_of op) [] ≡ Ok s → ⊥
      none e = absurd cc

  null_has : (t : Tree ℕ) → is_null t ≡ true → (a : Shape) → shape_of b t ≡ Some a → ⊥
  null_has t e a f = none (sym (null_shapeless b t e) ∙ f)
    where
      none : None ≡ Some a → ⊥
      none e = absurd cc

  -- by which side is NULL, and what shapes the sides have
  of_sides : (op : BinaryOperator) (t u : Tree ℕ) (s : Shape)
      → ((a : Shape) → shape_of b t ≡ Some a → Gives (lowered b g t) (value_of b rows t))
      → ((a : Shape) → shape_of b u ≡ Some a → Gives (lowered b g u) (value_of b rows u))
      → ByRule b (two_of op) (trees t (trees u no_trees)) s
      → Gives (by_operation b g (two_of op) (trees t (trees u no_trees)))
      (two_value op (value_of b rows t) (value_of b rows u))
  of_sides op t u s first second r =
      by (is_null u) refl (is_null t) refl (shape_of b t) refl (shape_of b u) refl (is_equality op) r.shapes
      r.are r.gives
    where
      behind : is_null u ≡ true → (a : Shape) → shape_of b t ≡ Some a → beside_null op ≡ Ok s
          → Gives (of_null op (lowered b g t)) (two_value op (value_of b rows t) (value_of b rows u))
      behind null a has e =
          of_equal (core_value pool l (of_null op (lowered b g t)))
          (two_value op (value_of b rows t) value.Null)
          (two_value op (value_of b rows t) (value_of b rows u))
          (ap (two_value op (value_of b rows t)) (sym (null_value b rows u null)))
          (null_behind b pool l g rows reads op (lowered b g t) (value_of b rows t)
          (beside_equality op s e) (first a has))

      ahead : is_null t ≡ true → (a : Shape) → shape_of b u ≡ Some a → beside_null op ≡ Ok s
          → Gives (of_null op (lowered b g u)) (two_value op (value_of b rows t) (value_of b rows u))
      ahead null a has e =
          of_equal (core_value pool l (of_null op (lowered b g u)))
          (two_value op value.Null (value_of b rows u))
          (two_value op (value_of b rows t) (value_of b rows u))
          (ap (λ z. two_value op z (value_of b rows u)) (sym (null_value b rows t null)))
          (null_ahead b pool l g rows reads op (lowered b g u) (value_of b rows u)
          (beside_equality op s e) (second a has))

      two : (a c : Shape) → shape_of b t ≡ Some a → shape_of b u ≡ Some c
          → Gives (of_binary op (places_of b g t) (places_of b g u) (lowered b g t) (lowered b g u))
          (two_value op (value_of b rows t) (value_of b rows u))
      two a c et eu =
          both_sides op (places_of b g t) (places_of b g u) (lowered b g t) (lowered b g u)
          (value_of b rows t) (value_of b rows u) (first a et) (second c eu)

      by : (nu : Bool) → is_null u ≡ nu → (nt : Bool) → is_null t ≡ nt
          → (ot : Option Shape) → shape_of b t ≡ ot → (ou : Option Shape) → shape_of b u ≡ ou
          → (eq : Bool) (ss : List Shape)
          → beside (operand (eq && nt) ot) (beside (operand (eq && nu) ou) (Some [])) ≡ Some ss
          → rule b (two_of op) ss ≡ Ok s
          → Gives (cond nu (of_null op (lowered b g t)) (cond nt (of_null op (lowered b g u))
          (of_binary op (places_of b g t) (places_of b g u) (lowered b g t) (lowered b g u))))
          (two_value op (value_of b rows t) (value_of b rows u))
      by true enu true ent ot et (Some c) eu eq ss e f = absurd (null_has u enu c eu)
      by true enu true ent ot et None eu true ss e f = absurd (no_sides op s (of_same [] ss e) f)
      by true enu true ent (Some a) et None eu false ss e f = absurd cc
      by true enu true ent None et None eu false ss e f = absurd cc
      by true enu false ent ot et (Some c) eu eq ss e f = absurd (null_has u enu c eu)
      by true enu false ent (Some a) et None eu true ss e f =
          behind enu a et (ap (rule b (two_of op)) (of_same (a ∷ []) ss e) ∙ f)
      by true enu false ent (Some a) et None eu false ss e f = absurd cc
      by true enu false ent None et None eu true ss e f = absurd cc
      by true enu false ent None et None eu false ss e f = absurd cc
      by false enu true ent (Some a) et ou eu eq ss e f = absurd (null_has t ent a et)
      by false enu true ent None et (Some c) eu true ss e f =
          ahead ent c eu (ap (rule b (two_of op)) (of_same (c ∷ []) ss e) ∙ f)
      by false enu true ent None et (Some c) eu false ss e f = absurd cc
      by false enu true ent None et None eu true ss e f = absurd cc
      by false enu true ent None et None eu false ss e f = absurd cc
      by false enu false ent (Some a) et (Some c) eu true ss e f = two a c et eu
      by false enu false ent (Some a) et (Some c) eu false ss e f = two a c et eu
      by false enu false ent (Some a) et None eu true ss e f = absurd cc
      by false enu false ent (Some a) et None eu false ss e f = absurd cc
      by false enu false ent None et ou eu true ss e f = absurd cc
      by false enu false ent None et ou eu false ss e f = absurd cc

  of_binary_parts : (op : BinaryOperator) (parts : Trees ℕ) (s : Shape)
      → AreParts (two_of op) parts s → HasSides (two_of op) parts
      → Gives (by_operation b g (two_of op) parts) (applied (two_of op) rows (values_of b rows parts))
  of_binary_parts op (trees t (trees u no_trees)) s h sides =
      of_sides op t u s
      (λ a e. h.shown.0 a e h.small.0 h.sided.0
      (all_first IsCounted (aggregates_in t) (all_aggregates (trees u no_trees)) h.counted))
      (λ a e. h.shown.1.0 a e h.small.1.0 h.sided.1.0
      (all_first IsCounted (aggregates_in u) []
      (all_second IsCounted (aggregates_in t) (all_aggregates (trees u no_trees)) h.counted)))
      h.ruled
  of_binary_parts op no_trees s h sides = absurd sides
  of_binary_parts op (trees t no_trees) s h sides = absurd sides
  of_binary_parts op (trees t (trees u (trees v vs))) s h sides = absurd sides

  -- ---- calls

  -- of one argument
  single_call : (f : Function) (parts : Trees ℕ) (s : Shape)
      → ((ss : List Shape) → rules.call_shape b f ss ≡ single b.postings f ss)
      → ((t : Tree ℕ) → by_operation b g (call_of f) (trees t no_trees) ≡ of_function f (lowered b g t))
      → ((x : Value) → call_value f (x ∷ []) ≡ meaning.of_one f x)
      → AreParts (call_of f) parts s → is_aggregate (call_of f) ≡ false
      → Gives (by_operation b g (call_of f) parts) (applied (call_of f) rows (values_of b rows parts))
  single_call f no_trees s is_single is_one is_value h plain =
      absurd (none (sym (is_single [])
      ∙ ap (rules.call_shape b f) (of_same [] h.ruled.shapes h.ruled.are) ∙ h.ruled.gives))
    where
      none : single b.postings f [] ≡ Ok s → ⊥
      none e = absurd cc
  single_call f (trees t no_trees) s is_single is_one is_value h plain =
      let k = has_first b t no_trees h.ruled.shapes h.ruled.are in
      let gives =
      sym (is_single (k.one ∷ k.more)) ∙ ap (rules.call_shape b f) (sym k.are) ∙ h.ruled.gives in
      subst (λ x. Gives x (call_value f (value_of b rows t ∷ []))) (sym (is_one t))
      (subst (Gives (of_function f (lowered b g t))) (sym (is_value (value_of b rows t)))
      (function_step b pool l g rows reads b.postings f k.one s (lowered b g t) (value_of b rows t)
      plain (one k.one k.more (of_same [] k.more k.others) gives)
      (h.shown.0 k.one k.first h.small.0 h.sided.0
      (all_first IsCounted (aggregates_in t) [] h.counted))))
    where
      one : (a : Shape) (more : List Shape) → [] ≡ more → single b.postings f (a ∷ more) ≡ Ok s
          → rules.of_one b.postings f a ≡ Ok s
      one a [] e f = f
      one a (t ∷ ts) e f = absurd cc
  single_call f (trees t (trees u us)) s is_single is_one is_value h plain =
      let k = has_first b t (trees u us) h.ruled.shapes h.ruled.are in
      let m = has_first b u us k.more k.others in
      absurd (two k.one m.one m.more
      (sym (is_single (k.one ∷ m.one ∷ m.more))
      ∙ ap (λ x. rules.call_shape b f (k.one ∷ x)) (sym m.are)
      ∙ ap (rules.call_shape b f) (sym k.are) ∙ h.ruled.gives))
    where
      two : (a c : Shape) (more : List Shape) → single b.postings f (a ∷ c ∷ more) ≡ Ok s → ⊥
      two a c more e = absurd cc

  list_call : (parts : Trees ℕ) (s : Shape) → AreParts (call_of function.OneOf) parts s
      → Gives (by_operation b g (call_of function.OneOf) parts)
      (applied (call_of function.OneOf) rows (values_of b rows parts))
  list_call no_trees s h =
      absurd (none (ap rules.listed (of_same [] h.ruled.shapes h.ruled.are) ∙ h.ruled.gives))
    where
      none : rules.listed [] ≡ Ok s → ⊥
      none e = absurd cc
  list_call (trees t ts) s h =
      let k = has_first b t ts h.ruled.shapes h.ruled.are in
      let x = lowered b g t in
      subst (λ p. Gives (in_list p x ts)
      (unary_value (operation.InList (values_of b rows ts)) (value_of b rows t)))
      (ap places_in (sym k.first))
      (list_step b rows pool l k.one s x (value_of b rows t) ts k.more h.few.2 k.others
      (is_listed k.one s k.more (ap rules.listed (sym k.are) ∙ h.ruled.gives))
      (h.shown.0 k.one k.first h.small.0 h.sided.0
      (all_first IsCounted (aggregates_in t) (all_aggregates ts) h.counted)))

  of_call_parts : (f : Function) (parts : Trees ℕ) (s : Shape) → AreParts (call_of f) parts s
      → is_aggregate (call_of f) ≡ false
      → Gives (by_operation b g (call_of f) parts) (applied (call_of f) rows (values_of b rows parts))
  of_call_parts function.OneOf parts s h plain = list_call parts s h
  of_call_parts function.Root parts s h plain =
      single_call function.Root parts s (λ ss. refl) (λ t. refl) (λ x. refl) h plain
  of_call_parts function.Parent parts s h plain =
      single_call function.Parent parts s (λ ss. refl) (λ t. refl) (λ x. refl) h plain
  of_call_parts function.Leaf parts s h plain =
      single_call function.Leaf parts s (λ ss. refl) (λ t. refl) (λ x. refl) h plain
  of_call_parts function.Length parts s h plain =
      single_call function.Length parts s (λ ss. refl) (λ t. refl) (λ x. refl) h plain
  of_call_parts function.Units parts s h plain =
      single_call function.Units parts s (λ ss. refl) (λ t. refl) (λ x. refl) h plain
  of_call_parts function.Cost parts s h plain =
      single_call function.Cost parts s (λ ss. refl) (λ t. refl) (λ x. refl) h plain
  of_call_parts function.Year parts s h plain =
      single_call function.Year parts s (λ ss. refl) (λ t. refl) (λ x. refl) h plain
  of_call_parts function.Month parts s h plain =
      single_call function.Month parts s (λ ss. refl) (λ t. refl) (λ x. refl) h plain
  of_call_parts function.Day parts s h plain =
      single_call function.Day parts s (λ ss. refl) (λ t. refl) (λ x. refl) h plain
  of_call_parts function.Number parts s h plain =
      single_call function.Number parts s (λ ss. refl) (λ t. refl) (λ x. refl) h plain
  of_call_parts function.Currency parts s h plain =
      single_call function.Currency parts s (λ ss. refl) (λ t. refl) (λ x. refl) h plain
  of_call_parts function.Abs parts s h plain =
      single_call function.Abs parts s (λ ss. refl) (λ t. refl) (λ x. refl) h plain
  of_call_parts function.Meta parts s h plain =
      single_call function.Meta parts s (λ ss. refl) (λ t. refl) (λ x. refl) h plain
  of_call_parts function.EntryMeta parts s h plain =
      single_call function.EntryMeta parts s (λ ss. refl) (λ t. refl) (λ x. refl) h plain
  of_call_parts function.AnyMeta parts s h plain =
      single_call function.AnyMeta parts s (λ ss. refl) (λ t. refl) (λ x. refl) h plain
  of_call_parts function.HasAccount parts s h plain =
      single_call function.HasAccount parts s (λ ss. refl) (λ t. refl) (λ x. refl) h plain
  of_call_parts function.RootRank parts s h plain =
      single_call function.RootRank parts s (λ ss. refl) (λ t. refl) (λ x. refl) h plain
  of_call_parts function.Count parts s h plain = absurd cc
  of_call_parts function.Sum parts s h plain = absurd cc
  of_call_parts function.First parts s h plain = absurd cc
  of_call_parts function.Last parts s h plain = absurd cc
  of_call_parts function.Min parts s h plain = absurd cc
  of_call_parts function.Max parts s h plain = absurd cc

  -- ---- expressions

  of_operation : (at : ℕ) (op : Operation) (parts : Trees ℕ) (s : Shape)
      → shape_of b (node at op parts) ≡ Some s → AreParts op parts s → HasSides op parts
      → is_aggregate op ≡ false
      → Gives (by_operation b g op parts) (applied op rows (values_of b rows parts))
  of_operation at (leaf_of lf) parts s e h sides plain =
      leaf_step b pool l g rows reads lf s (leaf_only b at lf parts s e)
      (λ r. true_false (ap is_rows r ∙ plain))
    where
      true_false : true ≡ false → ⊥
      true_false e = absurd cc
  of_operation at (one_of op) parts s e h sides plain = of_unary_part op parts s h
  of_operation at (two_of op) parts s e h sides plain = of_binary_parts op parts s h sides
  of_operation at (call_of f) parts s e h sides plain = of_call_parts f parts s h plain

  of_node : (at : ℕ) (op : Operation) (parts : Trees ℕ) → AreShown parts
      → IsShown (node at op parts)
  of_node at op parts shown s e small sided counted =
      by (has g.keys (node at op parts)) refl (has g.aggregates (node at op parts)) refl
      (is_aggregate op) refl counted
    where
      t : Tree ℕ
      t = node at op parts

      true_false : true ≡ false → ⊥
      true_false e = absurd cc

      by : (k : Bool) → has g.keys (node at op parts) ≡ k → (a : Bool)
          → has g.aggregates (node at op parts) ≡ a → (gathers : Bool) → is_aggregate op ≡ gathers
          → AreCounted (cond gathers (node at op parts ∷ []) (all_aggregates parts))
          → Gives (cond k (loading (key (index_of g.keys (node at op parts))))
          (cond a (loading (aggregate (index_of g.aggregates (node at op parts))))
          (by_operation b g op parts)))
          (value_of b rows (node at op parts))
      by true ek a ea gathers eg c =
          pushed (slice_get l.keys (index_of g.keys t)) (value_of b rows t) (reads.keys t ek)
      by false ek true ea gathers eg c =
          pushed (slice_get l.aggregates (index_of g.aggregates t)) (value_of b rows t)
          (reads.aggregates t ea)
      by false ek false ea true eg c = absurd (true_false (sym c.0 ∙ ea))
      by false ek false ea false eg c =
          subst (Gives (by_operation b g op parts))
          (sym (ap (λ z. cond z
          (aggregate_of (aggregate_by op (shapes_of b false parts))
          (map (λ r. input_of (values_of b (r ∷ []) parts)) rows))
          (applied op rows (values_of b rows parts))) eg))
          (of_operation at op parts s e
          (record {
            shown = shown;
            ruled = by_rule b op parts s e;
            few = small.0;
            small = small.1;
            sided = sided.1;
            counted = c;
          }) sided.0 eg)

  mutual
    pub lowered_value : (t : Tree ℕ) → IsShown t
    lowered_value (node at op parts) = of_node at op parts (all_values parts)

    all_values : (ts : Trees ℕ) → AreShown ts
    all_values no_trees = tt
    all_values (trees t ts) = (lowered_value t, all_values ts)
