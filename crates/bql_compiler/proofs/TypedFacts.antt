-- What a typed expression is lowered to has its shape, by induction on its parts.
use Rattle.std.proofs.Common.{◌≡◌, ℕ, ◌&&◌, max, Bool, true, false, cond, List, [], ◌∷◌, Option, Some, None}
use Rattle.std.proofs.Common.{Ok, Err, refl, sym, ap, ◌∙◌, subst}
use Rattle.std.specs.Prelude.{◌==◌}
use Rattle.std.specs.List.{AllByRecursion}
use Rattle.limits.specs.declared.bounds.Bounds.{Bounds}
use Rattle.bql_code.specs.Core.{Core, aggregate, key, loading, truth}
use Rattle.bql_code.specs.Laws.{StandsIn}
use Rattle.bql_code.specs.Pool.{used}
use Rattle.bql_lowering.specs.Lowered.{Gathered, by_operation, has, in_list, lowered, of_binary}
use Rattle.bql_lowering.specs.Lowered.{of_function}
use Rattle.bql_lowering.specs.Lowered.{of_null, places_in, places_of, unary_of}
use Rattle.bql_parser.specs.Small.{AreSmallTrees, IsSmallIn, IsSmallTree}
use Rattle.bql_plan.specs.Plan.{index_of}
use Rattle.bql_rules.specs.Rules as rules
use Rattle.bql_rules.specs.Rules.{single}
use Rattle.bql_tree.specs.Tree.{Operation, leaf_of, one_of, two_of, call_of, Tree, node, Trees}
use Rattle.bql_tree.specs.Tree.{no_trees, trees}
use Rattle.bql_tree.specs.declared.function.Function.{Function}
use Rattle.bql_tree.specs.declared.function.Function.TheVariants as function
use Rattle.bql_tree.specs.declared.tree.BinaryOperator.{BinaryOperator}
use Rattle.bql_tree.specs.declared.tree.BinaryOperator.TheVariants as binary
use Rattle.bql_tree.specs.declared.tree.Leaf.TheVariants as leaf
use Rattle.bql_tree.specs.declared.tree.UnaryOperator.{UnaryOperator}
use Rattle.bql_types.specs.Shaped as shaped
use Rattle.bql_types.specs.Shaped.{beside, beside_null, is_equality, is_equation, is_null, operand}
use Rattle.bql_types.specs.Shaped.{rule, ruled, shape_of, shapes_of}
use Rattle.bql_types.specs.Sought.{is_aggregate, is_rows}
use Rattle.bql_compiler.specs.CoreShape.{HasShape}
use Rattle.query_code.specs.declared.program.Constant.{Constant}
use Rattle.query_rows.specs.ColumnShape.{AreBounds}
use Rattle.query_rows.specs.Rules.{Ruled}
use Rattle.query_rows.specs.Rules as machine
use Rattle.query_rows.specs.declared.shape.Misfit.TheVariants.{Kind}
use Rattle.query_rows.specs.declared.shape.Shape.{Shape}
use Rattle.query_rows.specs.declared.shape.Shape.TheVariants as shape
use Rattle.query_values.specs.declared.operation.Binary as operations_of
use Rattle.query_values.specs.declared.operation.Binary.TheVariants as operations
use Rattle.well_shaped.specs.Sections.{Loads}
use Rattle.bql_compiler.specs.Loaded.{AreGathered, AreLoaded, IsLoaded, IsOperationLoaded}
use Rattle.bql_compiler.proofs.ExpressionFacts.{binary_parts, by_one_parts, leaf_shape, list_parts}
use Rattle.bql_compiler.proofs.ExpressionFacts.{null_parts, unary_parts, unary_shape}
use Rattle.bql_compiler.proofs.LoweredListFacts.{leaf_only, list_shape}
use Rattle.bql_compiler.proofs.OperatorFacts.{binary_shape, function_shape, null_shape}

-- ---- what has a shape by its rule

-- the parts have shapes, over which the rule gives one
pub record ByRule (b : Bounds) (op : Operation) (parts : Trees ℕ) (s : Shape) : Type 0 where
  pub shapes : List Shape
  pub are : shapes_of b (is_equation op) parts ≡ Some shapes
  pub gives : rule b op shapes ≡ Ok s

pub by_rule : (b : Bounds) (op : Operation) (parts : Trees ℕ) (s : Shape)
    → shaped.given (ruled b op (shapes_of b (is_equation op) parts)) ≡ Some s
    → ByRule b op parts s
by_rule b op parts s e = by (shapes_of b (is_equation op) parts) refl e
  where
    of_rule : (r : Ruled) → shaped.given (Some r) ≡ Some s → r ≡ Ok s
    of_rule (Ok t) e = cc
    of_rule (Err f) e = cc

    by : (o : Option (List Shape)) → shapes_of b (is_equation op) parts ≡ o
        → shaped.given (ruled b op o) ≡ Some s → ByRule b op parts s
    by None eo e = cc
    by (Some ss) eo e = record { shapes = ss; are = eo; gives = of_rule (rule b op ss) e }

-- the first part has the first shape, and the others have the others
pub record HasFirst (b : Bounds) (t : Tree ℕ) (ts : Trees ℕ) (ss : List Shape) : Type 0 where
  pub one : Shape
  pub more : List Shape
  pub first : shape_of b t ≡ Some one
  pub others : shapes_of b false ts ≡ Some more
  pub are : ss ≡ one ∷ more

pub has_first : (b : Bounds) (t : Tree ℕ) (ts : Trees ℕ) (ss : List Shape)
    → shapes_of b false (trees t ts) ≡ Some ss → HasFirst b t ts ss
has_first b t ts ss e = by (shape_of b t) refl (shapes_of b false ts) refl e
  where
    by : (o : Option Shape) → shape_of b t ≡ o → (p : Option (List Shape))
        → shapes_of b false ts ≡ p → beside (operand false o) p ≡ Some ss → HasFirst b t ts ss
    by (Some s) eo (Some us) ep e = record { one = s; more = us; first = eo; others = ep; are = cc }
    by (Some s) eo None ep e = cc
    by None eo p ep e = cc

-- NULL has no shape
pub null_shapeless : (b : Bounds) (t : Tree ℕ) → is_null t ≡ true → shape_of b t ≡ None
null_shapeless b (node at (leaf_of leaf.Null) no_trees) e = refl
null_shapeless b (node at (leaf_of leaf.Null) (trees t ts)) e = cc
null_shapeless b (node at (leaf_of (leaf.Column c)) ts) e = cc
null_shapeless b (node at (leaf_of (leaf.Number n)) ts) e = cc
null_shapeless b (node at (leaf_of (leaf.TooWide digits)) ts) e = cc
null_shapeless b (node at (leaf_of (leaf.Text t)) ts) e = cc
null_shapeless b (node at (leaf_of (leaf.Day d)) ts) e = cc
null_shapeless b (node at (leaf_of (leaf.Truth t)) ts) e = cc
null_shapeless b (node at (leaf_of leaf.Rows) ts) e = cc
null_shapeless b (node at (leaf_of (leaf.Meta o k)) ts) e = cc
null_shapeless b (node at (leaf_of (leaf.HasAccount p)) ts) e = cc
null_shapeless b (node at (one_of op) ts) e = cc
null_shapeless b (node at (two_of op) ts) e = cc
null_shapeless b (node at (call_of f) ts) e = cc

-- ---- equations

compared_truth : (s t u : Shape) → machine.compared s t ≡ Ok u → u ≡ shape.Truth
compared_truth shape.Truth shape.Truth u e = cc
compared_truth shape.Truth shape.Text u e = cc
compared_truth shape.Truth shape.Day u e = cc
compared_truth shape.Truth shape.Set u e = cc
compared_truth shape.Truth (shape.Number q n) u e = cc
compared_truth shape.Truth (shape.Amount q n) u e = cc
compared_truth shape.Truth (shape.Position x y) u e = cc
compared_truth shape.Truth (shape.Inventory q x y) u e = cc
compared_truth shape.Text shape.Truth u e = cc
compared_truth shape.Text shape.Text u e = cc
compared_truth shape.Text shape.Day u e = cc
compared_truth shape.Text shape.Set u e = cc
compared_truth shape.Text (shape.Number q n) u e = cc
compared_truth shape.Text (shape.Amount q n) u e = cc
compared_truth shape.Text (shape.Position x y) u e = cc
compared_truth shape.Text (shape.Inventory q x y) u e = cc
compared_truth shape.Day shape.Truth u e = cc
compared_truth shape.Day shape.Text u e = cc
compared_truth shape.Day shape.Day u e = cc
compared_truth shape.Day shape.Set u e = cc
compared_truth shape.Day (shape.Number q n) u e = cc
compared_truth shape.Day (shape.Amount q n) u e = cc
compared_truth shape.Day (shape.Position x y) u e = cc
compared_truth shape.Day (shape.Inventory q x y) u e = cc
compared_truth (shape.Number p m) (shape.Number q n) u e = by (p == q) e
  where
    by : (same : Bool) → cond same (Ok shape.Truth) (Err Kind) ≡ Ok u → u ≡ shape.Truth
    by true e = cc
    by false e = cc
compared_truth (shape.Number p m) shape.Truth u e = cc
compared_truth (shape.Number p m) shape.Text u e = cc
compared_truth (shape.Number p m) shape.Day u e = cc
compared_truth (shape.Number p m) shape.Set u e = cc
compared_truth (shape.Number p m) (shape.Amount q n) u e = cc
compared_truth (shape.Number p m) (shape.Position x y) u e = cc
compared_truth (shape.Number p m) (shape.Inventory q x y) u e = cc
compared_truth shape.Set t u e = cc
compared_truth (shape.Amount p m) t u e = cc
compared_truth (shape.Position v w) t u e = cc
compared_truth (shape.Inventory p v w) t u e = cc

two_numbers : (op : operations_of.Binary) (a c : Ruled) (u : Shape)
    → ((s t u : Shape) → machine.binary_shape op s t ≡ Ok u → u ≡ shape.Truth)
    → rules.of_both op a c ≡ Ok u → u ≡ shape.Truth
two_numbers op (Ok s) (Ok t) u told e = told s t u e
two_numbers op (Ok s) (Err f) u told e = cc
two_numbers op (Err f) c u told e = cc

by_machine_truth : (op : operations_of.Binary) (s t u : Shape)
    → ((s t u : Shape) → machine.binary_shape op s t ≡ Ok u → u ≡ shape.Truth)
    → rules.by_machine op s t ≡ Ok u → u ≡ shape.Truth
by_machine_truth op (shape.Number p m) (shape.Number q n) u told e =
    two_numbers op (machine.aligned (max p q) (shape.Number p m))
    (machine.aligned (max p q) (shape.Number q n)) u told e
by_machine_truth op (shape.Number p m) shape.Truth u told e =
    told (shape.Number p m) shape.Truth u e
by_machine_truth op (shape.Number p m) shape.Text u told e =
    told (shape.Number p m) shape.Text u e
by_machine_truth op (shape.Number p m) shape.Day u told e =
    told (shape.Number p m) shape.Day u e
by_machine_truth op (shape.Number p m) shape.Set u told e =
    told (shape.Number p m) shape.Set u e
by_machine_truth op (shape.Number p m) (shape.Amount q n) u told e =
    told (shape.Number p m) (shape.Amount q n) u e
by_machine_truth op (shape.Number p m) (shape.Position x y) u told e =
    told (shape.Number p m) (shape.Position x y) u e
by_machine_truth op (shape.Number p m) (shape.Inventory q x y) u told e =
    told (shape.Number p m) (shape.Inventory q x y) u e
by_machine_truth op shape.Truth t u told e = told shape.Truth t u e
by_machine_truth op shape.Text t u told e = told shape.Text t u e
by_machine_truth op shape.Day t u told e = told shape.Day t u e
by_machine_truth op shape.Set t u told e = told shape.Set t u e
by_machine_truth op (shape.Amount p m) t u told e = told (shape.Amount p m) t u e
by_machine_truth op (shape.Position v w) t u told e = told (shape.Position v w) t u e
by_machine_truth op (shape.Inventory p v w) t u told e = told (shape.Inventory p v w) t u e

equality_truth : (op : BinaryOperator) (s t u : Shape) → is_equality op ≡ true
    → rules.binary_shape op s t ≡ Ok u → u ≡ shape.Truth
equality_truth binary.Equal s t u eq e = by_machine_truth operations.Equal s t u compared_truth e
equality_truth binary.NotEqual s t u eq e =
    by_machine_truth operations.NotEqual s t u compared_truth e
equality_truth binary.Or s t u eq e = cc
equality_truth binary.And s t u eq e = cc
equality_truth binary.Less s t u eq e = cc
equality_truth binary.LessOrEqual s t u eq e = cc
equality_truth binary.Greater s t u eq e = cc
equality_truth binary.GreaterOrEqual s t u eq e = cc
equality_truth binary.In s t u eq e = cc
equality_truth binary.Plus s t u eq e = cc
equality_truth binary.Minus s t u eq e = cc
equality_truth binary.Times s t u eq e = cc

beside_truth : (op : BinaryOperator) (u : Shape) → beside_null op ≡ Ok u → u ≡ shape.Truth
beside_truth op u e = by (is_equality op) e
  where
    by : (eq : Bool) → cond eq (Ok shape.Truth) (Err Kind) ≡ Ok u → u ≡ shape.Truth
    by true e = cc
    by false e = cc

-- ---- the induction

module _ (b : Bounds) (bounds : AreBounds b) (pool : List Constant) (l : Loads) (g : Gathered)
    (gathered : AreGathered b l g pool) where
  abbrev Stands : Core → Type 0
  Stands x = AllByRecursion (StandsIn pool) (used x)

  -- an expression of which this is to be shown
  abbrev IsShown : Tree ℕ → Type 0
  IsShown t = (s : Shape) → shape_of b t ≡ Some s → IsSmallTree t → IsLoaded b l g t
      → Stands (lowered b g t) → HasShape pool l (lowered b g t) s

  abbrev AreShown : Trees ℕ → Type 0
  AreShown no_trees = Unit {0}
  AreShown (trees t ts) = IsShown t × AreShown ts

  -- of one part
  of_unary_part : (op : UnaryOperator) (parts : Trees ℕ) (s : Shape) → AreShown parts
      → ByRule b (one_of op) parts s → IsSmallIn (one_of op) parts → AreSmallTrees parts
      → AreLoaded b l g parts → Stands (by_operation b g (one_of op) parts)
      → HasShape pool l (by_operation b g (one_of op) parts) s
  of_unary_part op no_trees s shown r is small there stands = absurd (none r.shapes r.are r.gives)
    where
      none : (ss : List Shape) → shapes_of b false no_trees ≡ Some ss → rule b (one_of op) ss ≡ Ok s
          → ⊥
      none [] e f = cc
      none (t ∷ ts) e f = cc
  of_unary_part op (trees t no_trees) s shown r is small there stands =
      let h = has_first b t no_trees r.shapes r.are in
      unary_shape b bounds pool l op h.one s (lowered b g t) is (one h.one h.more h.others (ap (rule b (one_of op)) (sym h.are) ∙ r.gives)) stands
      (shown.0 h.one h.first small.0 there.0 (unary_parts b bounds pool l op (lowered b g t) stands))
    where
      one : (a : Shape) (more : List Shape) → shapes_of b false no_trees ≡ Some more
          → rule b (one_of op) (a ∷ more) ≡ Ok s → rules.unary_shape op a ≡ Ok s
      one a [] e f = f
      one a (t ∷ ts) e f = cc
  of_unary_part op (trees t (trees u us)) s shown r is small there stands =
      let h = has_first b t (trees u us) r.shapes r.are in
      let k = has_first b u us h.more h.others in
      absurd (two h.one k.one k.more
      (ap (λ m. rule b (one_of op) (h.one ∷ m)) (sym k.are)
      ∙ ap (rule b (one_of op)) (sym h.are) ∙ r.gives))
    where
      two : (a c : Shape) (more : List Shape) → rule b (one_of op) (a ∷ c ∷ more) ≡ Ok s → ⊥
      two a c more e = cc

  -- between two

  both_sides : (op : BinaryOperator) (t u : Tree ℕ) (s a c : Shape) → IsShown t → IsShown u
      → shape_of b t ≡ Some a → shape_of b u ≡ Some c → rules.binary_shape op a c ≡ Ok s
      → IsSmallTree t → IsSmallTree u → IsLoaded b l g t → IsLoaded b l g u
      → Stands (of_binary op (places_of b g t) (places_of b g u) (lowered b g t) (lowered b g u))
      → HasShape pool l
      (of_binary op (places_of b g t) (places_of b g u) (lowered b g t) (lowered b g u)) s
  both_sides op t u s a c shown_t shown_u et eu e small_t small_u there_t there_u stands =
      let k =
      binary_parts b bounds pool l op (places_of b g t) (places_of b g u) (lowered b g t) (lowered b g u)
      stands in
      subst (λ p. HasShape pool l (of_binary op p (places_of b g u) (lowered b g t) (lowered b g u)) s)
      (ap places_in (sym et))
      (subst (λ q. HasShape pool l
      (of_binary op (places_in (Some a)) q (lowered b g t) (lowered b g u)) s)
      (ap places_in (sym eu))
      (binary_shape pool l op a c s (lowered b g t) (lowered b g u) e
      (shown_t a et small_t there_t k.0) (shown_u c eu small_u there_u k.1)))

  null_side : (op : BinaryOperator) (t : Tree ℕ) (s a : Shape) → IsShown t
      → shape_of b t ≡ Some a → beside_null op ≡ Ok s → IsSmallTree t → IsLoaded b l g t
      → Stands (of_null op (lowered b g t)) → HasShape pool l (of_null op (lowered b g t)) s
  null_side op t s a shown et e small there stands =
      null_shape pool l op a s (lowered b g t) e
      (shown a et small there (null_parts b bounds pool l op (lowered b g t) stands))

  -- NULL has none
  null_has : (t : Tree ℕ) → is_null t ≡ true → (a : Shape) → shape_of b t ≡ Some a → ⊥
  null_has t e a f = none (sym (null_shapeless b t e) ∙ f)
    where
      none : None ≡ Some a → ⊥
      none e = cc

  of_same : (xs ys : List Shape) → Some xs ≡ Some ys → xs ≡ ys
  of_same xs ys e = cc

  no_sides : (op : BinaryOperator) (s : Shape) {ss : List Shape} → [] ≡ ss
      → rule b (two_of op) ss ≡ Ok s → ⊥
  no_sides op s e f = none (ap (rule b (two_of op)) e ∙ f)
    where
      none : rule b (two_of op) [] ≡ Ok s → ⊥
      none e = cc

  -- by which side is NULL, and what shapes the sides have
  of_sides : (op : BinaryOperator) (t u : Tree ℕ) (s : Shape) → IsShown t → IsShown u
      → IsSmallTree t → IsSmallTree u → IsLoaded b l g t → IsLoaded b l g u
      → ByRule b (two_of op) (trees t (trees u no_trees)) s
      → Stands (by_operation b g (two_of op) (trees t (trees u no_trees)))
      → HasShape pool l (by_operation b g (two_of op) (trees t (trees u no_trees))) s
  of_sides op t u s shown_t shown_u small_t small_u there_t there_u r stands =
      by (is_null u) refl (is_null t) refl (shape_of b t) refl (shape_of b u) refl (is_equality op) r.shapes
      r.are r.gives stands
    where
      by : (nu : Bool) → is_null u ≡ nu → (nt : Bool) → is_null t ≡ nt
          → (ot : Option Shape) → shape_of b t ≡ ot → (ou : Option Shape) → shape_of b u ≡ ou
          → (eq : Bool) (ss : List Shape)
          → beside (operand (eq && nt) ot) (beside (operand (eq && nu) ou) (Some [])) ≡ Some ss
          → rule b (two_of op) ss ≡ Ok s
          → Stands (cond nu (of_null op (lowered b g t)) (cond nt (of_null op (lowered b g u))
          (of_binary op (places_of b g t) (places_of b g u) (lowered b g t) (lowered b g u))))
          → HasShape pool l (cond nu (of_null op (lowered b g t)) (cond nt (of_null op (lowered b g u))
          (of_binary op (places_of b g t) (places_of b g u) (lowered b g t) (lowered b g u)))) s
      by true enu true ent ot et (Some c) eu eq ss e f st = absurd (null_has u enu c eu)
      by true enu true ent ot et None eu true ss e f st = absurd (no_sides op s (of_same [] ss e) f)
      by true enu true ent (Some a) et None eu false ss e f st = cc
      by true enu true ent None et None eu false ss e f st = cc
      by true enu false ent ot et (Some c) eu eq ss e f st = absurd (null_has u enu c eu)
      by true enu false ent (Some a) et None eu true ss e f st =
          null_side op t s a shown_t et
          (ap (rule b (two_of op)) (of_same (a ∷ []) ss e) ∙ f) small_t there_t st
      by true enu false ent (Some a) et None eu false ss e f st = cc
      by true enu false ent None et None eu true ss e f st = cc
      by true enu false ent None et None eu false ss e f st = cc
      by false enu true ent (Some a) et ou eu eq ss e f st = absurd (null_has t ent a et)
      by false enu true ent None et (Some c) eu true ss e f st =
          null_side op u s c shown_u eu
          (ap (rule b (two_of op)) (of_same (c ∷ []) ss e) ∙ f) small_u there_u st
      by false enu true ent None et (Some c) eu false ss e f st = cc
      by false enu true ent None et None eu true ss e f st = cc
      by false enu true ent None et None eu false ss e f st = cc
      by false enu false ent (Some a) et (Some c) eu true ss e f st =
          both_sides op t u s a c shown_t shown_u et eu
          (ap (rule b (two_of op)) (of_same (a ∷ c ∷ []) ss e) ∙ f) small_t small_u there_t there_u st
      by false enu false ent (Some a) et (Some c) eu false ss e f st =
          both_sides op t u s a c shown_t shown_u et eu
          (ap (rule b (two_of op)) (of_same (a ∷ c ∷ []) ss e) ∙ f) small_t small_u there_t there_u st
      by false enu false ent (Some a) et None eu true ss e f st = cc
      by false enu false ent (Some a) et None eu false ss e f st = cc
      by false enu false ent None et ou eu true ss e f st = cc
      by false enu false ent None et ou eu false ss e f st = cc

  -- with more parts or fewer only an equation has a shape, that of a truth value

  of_equal : (op : BinaryOperator) (s : Shape) → is_equality op ≡ true
      → (ss : List Shape) → rule b (two_of op) ss ≡ Ok s → s ≡ shape.Truth
  of_equal op s eq [] f = cc
  of_equal op s eq (a ∷ []) f = beside_truth op s f
  of_equal op s eq (a ∷ c ∷ []) f = equality_truth op a c s eq f
  of_equal op s eq (a ∷ c ∷ d ∷ ss) f = cc

  a_truth : (s : Shape) → s ≡ shape.Truth → HasShape pool l (loading (truth false)) s
  a_truth s e = subst (HasShape pool l (loading (truth false))) (sym e) refl

  of_binary_parts : (op : BinaryOperator) (parts : Trees ℕ) (s : Shape) → AreShown parts
      → ByRule b (two_of op) parts s → AreSmallTrees parts → AreLoaded b l g parts
      → Stands (by_operation b g (two_of op) parts)
      → HasShape pool l (by_operation b g (two_of op) parts) s
  of_binary_parts op (trees t (trees u no_trees)) s shown r small there stands =
      of_sides op t u s shown.0 shown.1.0 small.0 small.1.0 there.0 there.1.0 r stands
  of_binary_parts op no_trees s shown r small there stands =
      absurd (no_sides op s (of_same [] r.shapes r.are) r.gives)
  of_binary_parts op (trees t no_trees) s shown r small there stands =
      by (is_equality op) refl (shape_of b t) r.are
    where
      by : (eq : Bool) → is_equality op ≡ eq → (o : Option Shape)
          → beside (operand (eq && is_null t) o) (Some []) ≡ Some r.shapes
          → HasShape pool l (loading (truth false)) s
      by true e o are = a_truth s (of_equal op s e r.shapes r.gives)
      by false e (Some a) are =
          a_truth s (beside_truth op s
          (ap (rule b (two_of op)) (of_same (a ∷ []) r.shapes are) ∙ r.gives))
      by false e None are = cc
  of_binary_parts op (trees t (trees u (trees v vs))) s shown r small there stands =
      by (is_equality op) refl r.are
    where
      three : (a c d : Shape) (more : List Shape) → rule b (two_of op) (a ∷ c ∷ d ∷ more) ≡ Ok s → ⊥
      three a c d more e = cc

      by : (eq : Bool) → is_equality op ≡ eq
          → shapes_of b eq (trees t (trees u (trees v vs))) ≡ Some r.shapes
          → HasShape pool l (loading (truth false)) s
      by true e are = a_truth s (of_equal op s e r.shapes r.gives)
      by false e are =
          let h = has_first b t (trees u (trees v vs)) r.shapes are in
          let k = has_first b u (trees v vs) h.more h.others in
          let m = has_first b v vs k.more k.others in
          absurd (three h.one k.one m.one m.more
          (ap (λ x. rule b (two_of op) (h.one ∷ k.one ∷ x)) (sym m.are)
          ∙ ap (λ x. rule b (two_of op) (h.one ∷ x)) (sym k.are)
          ∙ ap (rule b (two_of op)) (sym h.are) ∙ r.gives))

  -- ---- calls

  -- of one argument
  single_call : (f : Function) (parts : Trees ℕ) (s : Shape)
      → ((ss : List Shape) → rules.call_shape b f ss ≡ single b.postings f ss)
      → ((t : Tree ℕ) → by_operation b g (call_of f) (trees t no_trees) ≡ of_function f (lowered b g t))
      → AreShown parts → ByRule b (call_of f) parts s → AreSmallTrees parts
      → is_aggregate (call_of f) ≡ false → AreLoaded b l g parts
      → Stands (by_operation b g (call_of f) parts)
      → HasShape pool l (by_operation b g (call_of f) parts) s
  single_call f no_trees s is_single is_one shown r small plain there stands =
      absurd (none (sym (is_single []) ∙ ap (rules.call_shape b f) (of_same [] r.shapes r.are) ∙ r.gives))
    where
      none : single b.postings f [] ≡ Ok s → ⊥
      none e = cc
  single_call f (trees t no_trees) s is_single is_one shown r small plain there stands =
      let h = has_first b t no_trees r.shapes r.are in
      let gives =
      sym (is_single (h.one ∷ h.more)) ∙ ap (rules.call_shape b f) (sym h.are) ∙ r.gives in
      let stands_one = subst Stands (is_one t) stands in
      subst (λ x. HasShape pool l x s) (sym (is_one t))
      (function_shape pool l b.postings f h.one s (lowered b g t) plain
      (one h.one h.more (of_same [] h.more h.others) gives)
      (shown.0 h.one h.first small.0 there.0
      (by_one_parts b bounds pool l (unary_of f) (lowered b g t) stands_one)))
    where
      one : (a : Shape) (more : List Shape) → [] ≡ more → single b.postings f (a ∷ more) ≡ Ok s
          → rules.of_one b.postings f a ≡ Ok s
      one a [] e f = f
      one a (t ∷ ts) e f = cc
  single_call f (trees t (trees u us)) s is_single is_one shown r small plain there stands =
      let h = has_first b t (trees u us) r.shapes r.are in
      let k = has_first b u us h.more h.others in
      absurd (two h.one k.one k.more
      (sym (is_single (h.one ∷ k.one ∷ k.more))
      ∙ ap (λ x. rules.call_shape b f (h.one ∷ x)) (sym k.are)
      ∙ ap (rules.call_shape b f) (sym h.are) ∙ r.gives))
    where
      two : (a c : Shape) (more : List Shape) → single b.postings f (a ∷ c ∷ more) ≡ Ok s → ⊥
      two a c more e = cc

  list_call : (parts : Trees ℕ) (s : Shape) → AreShown parts
      → ByRule b (call_of function.OneOf) parts s → IsSmallIn (call_of function.OneOf) parts
      → AreSmallTrees parts → AreLoaded b l g parts
      → Stands (by_operation b g (call_of function.OneOf) parts)
      → HasShape pool l (by_operation b g (call_of function.OneOf) parts) s
  list_call no_trees s shown r few small there stands =
      absurd (none (ap rules.listed (of_same [] r.shapes r.are) ∙ r.gives))
    where
      none : rules.listed [] ≡ Ok s → ⊥
      none e = cc
  list_call (trees t ts) s shown r few small there stands =
      let h = has_first b t ts r.shapes r.are in
      let x = lowered b g t in
      let st = subst (λ p. Stands (in_list p x ts)) (ap places_in h.first) stands in
      subst (λ p. HasShape pool l (in_list p x ts) s) (ap places_in (sym h.first))
      (list_shape b pool l h.one s x ts h.more few.2 h.others
      (ap rules.listed (sym h.are) ∙ r.gives)
      (shown.0 h.one h.first small.0 there.0
      (list_parts b bounds pool l (places_in (Some h.one)) x ts st)) st)

  of_call_parts : (f : Function) (parts : Trees ℕ) (s : Shape) → AreShown parts
      → ByRule b (call_of f) parts s → IsSmallIn (call_of f) parts → AreSmallTrees parts
      → is_aggregate (call_of f) ≡ false → AreLoaded b l g parts
      → Stands (by_operation b g (call_of f) parts)
      → HasShape pool l (by_operation b g (call_of f) parts) s
  of_call_parts function.OneOf parts s shown r few small plain there stands =
      list_call parts s shown r few small there stands
  of_call_parts function.Root parts s shown r few small plain there stands =
      single_call function.Root parts s (λ ss. refl) (λ t. refl) shown r small plain there stands
  of_call_parts function.Parent parts s shown r few small plain there stands =
      single_call function.Parent parts s (λ ss. refl) (λ t. refl) shown r small plain there stands
  of_call_parts function.Leaf parts s shown r few small plain there stands =
      single_call function.Leaf parts s (λ ss. refl) (λ t. refl) shown r small plain there stands
  of_call_parts function.Length parts s shown r few small plain there stands =
      single_call function.Length parts s (λ ss. refl) (λ t. refl) shown r small plain there stands
  of_call_parts function.Units parts s shown r few small plain there stands =
      single_call function.Units parts s (λ ss. refl) (λ t. refl) shown r small plain there stands
  of_call_parts function.Cost parts s shown r few small plain there stands =
      single_call function.Cost parts s (λ ss. refl) (λ t. refl) shown r small plain there stands
  of_call_parts function.Year parts s shown r few small plain there stands =
      single_call function.Year parts s (λ ss. refl) (λ t. refl) shown r small plain there stands
  of_call_parts function.Month parts s shown r few small plain there stands =
      single_call function.Month parts s (λ ss. refl) (λ t. refl) shown r small plain there stands
  of_call_parts function.Day parts s shown r few small plain there stands =
      single_call function.Day parts s (λ ss. refl) (λ t. refl) shown r small plain there stands
  of_call_parts function.Number parts s shown r few small plain there stands =
      single_call function.Number parts s (λ ss. refl) (λ t. refl) shown r small plain there stands
  of_call_parts function.Currency parts s shown r few small plain there stands =
      single_call function.Currency parts s (λ ss. refl) (λ t. refl) shown r small plain there stands
  of_call_parts function.Abs parts s shown r few small plain there stands =
      single_call function.Abs parts s (λ ss. refl) (λ t. refl) shown r small plain there stands
  of_call_parts function.Meta parts s shown r few small plain there stands =
      single_call function.Meta parts s (λ ss. refl) (λ t. refl) shown r small plain there stands
  of_call_parts function.EntryMeta parts s shown r few small plain there stands =
      single_call function.EntryMeta parts s (λ ss. refl) (λ t. refl) shown r small plain there stands
  of_call_parts function.AnyMeta parts s shown r few small plain there stands =
      single_call function.AnyMeta parts s (λ ss. refl) (λ t. refl) shown r small plain there stands
  of_call_parts function.HasAccount parts s shown r few small plain there stands =
      single_call function.HasAccount parts s (λ ss. refl) (λ t. refl) shown r small plain there stands
  of_call_parts function.RootRank parts s shown r few small plain there stands =
      single_call function.RootRank parts s (λ ss. refl) (λ t. refl) shown r small plain there stands
  of_call_parts function.Count parts s shown r few small plain there stands =
      single_call function.Count parts s (λ ss. refl) (λ t. refl) shown r small plain there stands
  of_call_parts function.Sum parts s shown r few small plain there stands =
      single_call function.Sum parts s (λ ss. refl) (λ t. refl) shown r small plain there stands
  of_call_parts function.First parts s shown r few small plain there stands =
      single_call function.First parts s (λ ss. refl) (λ t. refl) shown r small plain there stands
  of_call_parts function.Last parts s shown r few small plain there stands =
      single_call function.Last parts s (λ ss. refl) (λ t. refl) shown r small plain there stands
  of_call_parts function.Min parts s shown r few small plain there stands =
      single_call function.Min parts s (λ ss. refl) (λ t. refl) shown r small plain there stands
  of_call_parts function.Max parts s shown r few small plain there stands =
      single_call function.Max parts s (λ ss. refl) (λ t. refl) shown r small plain there stands

  -- ---- expressions

  of_operation : (at : ℕ) (op : Operation) (parts : Trees ℕ) (s : Shape) → AreShown parts
      → shape_of b (node at op parts) ≡ Some s → IsSmallIn op parts → AreSmallTrees parts
      → IsOperationLoaded b l op → AreLoaded b l g parts → Stands (by_operation b g op parts)
      → HasShape pool l (by_operation b g op parts) s
  of_operation at (leaf_of lf) parts s shown e few small plain there stands =
      leaf_shape b bounds pool l lf s (leaf_only b at lf parts s e) plain.1 stands
      (λ r. true_false (ap is_rows r ∙ plain.0))
    where
      true_false : true ≡ false → ⊥
      true_false e = cc
  of_operation at (one_of op) parts s shown e few small plain there stands =
      of_unary_part op parts s shown (by_rule b (one_of op) parts s e) few small there stands
  of_operation at (two_of op) parts s shown e few small plain there stands =
      of_binary_parts op parts s shown (by_rule b (two_of op) parts s e) small there stands
  of_operation at (call_of f) parts s shown e few small plain there stands =
      of_call_parts f parts s shown (by_rule b (call_of f) parts s e) few small plain there stands

  of_node : (at : ℕ) (op : Operation) (parts : Trees ℕ) → AreShown parts
      → IsShown (node at op parts)
  of_node at op parts shown s e small there stands =
      by (has g.keys (node at op parts)) refl (has g.aggregates (node at op parts)) refl stands
    where
      by : (k : Bool) → has g.keys (node at op parts) ≡ k → (a : Bool)
          → has g.aggregates (node at op parts) ≡ a
          → Stands (cond k (loading (key (index_of g.keys (node at op parts))))
          (cond a (loading (aggregate (index_of g.aggregates (node at op parts))))
          (by_operation b g op parts)))
          → HasShape pool l (cond k (loading (key (index_of g.keys (node at op parts))))
          (cond a (loading (aggregate (index_of g.aggregates (node at op parts))))
          (by_operation b g op parts))) s
      by true ek a ea st = gathered.keys (node at op parts) s ek e
      by false ek true ea st = gathered.aggregates (node at op parts) s ea e
      by false ek false ea st =
          let h = there ek ea in
          of_operation at op parts s shown e small.0 small.1 h.0 h.1 st

  mutual
    pub lowered_shape : (t : Tree ℕ) → IsShown t
    lowered_shape (node at op parts) = of_node at op parts (all_shapes parts)

    all_shapes : (ts : Trees ℕ) → AreShown ts
    all_shapes no_trees = tt
    all_shapes (trees t ts) = (lowered_shape t, all_shapes ts)
