-- What the sections of a program leave: the values of the expressions that they compute.
use Rattle.std.proofs.Common.{◌≡◌, ℕ, ◌&&◌, Bool, true, false, List, [], ◌∷◌, map, reverse}
use Rattle.std.proofs.Common.{Option, Some, None, refl, sym, ap, ◌∙◌, IfSome}
use Rattle.std.proofs.lemmas.List.{reverse-reverse}
use Rattle.std.specs.Prelude.{option_and_then, option_map}
use Rattle.std.specs.List.{AllByRecursion}
use Rattle.limits.specs.declared.bounds.Bounds.{Bounds}
use Rattle.bql_code.specs.Code.{all_code, code}
use Rattle.bql_code.specs.Core.{Core}
use Rattle.bql_lowering.specs.Lowered.{Gathered, all_lowered, has, lowered, of_a_row}
use Rattle.bql_meaning.specs.Answer.{holds, unbalanced}
use Rattle.bql_meaning.specs.Meaning.{value_of}
use Rattle.bql_meaning.specs.Reading.{Reading}
use Rattle.bql_parser.specs.Small.{IsSmallTree}
use Rattle.bql_plan.specs.Plan.{aggregates_in}
use Rattle.bql_compiler.specs.Program.{filter_of, filtering}
use Rattle.bql_tree.specs.Tree.{Tree}
use Rattle.bql_types.specs.Shaped.{shape_of}
use Rattle.bql_compiler.proofs.CodeFacts.{all_left, one_left}
use Rattle.bql_compiler.specs.CoreValue.{core_value, core_values}
use Rattle.bql_compiler.proofs.LoweredFacts.{lowered_value}
use Rattle.bql_compiler.proofs.StepFacts.{and_step}
use Rattle.bql_compiler.specs.Reads.{Reads}
use Rattle.bql_compiler.specs.Sided.{IsSided}
use Rattle.plain_machine.specs.Gathering.{cons_if}
use Rattle.plain_machine.specs.Loading.{Loads, value_acts}
use Rattle.plain_machine.specs.PlainMachine.{one_truth}
use Rattle.plain_machine.specs.SectionRun.{left_by}
use Rattle.query_code.specs.declared.program.Constant.{Constant}
use Rattle.query_rows.specs.Row.{Row}
use Rattle.query_rows.specs.declared.shape.Shape.{Shape}
use Rattle.query_values.specs.Operation.{is_true}
use Rattle.query_values.specs.declared.value.Value.{Value}
use Rattle.query_values.specs.declared.value.Value.TheVariants as value
use Rattle.bql_compiler.proofs.CarriedListFacts.{no_value, some_is}

-- what is computed has a shape, is small, and has its aggregates gathered
pub record IsComputed (b : Bounds) (g : Gathered) (t : Tree ℕ) : Type 0 where
  pub shape : Shape
  pub shaped : shape_of b t ≡ Some shape
  pub small : IsSmallTree t
  pub sided : IsSided t
  pub counted : AllByRecursion (λ a. has g.aggregates a ≡ true) (aggregates_in t)

module _ (b : Bounds) (pool : List Constant) (l : Loads) (g : Gathered) (rows : List Reading)
    (reads : Reads b g l rows) where
  computed_value : (t : Tree ℕ) → IsComputed b g t → (v : Value)
      → core_value pool l (lowered b g t) ≡ Some v → value_of b rows t ≡ v
  computed_value t h v e =
      lowered_value b pool l g rows reads t h.shape h.shaped h.small h.sided h.counted v e

  -- ---- expressions one behind the other

  list_values : (ts : List (Tree ℕ)) → AllByRecursion (IsComputed b g) ts → (vs : List Value)
      → core_values pool l (all_lowered b g ts) ≡ Some vs → map (value_of b rows) ts ≡ vs
  list_values [] all vs e = some_is [] vs e
  list_values (t ∷ ts) all vs e =
      by (λ ws e. list_values ts all.1 ws e) (core_value pool l (lowered b g t)) refl
      (core_values pool l (all_lowered b g ts)) refl e
    where
      by : ((ws : List Value) → core_values pool l (all_lowered b g ts) ≡ Some ws
          → map (value_of b rows) ts ≡ ws)
          → (o : Option Value) → core_value pool l (lowered b g t) ≡ o
          → (p : Option (List Value)) → core_values pool l (all_lowered b g ts) ≡ p
          → cons_if o p ≡ Some vs → map (value_of b rows) (t ∷ ts) ≡ vs
      by others None eo p ep e = absurd (no_value vs e)
      by others (Some v) eo None ep e = absurd (no_value vs e)
      by others (Some v) eo (Some ws) ep e =
          (λ i. computed_value t all.0 v eo i ∷ others ws ep i)
          ∙ some_is (v ∷ ws) vs e

  pub section_values : (ts : List (Tree ℕ)) → AllByRecursion (IsComputed b g) ts
      → (stack : List Value)
      → left_by (all_code pool 0 (all_lowered b g ts)) (value_acts pool l) ≡ Some stack
      → reverse stack ≡ map (value_of b rows) ts
  section_values ts all stack e =
      by (core_values pool l (all_lowered b g ts)) refl (all_left pool l (all_lowered b g ts) stack e)
    where
      by : (o : Option (List Value)) → core_values pool l (all_lowered b g ts) ≡ o
          → option_map reverse o ≡ Some stack → reverse stack ≡ map (value_of b rows) ts
      by None eo e = absurd (no_value stack e)
      by (Some vs) eo e =
          ap reverse (sym (some_is (reverse vs) stack e)) ∙ reverse-reverse vs
          ∙ sym (list_values ts all vs eo)

-- ---- filters

truth_of : (v : Value) (t : Bool) → one_truth (v ∷ []) ≡ Some t → is_true v ≡ t
truth_of (value.Truth u) t e = some_is u t e
truth_of value.Null t e = some_is false t e
truth_of (value.Number p n) t e = absurd (no_value t e)
truth_of (value.Text w) t e = absurd (no_value t e)
truth_of (value.Day d) t e = absurd (no_value t e)
truth_of (value.Set ts) t e = absurd (no_value t e)
truth_of (value.Amount p c n) t e = absurd (no_value t e)
truth_of (value.Position k n) t e = absurd (no_value t e)
truth_of (value.Inventory i) t e = absurd (no_value t e)

and_true : (a : Bool) → (a && true) ≡ a
and_true true = refl
and_true false = refl

module _ (b : Bounds) (pool : List Constant) (l : Loads) (r : Row)
    (reads : Reads b of_a_row l (unbalanced r ∷ [])) where
  filtered : (from filter : Option (Tree ℕ)) → IfSome from (IsComputed b of_a_row)
      → IfSome filter (IsComputed b of_a_row) → (v : Value)
      → core_value pool l (filtering (filter_of b from) (filter_of b filter)) ≡ Some v
      → (holds b from r && holds b filter r) ≡ is_true v
  filtered (Some t) (Some u) h k v e =
      ap is_true (and_step (core_value pool l (lowered b of_a_row t))
      (core_value pool l (lowered b of_a_row u))
      (value_of b (unbalanced r ∷ []) t) (value_of b (unbalanced r ∷ []) u)
      (computed_value b pool l of_a_row (unbalanced r ∷ []) reads t h)
      (computed_value b pool l of_a_row (unbalanced r ∷ []) reads u k) v e)
  filtered (Some t) None h k v e =
      and_true (is_true (value_of b (unbalanced r ∷ []) t))
      ∙ ap is_true (computed_value b pool l of_a_row (unbalanced r ∷ []) reads t h v e)
  filtered None (Some u) h k v e =
      ap is_true (computed_value b pool l of_a_row (unbalanced r ∷ []) reads u k v e)
  filtered None None h k v e = ap is_true (some_is (value.Truth true) v e)

  pub filter_judges : (from filter : Option (Tree ℕ)) → IfSome from (IsComputed b of_a_row)
      → IfSome filter (IsComputed b of_a_row) → (t : Bool)
      → option_and_then one_truth
      (left_by (code pool 0 (filtering (filter_of b from) (filter_of b filter))) (value_acts pool l))
      ≡ Some t
      → (holds b from r && holds b filter r) ≡ t
  filter_judges from filter h k t e =
      by (left_by (code pool 0 core) (value_acts pool l)) refl e
    where
      core : Core
      core = filtering (filter_of b from) (filter_of b filter)

      one : (o : Option Value) → core_value pool l core ≡ o → (stack : List Value)
          → option_map (λ v. v ∷ []) o ≡ Some stack → one_truth stack ≡ Some t
          → (holds b from r && holds b filter r) ≡ t
      one None eo stack es e = absurd (no_value stack es)
      one (Some v) eo stack es e =
          filtered from filter h k v eo
          ∙ truth_of v t (ap one_truth (some_is (v ∷ []) stack es) ∙ e)

      by : (o : Option (List Value)) → left_by (code pool 0 core) (value_acts pool l) ≡ o
          → option_and_then one_truth o ≡ Some t → (holds b from r && holds b filter r) ≡ t
      by None eo e = absurd (no_value t e)
      by (Some stack) eo e =
          one (core_value pool l core) refl stack (one_left pool l core stack eo) e
