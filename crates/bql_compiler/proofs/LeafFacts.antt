-- What leaves of expressions and operations on one are lowered to has their values.
use Rattle.std.proofs.Common.{◌≡◌, ◌⊎◌, ℕ, Bool, true, false, cond, not, List, Option, Some}
use Rattle.std.proofs.Common.{None, Ok, refl, sym, ap, ◌∙◌, inl, inr}
use Rattle.std.specs.Prelude.{option_and_then, option_map, slice_get}
use Rattle.limits.specs.declared.bounds.Bounds.{Bounds}
use Rattle.bql_code.specs.Code.{of_entry}
use Rattle.bql_code.specs.Core.{Core}
use Rattle.bql_code.specs.Pool.{index_in}
use Rattle.bql_lowering.specs.Lowered.{Gathered, of_function, of_leaf, of_null, of_unary}
use Rattle.bql_meaning.specs.Meaning as meaning
use Rattle.bql_meaning.specs.Meaning.{leaf_value, two_value}
use Rattle.bql_meaning.specs.Reading.{Reading, at_first, cell, text}
use Rattle.bql_rules.specs.Rules as rules
use Rattle.bql_rules.specs.Rules.{leaf_shape}
use Rattle.bql_tree.specs.declared.function.Function.{Function}
use Rattle.bql_tree.specs.declared.function.Function.TheVariants as function
use Rattle.bql_tree.specs.declared.tree.BinaryOperator.{BinaryOperator}
use Rattle.bql_tree.specs.declared.tree.BinaryOperator.TheVariants as binary
use Rattle.bql_tree.specs.declared.tree.Leaf.{Leaf}
use Rattle.bql_tree.specs.declared.tree.Leaf.TheVariants as leaf
use Rattle.bql_tree.specs.declared.tree.MetadataOwner.{MetadataOwner}
use Rattle.bql_tree.specs.declared.tree.MetadataOwner.TheVariants as owner
use Rattle.bql_tree.specs.declared.tree.UnaryOperator.{UnaryOperator}
use Rattle.bql_tree.specs.declared.tree.UnaryOperator.TheVariants as unary
use Rattle.bql_types.specs.Shaped.{is_equality}
use Rattle.bql_types.specs.Sought.{is_aggregate_function}
use Rattle.bql_compiler.specs.CoreValue.{core_value}
use Rattle.plain_machine.specs.Loading.{Loads, cell_in, push_of, text_at, unary_of}
use Rattle.plain_machine.specs.Pool.{key_at, key_in, pattern_at, pattern_in, value_in}
use Rattle.query_code.specs.InstructionForm.{at_least_one}
use Rattle.query_code.specs.declared.instruction.Push.TheVariants as push
use Rattle.query_code.specs.declared.instruction.Unary.TheVariants as machine
use Rattle.query_code.specs.declared.program.Constant.{Constant}
use Rattle.query_code.specs.declared.program.Constant.TheVariants as constants
use Rattle.query_terms.proofs.NumberFacts.{has_number}
use Rattle.query_terms.specs.Column.{if_in, is_in, number}
use Rattle.query_terms.specs.declared.column.Column.{Column}
use Rattle.query_terms.specs.declared.column.Column.TheVariants.{Accounts}
use Rattle.query_rows.specs.declared.shape.Shape.{Shape}
use Rattle.query_values.specs.Equality.{same}
use Rattle.query_values.specs.Held.{checked}
use Rattle.query_values.specs.Order.{is_null}
use Rattle.query_values.specs.Unary as operation
use Rattle.query_values.specs.declared.value.Value.{Value}
use Rattle.query_values.specs.declared.value.Value.TheVariants as value
use Rattle.bql_compiler.specs.Reads.{IsOrNone, Reads}
use Rattle.bql_compiler.proofs.PoolFacts.{at_index}
use Rattle.bql_compiler.proofs.StepFacts.{as_is, just, nothing, of_equal, plain_step, pushed}
use Rattle.bql_compiler.proofs.StepFacts.{unary_step}

module _ (b : Bounds) (pool : List Constant) (l : Loads) (g : Gathered) (rows : List Reading)
    (reads : Reads b g l rows) where
  -- ---- leaves

  column_pushed : (c : Column)
      → IsOrNone (push_of pool l (push.LoadColumn (number c))) (at_first (cell c) rows)
  column_pushed c =
      as_is (option_and_then (checked true)
      (option_and_then (cell_in l) (cond (is_in l.schema c) (Some c) None)))
      (push_of pool l (push.LoadColumn (number c))) (at_first (cell c) rows)
      (ap (λ o. option_and_then (checked true)
      (option_and_then (cell_in l) (option_and_then (if_in l.schema) o))) (has_number c))
      (pushed (option_and_then (cell_in l) (cond (is_in l.schema c) (Some c) None))
      (at_first (cell c) rows) (by (is_in l.schema c)))
    where
      by : (known : Bool)
          → IsOrNone (option_and_then (cell_in l) (cond known (Some c) None)) (at_first (cell c) rows)
      by true = reads.cells c
      by false = nothing None (at_first (cell c) rows) refl

  constant_pushed : (c : Constant) (x : Value) → value_in c ≡ Some x
      → IsOrNone (push_of pool l (push.Const (index_in pool c))) x
  constant_pushed c x is =
      pushed (option_and_then value_in (slice_get pool (index_in pool c))) x
      (by (at_index value_in pool c))
    where
      by : (option_and_then value_in (slice_get pool (index_in pool c)) ≡ None)
          ⊎ (option_and_then value_in (slice_get pool (index_in pool c)) ≡ value_in c)
          → IsOrNone (option_and_then value_in (slice_get pool (index_in pool c))) x
      by (inl e) = nothing (option_and_then value_in (slice_get pool (index_in pool c))) x e
      by (inr e) = just (option_and_then value_in (slice_get pool (index_in pool c))) x (e ∙ is)

  entry_pushed : (o : MetadataOwner) (k : List ℕ)
      → IsOrNone (push_of pool l (of_entry pool o (index_in pool (constants.Text k))))
      (at_first (λ r. text o k r.row) rows)
  entry_pushed o k = by o (at_index key_in pool (constants.Text k))
    where
      i : ℕ
      i = index_in pool (constants.Text k)

      of_key : (o : MetadataOwner) → (key_at pool i ≡ None) ⊎ (key_at pool i ≡ Some k)
          → IsOrNone (option_and_then (checked true) (text_at l (text o) (key_at pool i)))
          (at_first (λ r. text o k r.row) rows)
      of_key o (inl e) =
          as_is None (option_and_then (checked true) (text_at l (text o) (key_at pool i)))
          (at_first (λ r. text o k r.row) rows)
          (ap (λ z. option_and_then (checked true) (text_at l (text o) z)) e)
          (nothing None (at_first (λ r. text o k r.row) rows) refl)
      of_key o (inr e) =
          as_is (option_and_then (checked true) (option_map (text o k) l.row))
          (option_and_then (checked true) (text_at l (text o) (key_at pool i)))
          (at_first (λ r. text o k r.row) rows)
          (ap (λ z. option_and_then (checked true) (text_at l (text o) z)) e)
          (pushed (option_map (text o k) l.row) (at_first (λ r. text o k r.row) rows)
          (reads.texts o k))

      by : (o : MetadataOwner) → (key_at pool i ≡ None) ⊎ (key_at pool i ≡ Some k)
          → IsOrNone (push_of pool l (of_entry pool o i)) (at_first (λ r. text o k r.row) rows)
      by owner.Posting = of_key owner.Posting
      by owner.Transaction = of_key owner.Transaction
      by owner.Any = of_key owner.Any

  -- by the index of a pattern
  pattern_found : (f : List ℕ → operation.Unary) (p : List ℕ)
      → (option_map f (pattern_at pool (index_in pool (constants.Pattern p))) ≡ None)
      ⊎ (option_map f (pattern_at pool (index_in pool (constants.Pattern p))) ≡ Some (f p))
  pattern_found f p = by (at_index pattern_in pool (constants.Pattern p))
    where
      o : Option (List ℕ)
      o = pattern_at pool (index_in pool (constants.Pattern p))

      by : (o ≡ None) ⊎ (o ≡ Some p) → (option_map f o ≡ None) ⊎ (option_map f o ≡ Some (f p))
      by (inl e) = inl (ap (option_map f) e)
      by (inr e) = inr (ap (option_map f) e)

  -- a leaf that has a shape, and is no aggregate
  pub leaf_step : (lf : Leaf) (s : Shape) → leaf_shape b lf ≡ Ok s → (leaf.Rows ≡ lf → ⊥)
      → IsOrNone (core_value pool l (of_leaf lf)) (leaf_value lf rows)
  leaf_step (leaf.Column c) s e aside = column_pushed c
  leaf_step (leaf.Number n) s e aside =
      constant_pushed (constants.Number n) (value.Number n.places n.count) refl
  leaf_step (leaf.Text t) s e aside = constant_pushed (constants.Text t) (value.Text t) refl
  leaf_step (leaf.Day d) s e aside = constant_pushed (constants.Day d) (value.Day d) refl
  leaf_step (leaf.Truth true) s e aside = just (Some (value.Truth true)) (value.Truth true) refl
  leaf_step (leaf.Truth false) s e aside = just (Some (value.Truth false)) (value.Truth false) refl
  leaf_step (leaf.Meta o k) s e aside = entry_pushed o k
  leaf_step (leaf.HasAccount p) s e aside =
      unary_step pool (machine.MatchAny (index_in pool (constants.Pattern p))) (operation.MatchAny p)
      (push_of pool l (push.LoadColumn (number Accounts))) (at_first (cell Accounts) rows)
      (pattern_found operation.MatchAny p) (column_pushed Accounts)
  leaf_step leaf.Rows s e aside = absurd (aside refl)
  leaf_step leaf.Null s e aside = absurd cc
  leaf_step (leaf.TooWide digits) s e aside = absurd cc

  -- ---- operations on one

  pub unary_operator : (op : UnaryOperator) (x : Core) (u : Value) → IsOrNone (core_value pool l x) u
      → IsOrNone (core_value pool l (of_unary op x)) (meaning.one_value op u)
  unary_operator unary.Not x u h =
      plain_step pool machine.Not operation.Not (core_value pool l x) u refl h
  unary_operator unary.Minus x u h =
      plain_step pool machine.Neg operation.Neg (core_value pool l x) u refl h
  unary_operator (unary.Matches p) x u h =
      unary_step pool (machine.Match (index_in pool (constants.Pattern p))) (operation.Match p)
      (core_value pool l x) u (pattern_found operation.Match p) h
  unary_operator (unary.Root n) x u h =
      unary_step pool (machine.Root n) (operation.Root n) (core_value pool l x) u
      (by (at_least_one n)) h
    where
      by : (is : Bool) → (cond is (Some (operation.Root n)) None ≡ None)
          ⊎ (cond is (Some (operation.Root n)) None ≡ Some (operation.Root n))
      by true = inr refl
      by false = inl refl

  -- beside NULL
  null_beside : (x : Value) → same x value.Null ≡ is_null x
  null_beside value.Null = refl
  null_beside (value.Truth t) = refl
  null_beside (value.Number p m) = refl
  null_beside (value.Text t) = refl
  null_beside (value.Day d) = refl
  null_beside (value.Set ts) = refl
  null_beside (value.Amount p c m) = refl
  null_beside (value.Position k m) = refl
  null_beside (value.Inventory i) = refl

  null_before : (x : Value) → same value.Null x ≡ is_null x
  null_before value.Null = refl
  null_before (value.Truth t) = refl
  null_before (value.Number p m) = refl
  null_before (value.Text t) = refl
  null_before (value.Day d) = refl
  null_before (value.Set ts) = refl
  null_before (value.Amount p c m) = refl
  null_before (value.Position k m) = refl
  null_before (value.Inventory i) = refl

  is_null_step : (x : Core) (u : Value) → IsOrNone (core_value pool l x) u
      → IsOrNone (option_and_then (unary_of pool machine.IsNull) (core_value pool l x))
      (value.Truth (is_null u))
  is_null_step x u h = plain_step pool machine.IsNull operation.IsNull (core_value pool l x) u refl h

  isnt_null_step : (x : Core) (u : Value) → IsOrNone (core_value pool l x) u
      → IsOrNone (option_and_then (unary_of pool machine.Not)
      (option_and_then (unary_of pool machine.IsNull) (core_value pool l x)))
      (value.Truth (not (is_null u)))
  isnt_null_step x u h =
      plain_step pool machine.Not operation.Not
      (option_and_then (unary_of pool machine.IsNull) (core_value pool l x)) (value.Truth (is_null u))
      refl (is_null_step x u h)

  pub null_behind : (op : BinaryOperator) (x : Core) (u : Value) → is_equality op ≡ true
      → IsOrNone (core_value pool l x) u
      → IsOrNone (core_value pool l (of_null op x)) (two_value op u value.Null)
  null_behind binary.Equal x u eq h =
      of_equal (core_value pool l (of_null binary.Equal x)) (value.Truth (is_null u))
      (two_value binary.Equal u value.Null) (ap value.Truth (sym (null_beside u))) (is_null_step x u h)
  null_behind binary.NotEqual x u eq h =
      of_equal (core_value pool l (of_null binary.NotEqual x)) (value.Truth (not (is_null u)))
      (two_value binary.NotEqual u value.Null)
      (ap (λ z. value.Truth (not z)) (sym (null_beside u))) (isnt_null_step x u h)
  null_behind op x u eq h = absurd cc

  pub null_ahead : (op : BinaryOperator) (x : Core) (u : Value) → is_equality op ≡ true
      → IsOrNone (core_value pool l x) u
      → IsOrNone (core_value pool l (of_null op x)) (two_value op value.Null u)
  null_ahead binary.Equal x u eq h =
      of_equal (core_value pool l (of_null binary.Equal x)) (value.Truth (is_null u))
      (two_value binary.Equal value.Null u) (ap value.Truth (sym (null_before u))) (is_null_step x u h)
  null_ahead binary.NotEqual x u eq h =
      of_equal (core_value pool l (of_null binary.NotEqual x)) (value.Truth (not (is_null u)))
      (two_value binary.NotEqual value.Null u)
      (ap (λ z. value.Truth (not z)) (sym (null_before u))) (isnt_null_step x u h)
  null_ahead op x u eq h = absurd cc

  -- functions of one argument

  pub function_step : (n : ℕ) (f : Function) (s t : Shape) (x : Core) (u : Value)
      → is_aggregate_function f ≡ false → rules.of_one n f s ≡ Ok t
      → IsOrNone (core_value pool l x) u
      → IsOrNone (core_value pool l (of_function f x)) (meaning.of_one f u)
  function_step n function.Parent s t x u plain e h =
      plain_step pool machine.Parent operation.Parent (core_value pool l x) u refl h
  function_step n function.Leaf s t x u plain e h =
      plain_step pool machine.Leaf operation.Leaf (core_value pool l x) u refl h
  function_step n function.Length s t x u plain e h =
      plain_step pool machine.Length operation.Length (core_value pool l x) u refl h
  function_step n function.Units s t x u plain e h =
      plain_step pool machine.Units operation.Units (core_value pool l x) u refl h
  function_step n function.Cost s t x u plain e h =
      plain_step pool machine.Cost operation.Cost (core_value pool l x) u refl h
  function_step n function.Year s t x u plain e h =
      plain_step pool machine.Year operation.Year (core_value pool l x) u refl h
  function_step n function.Month s t x u plain e h =
      plain_step pool machine.Month operation.Month (core_value pool l x) u refl h
  function_step n function.Day s t x u plain e h =
      plain_step pool machine.Day operation.Day (core_value pool l x) u refl h
  function_step n function.Number s t x u plain e h =
      plain_step pool machine.Number operation.Number (core_value pool l x) u refl h
  function_step n function.Currency s t x u plain e h =
      plain_step pool machine.Currency operation.Currency (core_value pool l x) u refl h
  function_step n function.Abs s t x u plain e h =
      plain_step pool machine.Abs operation.Abs (core_value pool l x) u refl h
  function_step n function.RootRank s t x u plain e h =
      plain_step pool machine.RootRank operation.RootRank (core_value pool l x) u refl h
  function_step n function.Root s t x u plain e h = absurd cc
  function_step n function.Meta s t x u plain e h = absurd cc
  function_step n function.EntryMeta s t x u plain e h = absurd cc
  function_step n function.AnyMeta s t x u plain e h = absurd cc
  function_step n function.HasAccount s t x u plain e h = absurd cc
  function_step n function.OneOf s t x u plain e h = absurd cc
  function_step n function.Count s t x u plain e h = absurd cc
  function_step n function.Sum s t x u plain e h = absurd cc
  function_step n function.First s t x u plain e h = absurd cc
  function_step n function.Last s t x u plain e h = absurd cc
  function_step n function.Min s t x u plain e h = absurd cc
  function_step n function.Max s t x u plain e h = absurd cc
