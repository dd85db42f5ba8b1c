-- What an expression is lowered to has the expression's shape.
use Rattle.std.proofs.Common.{◌≡◌, ℕ, ◌≤◌, max, Bool, true, false, cond, List, [], ◌∷◌, ◌++◌}
use Rattle.std.proofs.Common.{Option, Some, None, Ok, Err, refl, ap, ◌∙◌, arith}
use Rattle.std.specs.Prelude.{nat_lt, option_and_then, option_map}
use Rattle.std.specs.Int.RustNames.{unsigned_abs}
use Rattle.std.specs.List.{AllByRecursion}
use Rattle.std.specs.Cmp.Derive.{both_true}
use Rattle.std.proofs.lemmas.Bool.{le-leb, lt-ltb}
use Rattle.limits.specs.declared.bounds.Bounds.{Bounds}
use Rattle.limits.specs.declared.counts.TheConstants.{COUNT_BOUND, MOST_PLACES}
use Rattle.bql_code.specs.Code.{of_entry}
use Rattle.bql_code.specs.Core.{Core, changing}
use Rattle.bql_code.specs.Core.{plainly}
use Rattle.bql_code.specs.Laws.{StandsIn}
use Rattle.bql_code.specs.Pool.{index_in, used}
use Rattle.bql_lowering.specs.Lowered.{aligned, by_one, in_list, joined}
use Rattle.bql_lowering.specs.Lowered.{most_places, of_binary, of_leaf, of_null}
use Rattle.bql_lowering.specs.Lowered.{of_unary}
use Rattle.bql_parser.specs.Small.{IsSmallUnary}
use Rattle.bql_rules.specs.Rules as rules
use Rattle.bql_tree.specs.Tree.{Trees}
use Rattle.bql_tree.specs.declared.tree.BinaryOperator.{BinaryOperator}
use Rattle.bql_tree.specs.declared.tree.BinaryOperator.TheVariants as binary
use Rattle.bql_tree.specs.declared.tree.Leaf.{Leaf}
use Rattle.bql_tree.specs.declared.tree.Leaf.TheVariants as leaf
use Rattle.bql_tree.specs.declared.tree.MetadataOwner.{MetadataOwner}
use Rattle.bql_tree.specs.declared.tree.MetadataOwner.TheVariants as owner
use Rattle.bql_tree.specs.declared.tree.UnaryOperator.{UnaryOperator}
use Rattle.bql_tree.specs.declared.tree.UnaryOperator.TheVariants as unary
use Rattle.bql_compiler.specs.CoreShape.{HasShape}
use Rattle.plain_machine.specs.Pool.{key_at}
use Rattle.query_code.specs.InstructionForm.{at_least_one}
use Rattle.query_code.specs.declared.instruction.Push.TheVariants as push
use Rattle.query_code.specs.declared.instruction.Unary as machine_unary
use Rattle.query_code.specs.declared.instruction.Unary.TheVariants as machines
use Rattle.query_code.specs.declared.program.Constant.{Constant}
use Rattle.query_code.specs.declared.program.Constant.TheVariants as constants
use Rattle.query_rows.proofs.BoundFacts.{column_is_held}
use Rattle.query_terms.proofs.NumberFacts.{has_number}
use Rattle.query_terms.specs.Column.{number}
use Rattle.query_rows.specs.ColumnShape.{AreBounds, column_shape}
use Rattle.query_terms.specs.declared.column.Column.{Column}
use Rattle.query_terms.specs.declared.column.Column.TheVariants.{Accounts}
use Rattle.query_rows.specs.Rules as machine
use Rattle.query_rows.specs.Shape.{fitting, is_held}
use Rattle.query_rows.specs.declared.shape.Misfit.TheVariants.{Kind, TooWide}
use Rattle.query_rows.specs.declared.shape.Shape.{Shape}
use Rattle.query_rows.specs.declared.shape.Shape.TheVariants as shape
use Rattle.query_values.specs.Unary as operation
use Rattle.query_terms.specs.declared.decimal.Decimal.{Decimal}
use Rattle.query_values.specs.declared.operation.Binary as two
use Rattle.query_values.specs.declared.operation.Binary.TheVariants as operations
use Rattle.well_shaped.specs.Sections.{Loads, given, push_of, shape_at, shape_of as column_in}
use Rattle.well_shaped.specs.Sections.{text_at}
use Rattle.bql_compiler.specs.Loaded.{IsLeafLoaded}
use Rattle.bql_compiler.proofs.ConstantFacts.{a_key_at, a_pattern_at, all_first, all_second}
use Rattle.bql_compiler.proofs.ConstantFacts.{day_at, number_at}
use Rattle.bql_compiler.proofs.ConstantFacts.{text_shape_at}

-- what is loaded can be held
held_push : (o : Option Shape) (s : Shape) → o ≡ Some s → is_held s ≡ true
    → option_and_then (λ s. given (fitting s)) o ≡ Some s
held_push o s e held =
    ap (option_and_then (λ s. given (fitting s))) e
    ∙ ap (λ b. given (cond b (Ok s) (Err TooWide))) held

number_held : (n : Decimal) → is_held (shape.Number n.places (unsigned_abs n.count)) ≡ true
number_held n =
    both_true (le-leb n.places MOST_PLACES n.narrow)
    (lt-ltb (unsigned_abs n.count) COUNT_BOUND n.in_range)

module _ (b : Bounds) (bounds : AreBounds b) (pool : List Constant) (l : Loads) where
  column_pushed : (c : Column) → column_in l c ≡ Some (column_shape b c)
      → push_of pool l (push.LoadColumn (number c)) ≡ Some (column_shape b c)
  column_pushed c e =
      held_push (option_and_then (column_in l) _) (column_shape b c)
      (ap (option_and_then (column_in l)) (has_number c) ∙ e) (column_is_held b c bounds)

  entry_pushed : (o : MetadataOwner) (k : List ℕ) → StandsIn pool (constants.Text k)
      → ((key : List ℕ) → text_at l (Some key) ≡ Some shape.Text)
      → push_of pool l (of_entry pool o (index_in pool (constants.Text k))) ≡ Some shape.Text
  entry_pushed o k stands there = by o
    where
      found : text_at l (key_at pool (index_in pool (constants.Text k))) ≡ Some shape.Text
      found =
          let u = a_key_at pool k stands in
          ap (text_at l) u.1 ∙ there u.0

      by : (o : MetadataOwner)
          → push_of pool l (of_entry pool o (index_in pool (constants.Text k))) ≡ Some shape.Text
      by owner.Posting = held_push (text_at l _) shape.Text found refl
      by owner.Transaction = held_push (text_at l _) shape.Text found refl
      by owner.Any = held_push (text_at l _) shape.Text found refl

  -- a leaf that has a shape, and is no aggregate
  pub leaf_shape : (lf : Leaf) (s : Shape) → rules.leaf_shape b lf ≡ Ok s → IsLeafLoaded b l lf
      → AllByRecursion (StandsIn pool) (used (of_leaf lf)) → (leaf.Rows ≡ lf → ⊥)
      → HasShape pool l (of_leaf lf) s
  leaf_shape (leaf.Column c) s e there stands aside = column_pushed c there ∙ of_ok _ s e
    where
      of_ok : (known : Bool) (s : Shape)
          → cond known (Ok (column_shape b c)) (Err Kind) ≡ Ok s
          → Some (column_shape b c) ≡ Some s
      of_ok true s e = cc
      of_ok false s e = cc
  leaf_shape (leaf.Number n) s e there stands aside =
      held_push (shape_at pool (index_in pool (constants.Number n)))
      (shape.Number n.places (unsigned_abs n.count)) (number_at pool n stands.0) (number_held n)
      ∙ ok_some s e
    where
      ok_some : (s : Shape) → rules.leaf_shape b (leaf.Number n) ≡ Ok s
          → Some (shape.Number n.places (unsigned_abs n.count)) ≡ Some s
      ok_some s e = cc
  leaf_shape (leaf.Text t) s e there stands aside =
      held_push (shape_at pool (index_in pool (constants.Text t))) shape.Text
      (text_shape_at pool t stands.0) refl
      ∙ cc
  leaf_shape (leaf.Day d) s e there stands aside =
      held_push (shape_at pool (index_in pool (constants.Day d))) shape.Day (day_at pool d stands.0)
      refl
      ∙ cc
  leaf_shape (leaf.Truth true) s e there stands aside = cc
  leaf_shape (leaf.Truth false) s e there stands aside = cc
  leaf_shape (leaf.Meta o k) s e there stands aside = entry_pushed o k stands.0 there ∙ cc
  leaf_shape (leaf.HasAccount p) s e there stands aside =
      let u = a_pattern_at pool p stands.0 in (
        shape.Set,
        column_pushed Accounts there,
        ap (λ o. option_and_then (λ o. given (machine.unary_shape o shape.Set))
            (option_map operation.MatchAny o)) u.1 ∙ cc,
      )
  leaf_shape leaf.Rows s e there stands aside = absurd (aside refl)
  leaf_shape leaf.Null s e there stands aside = cc
  leaf_shape (leaf.TooWide digits) s e there stands aside = cc

  -- an operation on one
  pub unary_shape : (op : UnaryOperator) (s u : Shape) (x : Core) → IsSmallUnary op
      → rules.unary_shape op s ≡ Ok u → AllByRecursion (StandsIn pool) (used (of_unary op x))
      → HasShape pool l x s → HasShape pool l (of_unary op x) u
  unary_shape unary.Not s u x small e stands hx = (s, hx, ap given e)
  unary_shape unary.Minus s u x small e stands hx = (s, hx, ap given e)
  unary_shape (unary.Matches p) s u x small e stands hx =
      let k = a_pattern_at pool p (last (used x) (constants.Pattern p) stands) in (
        s,
        hx,
        ap (λ o. option_and_then (λ o. given (machine.unary_shape o s))
            (option_map operation.Match o)) k.1 ∙ ap given e,
      )
    where
      last : (xs : List Constant) (c : Constant) → AllByRecursion (StandsIn pool) (xs ++ c ∷ [])
          → StandsIn pool c
      last [] c h = h.0
      last (y ∷ ys) c h = last ys c h.1
  unary_shape (unary.Root n) s u x small e stands hx = (
    s,
    hx,
    ap (λ ok. option_and_then (λ o. given (machine.unary_shape o s))
        (cond ok (Some (operation.Root n)) None)) (some n small.0) ∙ ap given e,
  )
    where
      some : (n : ℕ) → 1 ≤ n → at_least_one n ≡ true
      some n h = lt-ltb 0 n (omega (arith, h))

  -- ---- what stands in the pool of the parts

  first_of : (xs ys : List Constant) → AllByRecursion (StandsIn pool) (xs ++ ys)
      → AllByRecursion (StandsIn pool) xs
  first_of xs ys h = all_first (StandsIn pool) xs ys h

  second_of : (xs ys : List Constant) → AllByRecursion (StandsIn pool) (xs ++ ys)
      → AllByRecursion (StandsIn pool) ys
  second_of xs ys h = all_second (StandsIn pool) xs ys h

  pub unary_parts : (op : UnaryOperator) (x : Core)
      → AllByRecursion (StandsIn pool) (used (of_unary op x)) → AllByRecursion (StandsIn pool) (used x)
  unary_parts unary.Not x h = first_of (used x) [] h
  unary_parts unary.Minus x h = first_of (used x) [] h
  unary_parts (unary.Matches p) x h = first_of (used x) (constants.Pattern p ∷ []) h
  unary_parts (unary.Root n) x h = first_of (used x) [] h

  pub null_parts : (op : BinaryOperator) (x : Core)
      → AllByRecursion (StandsIn pool) (used (of_null op x)) → AllByRecursion (StandsIn pool) (used x)
  null_parts binary.NotEqual x h = first_of (used x) [] (first_of (used x ++ []) [] h)
  null_parts binary.Equal x h = first_of (used x) [] h
  null_parts binary.Or x h = first_of (used x) [] h
  null_parts binary.And x h = first_of (used x) [] h
  null_parts binary.Less x h = first_of (used x) [] h
  null_parts binary.LessOrEqual x h = first_of (used x) [] h
  null_parts binary.Greater x h = first_of (used x) [] h
  null_parts binary.GreaterOrEqual x h = first_of (used x) [] h
  null_parts binary.In x h = first_of (used x) [] h
  null_parts binary.Plus x h = first_of (used x) [] h
  null_parts binary.Minus x h = first_of (used x) [] h
  null_parts binary.Times x h = first_of (used x) [] h

  aligned_parts : (p : Option ℕ) (q : ℕ) (x : Core)
      → AllByRecursion (StandsIn pool) (used (aligned p q x)) → AllByRecursion (StandsIn pool) (used x)
  aligned_parts None q x h = h
  aligned_parts (Some p) q x h = by (nat_lt p q) h
    where
      by : (less : Bool)
          → AllByRecursion (StandsIn pool)
          (used (cond less (changing (plainly (machines.Align q)) x) x))
          → AllByRecursion (StandsIn pool) (used x)
      by true h = first_of (used x) [] h
      by false h = h

  -- of both operands
  abbrev BothStand : Core → Core → Type 0
  BothStand x y = AllByRecursion (StandsIn pool) (used x) × AllByRecursion (StandsIn pool) (used y)

  two_parts : (x y : Core) → AllByRecursion (StandsIn pool) (used x ++ used y) → BothStand x y
  two_parts x y h = (first_of (used x) (used y) h, second_of (used x) (used y) h)

  joined_parts : (op : two.Binary) (p q : Option ℕ) (x y : Core)
      → AllByRecursion (StandsIn pool) (used (joined op p q x y)) → BothStand x y
  joined_parts op None q x y h = two_parts x y h
  joined_parts op (Some p) None x y h = two_parts x y h
  joined_parts op (Some p) (Some q) x y h =
      let k = two_parts (aligned (Some p) (max p q) x) (aligned (Some q) (max p q) y) h in
      (aligned_parts (Some p) (max p q) x k.0, aligned_parts (Some q) (max p q) y k.1)

  pub binary_parts : (op : BinaryOperator) (p q : Option ℕ) (x y : Core)
      → AllByRecursion (StandsIn pool) (used (of_binary op p q x y)) → BothStand x y
  binary_parts binary.Or p q x y h = two_parts x y h
  binary_parts binary.And p q x y h = two_parts x y h
  binary_parts binary.Equal p q x y h = joined_parts operations.Equal p q x y h
  binary_parts binary.NotEqual p q x y h = joined_parts operations.NotEqual p q x y h
  binary_parts binary.Less p q x y h = joined_parts operations.Less p q x y h
  binary_parts binary.LessOrEqual p q x y h = joined_parts operations.AtMost p q x y h
  binary_parts binary.Greater p q x y h = joined_parts operations.Greater p q x y h
  binary_parts binary.GreaterOrEqual p q x y h = joined_parts operations.AtLeast p q x y h
  binary_parts binary.In p q x y h = two_parts x y h
  binary_parts binary.Plus p q x y h = joined_parts operations.Add p q x y h
  binary_parts binary.Minus p q x y h = joined_parts operations.Sub p q x y h
  binary_parts binary.Times p q x y h = two_parts x y h

  pub by_one_parts : (o : Option machine_unary.Unary) (x : Core)
      → AllByRecursion (StandsIn pool) (used (by_one o x)) → AllByRecursion (StandsIn pool) (used x)
  by_one_parts None x h = h
  by_one_parts (Some op) x h = first_of (used x) [] h

  pub list_parts : (p : Option ℕ) (x : Core) (ts : Trees ℕ)
      → AllByRecursion (StandsIn pool) (used (in_list p x ts)) → AllByRecursion (StandsIn pool) (used x)
  list_parts None x ts h = first_of (used x) _ h
  list_parts (Some p) x ts h =
      aligned_parts (Some p) (most_places p ts) x
      (first_of (used (aligned (Some p) (most_places p ts) x)) _ h)
