-- Rows of the same shapes can be ordered by columns that have an order.
use Rattle.std.proofs.Common.{◌≡◌, ℕ, zero, suc, List, [], ◌∷◌, Bool, true, false, cond, Ok, Err}
use Rattle.std.proofs.Common.{refl, ap, subst}
use Rattle.std.specs.Prelude.{slice_get}
use Rattle.std.specs.List.{AllByRecursion, list_all}
use Rattle.std.proofs.lemmas.Bool.{and_parts, and_from, eq-eqb, false≢true}
use Rattle.query_values.specs.Held.{checked}
use Rattle.query_values.specs.Operand.{are_in_order}
use Rattle.query_values.specs.Operation.{binary_value}
use Rattle.query_values.specs.declared.operation.Binary.TheVariants.{Less}
use Rattle.query_values.specs.declared.value.Value.{Value}
use Rattle.query_rows.proofs.BinaryFacts.{binary_keeps}
use Rattle.query_rows.specs.Keeping.{Has}
use Rattle.query_rows.specs.Rules.{is_ranked, ordered}
use Rattle.query_rows.specs.Shape.{LiesIn}
use Rattle.query_rows.specs.declared.shape.Misfit.TheVariants.{Kind}
use Rattle.query_rows.specs.declared.shape.Shape.{Shape}
use Rattle.query_rows.specs.declared.shape.Shape.TheVariants.{Truth, Text, Day, Set, Number}
use Rattle.query_rows.specs.declared.shape.Shape.TheVariants.{Amount, Position, Inventory}
use Rattle.plain_machine.specs.Finishing.{are_orderable, column_of, have_order}
use Rattle.well_shaped.specs.Ends.{has_order}
use Rattle.well_shaped.specs.StateShape.{AreEach}

-- ---- two values

compares_itself : (s : Shape) → is_ranked s ≡ true → ordered s s ≡ Ok Truth
compares_itself Text e = refl
compares_itself Day e = refl
compares_itself (Number q m) e =
    ap (λ b. cond b (Ok Truth) (Err Kind)) (eq-eqb q q refl)
compares_itself Truth e = absurd (false≢true e)
compares_itself Set e = absurd (false≢true e)
compares_itself (Amount q m) e = absurd (false≢true e)
compares_itself (Position u v) e = absurd (false≢true e)
compares_itself (Inventory q u v) e = absurd (false≢true e)

may_apply : (may : Bool) (x : Value) (s : Shape) → Has (checked may x) (Ok s) → may ≡ true
may_apply true x s h = refl
may_apply false x s h = absurd h

-- two values of one shape that has an order
in_order : (s : Shape) → is_ranked s ≡ true → (x y : Value) → LiesIn x s → LiesIn y s
    → are_in_order x y ≡ true
in_order s e x y h k =
    may_apply (are_in_order x y) (binary_value Less x y) Truth
    (subst (λ r. Has (checked (are_in_order x y) (binary_value Less x y)) r) (compares_itself s e)
    (binary_keeps Less x y s s h k))

-- ---- two rows

column_in_order : (shapes : List Shape) (a b : List Value) (i : ℕ) → AreEach LiesIn a shapes
    → AreEach LiesIn b shapes → has_order (slice_get shapes i) ≡ true
    → are_in_order (column_of a i) (column_of b i) ≡ true
column_in_order [] a b i h k e = absurd (false≢true e)
column_in_order (s ∷ shapes) [] b i h k e = absurd h
column_in_order (s ∷ shapes) (x ∷ a) [] i h k e = absurd k
column_in_order (s ∷ shapes) (x ∷ a) (y ∷ b) zero h k e = in_order s e x y h.0 k.0
column_in_order (s ∷ shapes) (x ∷ a) (y ∷ b) (suc i) h k e =
    column_in_order shapes a b i h.1 k.1 e

rows_in_order : (shapes : List Shape) (a b : List Value) → AreEach LiesIn a shapes
    → AreEach LiesIn b shapes → (order : List ℕ)
    → list_all (λ i. has_order (slice_get shapes i)) order ≡ true → have_order order a b ≡ true
rows_in_order shapes a b h k [] e = refl
rows_in_order shapes a b h k (i ∷ order) e =
    let both = and_parts (has_order (slice_get shapes i))
    (list_all (λ j. has_order (slice_get shapes j)) order) e in
    and_from (are_in_order (column_of a i) (column_of b i)) (have_order order a b)
    (column_in_order shapes a b i h k both.0) (rows_in_order shapes a b h k order both.1)

-- ---- all rows

abbrev pub AreRows : List Shape → List (List Value) → Type 0
AreRows shapes = AllByRecursion (λ row. AreEach LiesIn row shapes)

module _ (shapes : List Shape) (order : List ℕ)
    (ordered : list_all (λ i. has_order (slice_get shapes i)) order ≡ true) where
  one_with_all : (a : List Value) → AreEach LiesIn a shapes → (rows : List (List Value))
      → AreRows shapes rows → list_all (have_order order a) rows ≡ true
  one_with_all a h [] all = refl
  one_with_all a h (b ∷ rows) all =
      and_from (have_order order a b) (list_all (have_order order a) rows)
      (rows_in_order shapes a b h all.0 order ordered) (one_with_all a h rows all.1)

  each_with_all : (every : List (List Value)) → AreRows shapes every → (rows : List (List Value))
      → AreRows shapes rows → list_all (λ a. list_all (have_order order a) every) rows ≡ true
  each_with_all every all [] these = refl
  each_with_all every all (a ∷ rows) these =
      and_from (list_all (have_order order a) every)
      (list_all (λ b. list_all (have_order order b) every) rows)
      (one_with_all a these.0 every all) (each_with_all every all rows these.1)

  pub orderable : (rows : List (List Value)) → AreRows shapes rows
      → are_orderable order rows ≡ true
  orderable rows all = each_with_all rows all rows all
