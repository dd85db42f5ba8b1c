-- The rows that pass have running inventories of their shape.
use Rattle.std.proofs.Common.{◌≡◌, ℕ, ◌+◌, ◌≤◌, Bool, true, false, List, [], ◌∷◌, ◌++◌, length}
use Rattle.std.proofs.Common.{filter}
use Rattle.std.proofs.Common.{Some, Ok, Err, refl, ap, cond, arith}
use Rattle.std.specs.List.{AllByRecursion}
use Rattle.limits.specs.declared.bounds.Bounds.{Bounds}
use Rattle.bql_grammar.specs.Clause.{Filters}
use Rattle.bql_tree.specs.Tree.{Tree}
use Rattle.query_rows.specs.Row.{Row}
use Rattle.query_rows.proofs.BoundFacts.{column_is_held}
use Rattle.query_rows.specs.ColumnShape.{AreBounds, column_shape}
use Rattle.query_terms.specs.declared.column.Column.TheVariants as column
use Rattle.query_rows.proofs.GatheringFacts.{on_values}
use Rattle.query_rows.specs.Keeping.{AllIn}
use Rattle.query_rows.specs.Rules.{aggregate_shape}
use Rattle.query_rows.specs.Shape.{LiesIn, fitting, is_held}
use Rattle.query_rows.specs.declared.shape.Misfit.TheVariants.{TooWide}
use Rattle.query_rows.specs.declared.shape.Shape.{Shape}
use Rattle.query_values.specs.Aggregate.{aggregate_of}
use Rattle.query_values.specs.declared.operation.Aggregate.TheVariants.{SumInventory}
use Rattle.query_values.specs.declared.value.Value.{Value}
use Rattle.bql_meaning.specs.Answer.{balanced, and_of, passing, passes}
use Rattle.bql_meaning.specs.Shaped.{IsRead}
use Rattle.query_rows.specs.Shaped.{IsShaped}
use Rattle.bql_meaning.proofs.ShapeFacts.{kept}

fits : (s : Shape) → is_held s ≡ true → fitting s ≡ Ok s
fits s e = ap (λ b. cond b (Ok s) (Err TooWide)) e

sum_lies : (b : Bounds) → AreBounds b → (xs : List Value) → length xs ≤ b.postings
    → AllIn (column_shape b column.Position) xs
    → LiesIn (aggregate_of (SumInventory 8) xs) (column_shape b column.Balance)
sum_lies b are xs few all =
    kept true (aggregate_of (SumInventory 8) xs)
    (aggregate_shape b.postings (SumInventory 8) (Some (column_shape b column.Position)))
    (column_shape b column.Balance)
    (on_values (SumInventory 8) b.postings (column_shape b column.Position) xs few all)
    (fits (column_shape b column.Balance) (column_is_held b column.Balance are))

all_behind : (s : Shape) (xs : List Value) (x : Value) → AllIn s xs → LiesIn x s
    → AllIn s (xs ++ x ∷ [])
all_behind s [] x all h = (h, tt)
all_behind s (y ∷ xs) x all h = (all.0, all_behind s xs x all.1 h)

one_longer : (xs : List Value) (x : Value) → length (xs ++ x ∷ []) ≡ length xs + 1
one_longer [] x = refl
one_longer (y ∷ xs) x = omega (arith, one_longer xs x)

balanced_are : (b : Bounds) → AreBounds b → (before : List Value) (rows : List Row)
    → length before + length rows ≤ b.postings
    → AllIn (column_shape b column.Position) before → AllByRecursion (IsShaped b) rows
    → AllByRecursion (IsRead b) (balanced before rows)
balanced_are b are before [] few all shaped = tt
balanced_are b are before (r ∷ rows) few all shaped =
    let position = shaped.0.cells column.Position refl in
    let longer = one_longer before (r.cell column.Position) in
    let more = all_behind (column_shape b column.Position) before (r.cell column.Position) all
    position in (
      record {
        row = shaped.0;
        balance = sum_lies b are (and_of before r) (omega (arith, few, longer)) more;
      },
      balanced_are b are (and_of before r) rows (omega (arith, few, longer)) more shaped.1,
    )

some_are : (b : Bounds) (p : Row → Bool) (rows : List Row) → AllByRecursion (IsShaped b) rows
    → AllByRecursion (IsShaped b) (filter p rows) × (length (filter p rows) ≤ length rows)
some_are b p [] shaped = (tt, omega arith)
some_are b p (r ∷ rows) shaped = by (p r) (some_are b p rows shaped.1)
  where
    by : (is : Bool)
        → AllByRecursion (IsShaped b) (filter p rows) × (length (filter p rows) ≤ length rows)
        → AllByRecursion (IsShaped b) (cond is (r ∷ filter p rows) (filter p rows))
        × (length (cond is (r ∷ filter p rows) (filter p rows)) ≤ length (r ∷ rows))
    by true h = let few = h.1 in ((shaped.0, h.0), omega (arith, few))
    by false h = let few = h.1 in (h.0, omega (arith, few))

pub passing_are : (b : Bounds) → AreBounds b → (f : Filters (Tree ℕ)) (rows : List Row)
    → length rows ≤ b.postings → AllByRecursion (IsShaped b) rows
    → AllByRecursion (IsRead b) (passing b f rows)
passing_are b are f rows few shaped =
    let h = some_are b (passes b f) rows shaped in
    let fewer = h.1 in
    balanced_are b are [] (filter (passes b f) rows) (omega (arith, few, fewer)) tt h.0
