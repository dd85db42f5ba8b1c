-- What is known of rows and of the values over them.
use Rattle.std.specs.Prelude.{◌≡◌, ◌≤◌, ℕ, List, length, Some}
use Rattle.std.specs.List.{AllByRecursion}
use Rattle.limits.specs.declared.bounds.Bounds.{Bounds}
use Rattle.bql_grammar.specs.Clause.{Filters}
use Rattle.bql_tree.specs.Tree.{Operation, leaf_of, Tree, node, Trees, no_trees, trees}
use Rattle.bql_tree.specs.declared.tree.Leaf.TheVariants as leaf
use Rattle.bql_types.specs.Shaped.{shape_of}
use Rattle.query_rows.specs.Row.{Row}
use Rattle.query_rows.specs.Shaped.{IsShaped}
use Rattle.query_rows.specs.ColumnShape.{AreBounds, column_shape}
use Rattle.query_terms.specs.declared.column.Column.TheVariants.{Balance}
use Rattle.query_rows.specs.Shape.{LiesIn, IsShort}
use Rattle.query_rows.specs.declared.shape.Shape.{Shape}
use Rattle.bql_meaning.specs.Answer.{passing}
use Rattle.bql_meaning.specs.Meaning.{value_of}
use Rattle.bql_meaning.specs.Reading.{Reading}

-- a row is shaped, and the running inventory at it lies in the shape of its column
pub record IsRead (b : Bounds) (r : Reading) : Type 0 where
  pub row : IsShaped b r.row
  pub balance : LiesIn r.balance (column_shape b Balance)

abbrev pub IsShortIn : Operation → Type 0
IsShortIn (leaf_of (leaf.Text t)) = IsShort t
IsShortIn op = Unit {0}

-- the texts that an expression writes are short
abbrev mutual
  pub HasShortTexts : Tree ℕ → Type 0
  HasShortTexts (node at op parts) = IsShortIn op × AllHaveShortTexts parts

  pub AllHaveShortTexts : Trees ℕ → Type 0
  AllHaveShortTexts no_trees = Unit {0}
  AllHaveShortTexts (trees t ts) = HasShortTexts t × AllHaveShortTexts ts

-- an expression that has a shape has a value of this shape, over no more rows than a ledger may
-- have
abbrev pub ValuesLieInTheirShapes : Type 0
ValuesLieInTheirShapes = (b : Bounds) (t : Tree ℕ) (s : Shape) → HasShortTexts t
    → shape_of b t ≡ Some s → (rows : List Reading) → length rows ≤ b.postings
    → AllByRecursion (IsRead b) rows → LiesIn (value_of b rows t) s

-- the rows that pass are read so, where the rows of a ledger are shaped
abbrev pub PassingAreRead : Type 0
PassingAreRead = (b : Bounds) → AreBounds b → (f : Filters (Tree ℕ)) (rows : List Row)
    → length rows ≤ b.postings → AllByRecursion (IsShaped b) rows
    → AllByRecursion (IsRead b) (passing b f rows)
