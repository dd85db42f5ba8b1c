-- What expressions are lowered to has their shapes.
use Rattle.std.specs.Prelude.{◌≡◌, ◌⊎◌, ℕ, true, List, [], Some}
use Rattle.std.specs.List.{AllByRecursion}
use Rattle.limits.specs.declared.bounds.Bounds.{Bounds}
use Rattle.bql_code.specs.Laws.{StandsIn}
use Rattle.bql_code.specs.Pool.{used}
use Rattle.bql_lowering.specs.Lowered.{Gathered, has, lowered}
use Rattle.bql_parser.specs.Small.{IsSmallTree}
use Rattle.bql_plan.specs.Plan.{aggregates_in}
use Rattle.bql_plan.specs.Whole.{HasWholeShapes}
use Rattle.bql_tree.specs.Tree.{Tree}
use Rattle.bql_types.specs.Shaped.{shape_of}
use Rattle.bql_types.specs.Sought.{balances, misplaced, ungrouped}
use Rattle.bql_compiler.specs.CoreShape.{HasShape}
use Rattle.query_code.specs.declared.program.Constant.{Constant}
use Rattle.query_rows.specs.ColumnShape.{AreBounds, column_shape}
use Rattle.query_terms.specs.declared.column.Column.TheVariants.{Balance}
use Rattle.query_rows.specs.declared.shape.Shape.{Shape}
use Rattle.well_shaped.specs.Sections.{Loads}
use Rattle.bql_compiler.specs.Loaded.{AreGathered, IsLoaded}

-- An expression of a query that has a shape, what it reads being loaded where it is computed, is
-- lowered to what has this shape, over each pool in which its constants stand.
abbrev pub LoweredHaveShapes : Type 0
LoweredHaveShapes =
    (b : Bounds) → AreBounds b → (pool : List Constant) (l : Loads) (g : Gathered)
    → AreGathered b l g pool → (t : Tree ℕ) (s : Shape) → shape_of b t ≡ Some s → IsSmallTree t
    → IsLoaded b l g t → AllByRecursion (StandsIn pool) (used (lowered b g t))
    → HasShape pool l (lowered b g t) s

-- What an expression reads is there: of a row, where no aggregate stands in it, and the running
-- inventory is there or isn't read; behind the last row, where only keys read a row, and each
-- aggregate is one of the group.
pub record ReadsAreLoaded : Type 0 where
  pub of_rows : (b : Bounds) (l : Loads) → l.posting ≡ Some b → (g : Gathered) (t : Tree ℕ)
      → HasWholeShapes b t → misplaced b true t ≡ []
      → (l.balance ≡ Some (column_shape b Balance)) ⊎ (balances t ≡ []) → IsLoaded b l g t
  pub of_groups : (b : Bounds) (l : Loads) (g : Gathered) (t : Tree ℕ) → ungrouped g.keys t ≡ []
      → AllByRecursion (λ a. has g.aggregates a ≡ true) (aggregates_in t) → IsLoaded b l g t
