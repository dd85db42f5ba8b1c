-- What expressions are lowered to has their values.
use Rattle.std.specs.Prelude.{◌≡◌, ℕ, true, List, Some}
use Rattle.std.specs.List.{AllByRecursion}
use Rattle.limits.specs.declared.bounds.Bounds.{Bounds}
use Rattle.bql_lowering.specs.Lowered.{Gathered, has, lowered}
use Rattle.bql_meaning.specs.Meaning.{value_of}
use Rattle.bql_meaning.specs.Reading.{Reading}
use Rattle.bql_parser.specs.Small.{IsSmallTree}
use Rattle.bql_plan.specs.Plan.{aggregates_in}
use Rattle.bql_tree.specs.Tree.{Tree}
use Rattle.bql_types.specs.Shaped.{shape_of}
use Rattle.bql_compiler.specs.CoreValue.{core_value}
use Rattle.plain_machine.specs.Loading.{Loads}
use Rattle.query_code.specs.declared.program.Constant.{Constant}
use Rattle.query_rows.specs.declared.shape.Shape.{Shape}
use Rattle.bql_compiler.specs.Reads.{IsOrNone, Reads}
use Rattle.bql_compiler.specs.Sided.{IsSided}

-- An expression of a query that has a shape, of which each aggregate is gathered, is lowered to what
-- has its value over rows, or none, where it reads what is loaded; and over each pool.
abbrev pub LoweredHaveTheirValues : Type 0
LoweredHaveTheirValues =
    (b : Bounds) (pool : List Constant) (l : Loads) (g : Gathered) (rows : List Reading)
    → Reads b g l rows → (t : Tree ℕ) (s : Shape) → shape_of b t ≡ Some s → IsSmallTree t
    → IsSided t → AllByRecursion (λ a. has g.aggregates a ≡ true) (aggregates_in t)
    → IsOrNone (core_value pool l (lowered b g t)) (value_of b rows t)
