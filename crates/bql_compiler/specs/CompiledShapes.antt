-- Compiled programs are well shaped.
use Rattle.limits.specs.declared.bounds.Bounds.{Bounds}
use Rattle.bql_parser.specs.Asked.{Asked}
use Rattle.bql_parser.specs.Small.{IsSmall}
use Rattle.bql_plan.specs.Plan.{plan}
use Rattle.bql_compiler.specs.Program.{IsTooDeep, depth_of, parts_of, sections_of}
use Rattle.bql_types.specs.Typing.{IsTyped}
use Rattle.query_rows.specs.ColumnShape.{AreBounds}
use Rattle.well_shaped.specs.Program.{IsDepth}

-- A small query that has a type within the bounds has a program that is well shaped, unless more
-- values would stand on the stack than it holds; and the most that do are those of its sections.
abbrev pub CompiledAreWellShaped : Type 0
CompiledAreWellShaped =
    (b : Bounds) (q : Asked) → AreBounds b → IsTyped b q → IsSmall q → ¬ IsTooDeep b q
    → IsDepth (parts_of b q) (depth_of (sections_of b q (plan q)))
