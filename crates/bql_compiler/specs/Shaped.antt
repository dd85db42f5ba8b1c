-- What the sections of a program compute has shapes, so that the program is well shaped.
use Rattle.std.specs.Prelude.{◌≡◌, ℕ, ◌≤◌, max, List, []}
use Rattle.limits.specs.declared.counts.TheConstants.{MOST_VALUES}
use Rattle.bql_code.specs.Code.{code, all_code, depth, all_depth}
use Rattle.bql_code.specs.Core.{Core}
use Rattle.query_code.specs.declared.program.Mode.{Mode}
use Rattle.query_code.specs.declared.program.Mode.TheVariants.{Plain, Grouped}
use Rattle.query_code.specs.declared.program.Parts.{Parts}
use Rattle.query_rows.specs.ColumnShape.{AreBounds}
use Rattle.query_rows.specs.declared.shape.Shape.{Shape}
use Rattle.query_rows.specs.declared.shape.Shape.TheVariants.{Truth}
use Rattle.well_shaped.specs.Ends.{AreRow, HandsOver}
use Rattle.well_shaped.specs.Program.{IsDepth}
use Rattle.well_shaped.specs.Sections.{filter_loads, last_loads, row_loads}
use Rattle.bql_compiler.specs.CoreShape.{HasShape, HaveShapes}

-- Its sections are the code of what they compute: the filter of one expression, the others of some
-- one behind the other.
pub record IsCodeOf (p : Parts) (filter : Core) (row last : List Core) : Type 0 where
  pub filters : p.code.filter ≡ code p.code.pool 0 filter
  pub rows : p.code.row ≡ all_code p.code.pool 0 row
  pub lasts : p.code.last ≡ all_code p.code.pool 0 last

-- The row section hands keys and inputs over, and the last section computes a row of them.
pub record AreOfGroups (p : Parts) (values : List Shape) (last : List Core) : Type 0 where
  pub keys : List Shape
  pub totals : List Shape
  pub handed : HandsOver p.bounds.postings p.code values keys totals
  pub shown : List Shape
  pub shapes : HaveShapes p.code.pool (last_loads keys totals) last shown
  pub is_row : AreRow p.output shown

-- the row section computes a row, or what groups want
abbrev pub EndsIn : Mode → Parts → List Shape → List Core → Type 0
EndsIn Plain p values last = AreRow p.output values × (last ≡ [])
EndsIn Grouped p values last = AreOfGroups p values last

-- what is computed has shapes: a truth value for the filter, and those that the ends of sections want
pub record HasShapes (p : Parts) (filter : Core) (row last : List Core) : Type 0 where
  pub bounds : AreBounds p.bounds
  pub filters : HasShape p.code.pool (filter_loads p.bounds) filter Truth
  pub values : List Shape
  pub rows : HaveShapes p.code.pool (row_loads p.mode p.bounds) row values
  pub ends : EndsIn p.mode p values last

abbrev pub depth_of : Core → List Core → List Core → ℕ
depth_of filter row last = max (depth filter) (max (all_depth 0 row) (all_depth 0 last))

-- A program whose sections are the code of what has shapes is well shaped, where no more values
-- stand on the stack than it holds; and these are the most.
abbrev pub ShapedCodeIsWellShaped : Type 0
ShapedCodeIsWellShaped =
    (p : Parts) (filter : Core) (row last : List Core) → IsCodeOf p filter row last
    → HasShapes p filter row last → depth_of filter row last ≤ MOST_VALUES
    → IsDepth p (depth_of filter row last)
