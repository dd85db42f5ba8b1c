-- Which programs are well shaped: those of which it is known beforehand, over each ledger within
-- their bounds, that they can be run without a fault, and how deep their stack becomes.
use Rattle.std.specs.Prelude.{ℕ, ◌≤◌, List, [], ◌∷◌, ◌⊎◌}
use Rattle.query_rows.specs.declared.shape.Shape.{Shape}
use Rattle.query_rows.specs.declared.shape.Shape.TheVariants.{Truth}
use Rattle.query_rows.specs.ColumnShape.{AreBounds}
use Rattle.query_code.specs.declared.program.Mode.{Mode}
use Rattle.query_code.specs.declared.program.Mode.TheVariants.{Plain, Grouped}
use Rattle.query_code.specs.declared.program.Parts.{Parts}
use Rattle.well_shaped.specs.Ends.{AreRow, HandsOver}
use Rattle.well_shaped.specs.Places.{Leaves, HasDepth}
use Rattle.well_shaped.specs.Sections.{filter_acts, row_acts, last_acts}

-- The row section leaves keys and inputs, and the last section, which runs for each group, leaves a
-- row.
pub record AreGrouped (p : Parts) (values : List Shape) : Type 0 where
  pub keys : List Shape
  pub totals : List Shape
  pub handed : HandsOver p.bounds.postings p.code values keys totals
  pub row : List Shape
  pub last : Leaves (last_acts p keys totals) p.code.last row
  pub is_row : AreRow p.output row

-- The row section leaves a row, unless postings are grouped.
abbrev pub EndsWell : Mode → Parts → List Shape → Type 0
EndsWell Plain p values = AreRow p.output values
EndsWell Grouped p values = AreGrouped p values

-- The bounds are within their limits; the filter leaves one truth value; the row section leaves
-- what its mode wants.
pub record IsWellShaped (p : Parts) : Type 0 where
  pub bounds : AreBounds p.bounds
  pub filter : Leaves (filter_acts p) p.code.filter (Truth ∷ [])
  pub values : List Shape
  pub row : Leaves (row_acts p) p.code.row values
  pub ends : EndsWell p.mode p values

-- ---- how deep the stack becomes

-- where postings are grouped
abbrev pub HasDepthInLast : (mode : Mode) (p : Parts) (values : List Shape)
    → EndsWell mode p values → ℕ → Type 0
HasDepthInLast Plain p values ends depth = ⊥
HasDepthInLast Grouped p values ends depth = HasDepth ends.last depth

-- some place of some section has so many values on its stack
abbrev pub HasDepthSomewhere : {p : Parts} → IsWellShaped p → ℕ → Type 0
HasDepthSomewhere {p} shaped depth =
    HasDepth shaped.filter depth ⊎ HasDepth shaped.row depth
    ⊎ HasDepthInLast p.mode p shaped.values shaped.ends depth

-- The program is well shaped by shapes of which these are the most on a stack.
pub record IsDepth (p : Parts) (depth : ℕ) : Type 0 where
  pub shaped : IsWellShaped p
  pub met : HasDepthSomewhere shaped depth
  pub greatest : (other : ℕ) → HasDepthSomewhere shaped other → other ≤ depth
