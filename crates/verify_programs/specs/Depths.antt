-- How deep the stack of a program becomes that is well shaped, and why one isn't.
use Rattle.std.specs.Prelude.{◌≡◌, ℕ, ◌≤◌, List, [], ◌∷◌, length, reverse, Result, Ok, Err, ◌⊎◌}
use Rattle.refusals.specs.declared.refusal.Refusal.{Refusal}
use Rattle.refusals.specs.declared.refusal.Refusal.TheVariants.{OutOfMemory, Refused}
use Rattle.query_rows.specs.declared.shape.Shape.{Shape}
use Rattle.query_rows.specs.declared.shape.Shape.TheVariants.{Truth}
use Rattle.query_code.specs.declared.program.Mode.{Mode}
use Rattle.query_code.specs.declared.program.Parts.{Parts}
use Rattle.plain_machine.specs.SectionRun.{State}
use Rattle.well_shaped.specs.Ends.{AreRow}
use Rattle.well_shaped.specs.Places.{HasDepth, Leaves}
use Rattle.well_shaped.specs.Program.{EndsWell, HasDepthInLast, IsDepth, IsWellShaped}
use Rattle.well_shaped.specs.Sections.{filter_acts, filter_loads, last_acts, last_loads}
use Rattle.well_shaped.specs.Sections.{row_loads}
use Rattle.verify_programs.specs.declared.cause.CodeCause.{CodeCause}
use Rattle.verify_programs.specs.Passing.{HasCause, IsLeast}
use Rattle.verify_programs.specs.declared.passing.Passed.{Passed}
use Rattle.verify_programs.specs.declared.passing.SectionCause.{SectionCause}
use Rattle.verify_programs.specs.declared.spot.Fault.{Fault}
use Rattle.verify_programs.specs.declared.spot.Spot.{Spot}
use Rattle.verify_programs.specs.declared.spot.Spot.TheVariants.{Filter, Row, Last}

-- a cause in a section, and one at an end, with what they stand at

abbrev pub placed : (ℕ → Spot) → Refusal SectionCause → Refusal Fault
placed to OutOfMemory = OutOfMemory
placed to (Refused c) = Refused (record { cause = c.cause; spot = to c.place })

abbrev pub ended : Spot → Refusal CodeCause → Refusal Fault
ended spot OutOfMemory = OutOfMemory
ended spot (Refused c) = Refused (record { cause = c; spot = spot })

module _ (p : Parts) where
  -- in the last section, whatever is handed to it: there are as many keys and aggregates as the
  -- program states
  pub record HasLastCause (c : CodeCause) (n : ℕ) : Type 0 where
    pub keys : List Shape
    pub totals : List Shape
    pub as_many_keys : length keys ≡ p.code.keys
    pub as_many_totals : length totals ≡ length p.code.aggregates
    pub has : HasCause p.code.pool (last_loads keys totals) p.code.last c n

  -- The cause stands there, where it is one that can be seen.
  abbrev pub HasCauseAt : CodeCause → Spot → Type 0
  HasCauseAt c (Filter n) = HasCause p.code.pool (filter_loads p.bounds) p.code.filter c n
  HasCauseAt c (Row n) = HasCause p.code.pool (row_loads p.mode p.bounds) p.code.row c n
  HasCauseAt c (Last n) = HasLastCause c n
  HasCauseAt c spot = ⊥

  -- the program isn't well shaped, and why
  abbrev pub Lacks : Refusal Fault → Type 0
  Lacks OutOfMemory = Unit {0}
  Lacks (Refused f) = (IsWellShaped p → ⊥) × HasCauseAt f.cause f.spot

  -- ---- sections

  -- state shapes that fit the filter, and the most values on its stack
  pub record FilterHas (depth : ℕ) : Type 0 where
    pub shaped : Leaves (filter_acts p) p.code.filter (Truth ∷ [])
    pub met : HasDepth shaped depth
    pub greatest : (other : ℕ) → HasDepth shaped other → other ≤ depth

  abbrev pub FilterAnswers : Result ℕ (Refusal Fault) → Type 0
  FilterAnswers (Ok depth) = FilterHas depth
  FilterAnswers (Err r) = Lacks r

  abbrev pub IsRowLeast : State Shape → ℕ → Type 0
  IsRowLeast end depth = IsLeast p.code.pool (row_loads p.mode p.bounds) p.code.row end depth

  abbrev pub RowAnswers : Result Passed (Refusal Fault) → Type 0
  RowAnswers (Ok passed) = IsRowLeast passed.end passed.depth
  RowAnswers (Err r) = Lacks r

  -- state shapes that fit the last section over what is handed to it
  pub record LastHas (keys totals : List Shape) (depth : ℕ) : Type 0 where
    pub row : List Shape
    pub shaped : Leaves (last_acts p keys totals) p.code.last row
    pub is_row : AreRow p.output row
    pub met : HasDepth shaped depth
    pub greatest : (other : ℕ) → HasDepth shaped other → other ≤ depth

  abbrev pub LastAnswers : List Shape → List Shape → Result ℕ (Refusal Fault) → Type 0
  LastAnswers keys totals (Ok depth) = LastHas keys totals depth
  LastAnswers keys totals (Err r) = Lacks r

  -- what the row section leaves is what it has to leave; the depth is that behind it, or 0
  pub record EndHas (mode : Mode) (values : List Shape) (depth : ℕ) : Type 0 where
    pub ends : EndsWell mode p values
    pub met : HasDepthInLast mode p values ends depth ⊎ (depth ≡ 0)
    pub greatest : (other : ℕ) → HasDepthInLast mode p values ends other → other ≤ depth

  abbrev pub EndAnswers : State Shape → Result ℕ (Refusal Fault) → Type 0
  EndAnswers end (Ok depth) = EndHas p.mode (reverse end.stack) depth
  EndAnswers end (Err r) = Lacks r

  -- ---- the whole

  abbrev pub Answers : Result ℕ (Refusal Fault) → Type 0
  Answers (Ok depth) = IsDepth p depth
  Answers (Err r) = Lacks r
