-- Well shaped programs run safely.
use Rattle.std.specs.Prelude.{◌≡◌, ℕ, ◌≤◌, true, List, length, All}
use Rattle.query_rows.specs.Fits.{fits}
use Rattle.query_rows.specs.Row.{Row}
use Rattle.query_rows.specs.Shaped.{IsShaped}
use Rattle.query_code.specs.QueryFile.{file}
use Rattle.query_code.specs.declared.program.Parts.{Parts}
use Rattle.plain_machine.specs.Safety.{RunsSafely}
use Rattle.well_shaped.specs.Program.{IsDepth}

-- A program that has a file and is well shaped with this depth runs safely over rows that are
-- shaped by its bounds, and no more than these allow.
abbrev pub WellShapedProgramsRunSafely : Type 0
WellShapedProgramsRunSafely =
    (p : Parts) (depth : ℕ) (rows : List Row) → ∥ file.fits p ∥₁ → ∥ IsDepth p depth ∥₁
    → length rows ≤ p.bounds.postings → All (IsShaped p.bounds) rows → RunsSafely p rows depth

-- It does so over the rows of a ledger within its bounds, which are shaped.
abbrev pub FittingLedgersRunSafely : Type 0
FittingLedgersRunSafely =
    (p : Parts) (depth : ℕ) (rows : List Row) → ∥ file.fits p ∥₁ → ∥ IsDepth p depth ∥₁
    → fits p.bounds rows ≡ true → All (IsShaped p.bounds) rows → RunsSafely p rows depth
