-- Which bytes are accepted, and why others aren't.
use Rattle.std.specs.Prelude.{◌≡◌, ℕ, true, List, map, Result, Ok, Err}
use Rattle.refusals.specs.declared.refusal.Refusal.{Refusal}
use Rattle.refusals.specs.declared.refusal.Refusal.TheVariants.{OutOfMemory, Refused}
use Rattle.query_rows.specs.ColumnShape.{AreBounds}
use Rattle.query_code.specs.QueryFile.{IsFile, decoded}
use Rattle.query_code.specs.declared.program.Code as program
use Rattle.query_code.specs.declared.program.Parts.{Parts}
use Rattle.file_places.specs.Places.{IsPlace, from_filter, from_last, from_pool, from_row}
use Rattle.plain_machine.specs.Pool.{pattern_at, pattern_in}
use Rattle.well_shaped.specs.Laws.{is_some}
use Rattle.well_shaped.specs.Program.{IsDepth, IsWellShaped}
use Rattle.verified_program.specs.declared.checked.Checked.{Checked}
use Rattle.verify_programs.specs.declared.cause.CodeCause.{CodeCause}
use Rattle.verify_programs.specs.declared.cause.CodeCause.TheVariants as cause
use Rattle.verify_programs.specs.Depths.{HasCauseAt}
use Rattle.verify_programs.specs.declared.spot.Fault.{Fault}
use Rattle.verify_programs.specs.declared.spot.Spot.{Spot}
use Rattle.verify_programs.specs.declared.spot.Spot.TheVariants as spot
use Rattle.query_verifier.specs.declared.cause.VerifierCause.{VerifierCause}
use Rattle.query_verifier.specs.declared.cause.VerifierCause.TheVariants.{Code, File}
use Rattle.query_verifier.specs.declared.checking.Verdict.{Verdict}

module _ (p : Parts) where
  -- The cause stands at the spot: bounds outside their limits, a pattern, or what the code of the
  -- program has there.
  abbrev pub StandsAt : CodeCause → Spot → Type 0
  StandsAt cause.Bounds spot.Bounds = AreBounds p.bounds → ⊥
  StandsAt cause.Bounds s = ⊥
  StandsAt cause.Pattern (spot.Pool n) = is_some (pattern_at p.code.pool n) ≡ true
  StandsAt cause.Pattern s = ⊥
  StandsAt c s = HasCauseAt p c s

  -- but for patterns, of which nothing is said, the program isn't well shaped
  abbrev pub HasNoShapes : CodeCause → Type 0
  HasNoShapes cause.Pattern = Unit {0}
  HasNoShapes c = IsWellShaped p → ⊥

  abbrev pub Verifies : Result Verdict (Refusal Fault) → Type 0
  Verifies (Ok v) = (v.patterns ≡ map pattern_in p.code.pool) × IsDepth p v.depth
  Verifies (Err OutOfMemory) = Unit {0}
  Verifies (Err (Refused f)) = StandsAt f.cause f.spot × HasNoShapes f.cause

-- The spot is at this byte: there its entry or its instruction begins, or what follows the end of
-- its section; the bounds stand behind the magic and the version.
abbrev pub IsAt : List ℕ → program.Code → Spot → ℕ → Type 0
IsAt bytes c spot.Bounds place = place ≡ 6
IsAt bytes c (spot.Pool n) place = IsPlace bytes (from_pool c n) place
IsAt bytes c (spot.Filter n) place = IsPlace bytes (from_filter c n) place
IsAt bytes c (spot.Row n) place = IsPlace bytes (from_row c n) place
IsAt bytes c (spot.Last n) place = IsPlace bytes (from_last c n) place

-- The bytes are the file of a program that isn't accepted, for a cause that stands at this byte.
pub record IsRefused (bytes : List ℕ) (c : CodeCause) (place : ℕ) : Type 0 where
  pub parts : Parts
  pub is_file : IsFile bytes parts
  pub spot : Spot
  pub stands : StandsAt parts c spot
  pub no_shapes : HasNoShapes parts c
  pub at : IsAt bytes parts.code spot place

-- They are the file of a program that is well shaped, whose stack becomes so deep.
pub record IsVerified (bytes : List ℕ) (p : Parts) (depth : ℕ) : Type 0 where
  pub is_file : IsFile bytes p
  pub is_well_shaped : ∥ IsDepth p depth ∥₁

-- The first field that keeps bytes from being a file, or why their program isn't accepted.
abbrev pub IsUnaccepted : List ℕ → VerifierCause → Type 0
IsUnaccepted bytes (File c) = decoded bytes ≡ Err c
IsUnaccepted bytes (Code c place) = IsRefused bytes c place

-- The program whose file the bytes are; or the first field that keeps them from being one, or why
-- their program isn't accepted.
abbrev pub Checks : List ℕ → Result Checked (Refusal VerifierCause) → Type 0
Checks bytes (Ok checked) = IsFile bytes checked.program.parts
Checks bytes (Err OutOfMemory) = Unit {0}
Checks bytes (Err (Refused (File c))) = decoded bytes ≡ Err c
Checks bytes (Err (Refused (Code c place))) = IsRefused bytes c place

-- accepted, unless memory lacks or a pattern isn't built
abbrev pub IsAccepted : Result Checked (Refusal VerifierCause) → Type 0
IsAccepted (Ok checked) = Unit {0}
IsAccepted (Err OutOfMemory) = Unit {0}
IsAccepted (Err (Refused (Code cause.Pattern place))) = Unit {0}
IsAccepted (Err (Refused c)) = ⊥
