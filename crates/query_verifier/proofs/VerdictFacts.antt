-- Faults of the code as faults of the file, and what is accepted.
use Rattle.std.proofs.Common.{◌≡◌, ℕ, List, Result, Ok, Err, sym, ap, ◌∙◌, subst}
use Rattle.refusals.specs.declared.refusal.Refusal.{Refusal}
use Rattle.refusals.specs.declared.refusal.Refusal.TheVariants.{OutOfMemory, Refused}
use Rattle.query_code.proofs.ByteFormFacts.{ok_is}
use Rattle.query_code.proofs.QueryFileFacts.{file_is}
use Rattle.query_code.specs.QueryFile.{IsFile, decoded, refused}
use Rattle.query_code.specs.declared.cause.FileCause.{FileCause}
use Rattle.query_code.specs.declared.program.Parts.{Parts}
use Rattle.verified_program.specs.declared.checked.Checked.{Checked}
use Rattle.well_shaped.specs.Program.{IsWellShaped}
use Rattle.verify_programs.specs.declared.cause.CodeCause.{CodeCause}
use Rattle.verify_programs.specs.declared.cause.CodeCause.TheVariants as cause
use Rattle.verify_programs.specs.Depths.{HasCauseAt, Lacks}
use Rattle.verify_programs.specs.declared.spot.Fault.{Fault}
use Rattle.verify_programs.specs.declared.spot.Spot.{Spot}
use Rattle.verify_programs.specs.declared.spot.Spot.TheVariants as spot
use Rattle.query_verifier.specs.Checking.{Checks, HasNoShapes, IsAccepted, IsRefused, StandsAt}
use Rattle.query_verifier.specs.Checking.{Verifies}
use Rattle.query_verifier.specs.declared.cause.VerifierCause.{VerifierCause}
use Rattle.query_verifier.specs.declared.cause.VerifierCause.TheVariants.{Code, File}

-- ---- faults

no_bounds : (p : Parts) (s : Spot) → HasCauseAt p cause.Bounds s → ⊥
no_bounds p (spot.Filter n) h = h
no_bounds p (spot.Row n) h = h
no_bounds p (spot.Last n) h = h.has
no_bounds p spot.Bounds h = h
no_bounds p (spot.Pool n) h = h

no_pattern : (p : Parts) (s : Spot) → HasCauseAt p cause.Pattern s → ⊥
no_pattern p (spot.Filter n) h = h
no_pattern p (spot.Row n) h = h
no_pattern p (spot.Last n) h = h.has
no_pattern p spot.Bounds h = h
no_pattern p (spot.Pool n) h = h

as_fault : (p : Parts) (c : CodeCause) (s : Spot) → HasCauseAt p c s → (IsWellShaped p → ⊥)
    → StandsAt p c s × HasNoShapes p c
as_fault p cause.Bounds s h none = absurd (no_bounds p s h)
as_fault p cause.Pattern s h none = absurd (no_pattern p s h)
as_fault p c s h none = (h, none)

pub lacks : (p : Parts) (r : Refusal Fault) → Lacks p r → Verifies p (Err r)
lacks p OutOfMemory h = tt
lacks p (Refused f) h = as_fault p f.cause f.spot h.1 h.0

-- ---- acceptance

parts_same : (bytes : List ℕ) (a b : Parts) → IsFile bytes a → IsFile bytes b → a ≡ b
parts_same bytes a b is also = ok_is a b (sym (file_is bytes a is) ∙ file_is bytes b also)

abbrev done : Parts → Result Parts FileCause
done p = Ok p

ok_err : (p : Parts) (c : FileCause) → done p ≡ Err c → ⊥
ok_err p c e = cc

no_file : (bytes : List ℕ) (p : Parts) (c : FileCause) → IsFile bytes p → decoded bytes ≡ Err c → ⊥
no_file bytes p c is e = ok_err p c (sym (ap (refused bytes) (file_is bytes p is)) ∙ e)

no_refusal : (bytes : List ℕ) (p : Parts) (c : CodeCause) (place : ℕ) → IsFile bytes p
    → IsWellShaped p → IsRefused bytes c place → (HasNoShapes p c → IsWellShaped p → ⊥) → ⊥
no_refusal bytes p c place is shaped r none =
    none (subst (λ q. HasNoShapes q c) (parts_same bytes r.parts p r.is_file is) r.no_shapes) shaped

pub accepted : (bytes : List ℕ) (p : Parts) → IsFile bytes p → IsWellShaped p
    → (r : Result Checked (Refusal VerifierCause)) → Checks bytes r → IsAccepted r
accepted bytes p is shaped (Ok checked) h = tt
accepted bytes p is shaped (Err OutOfMemory) h = tt
accepted bytes p is shaped (Err (Refused (File c))) h = no_file bytes p c is h
accepted bytes p is shaped (Err (Refused (Code cause.Pattern place))) h = tt
accepted bytes p is shaped (Err (Refused (Code c place))) h =
    no_refusal bytes p c place is shaped h (λ none. none)
