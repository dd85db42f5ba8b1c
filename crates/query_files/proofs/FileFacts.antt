-- That one thing is told of the bytes of a query file: its program, or why it isn't accepted.
use Rattle.std.proofs.Common.{◌≡◌, ℕ, List, true, Ok, Err, refl, sym, ap, ◌∙◌, subst}
use Rattle.std.proofs.Math.Logic.{∥∥₁_elim}
use Rattle.std.proofs.Props.{props}
use Rattle.query_code.proofs.QueryFileFacts.{file_is, same_program}
use Rattle.query_code.specs.QueryFile.{IsFile, decoded, refused}
use Rattle.query_code.specs.declared.cause.FileCause.{FileCause}
use Rattle.query_code.specs.declared.program.Parts.{Parts}
use Rattle.query_files.specs.Files.{IsLike, is_of_pattern}
use Rattle.query_verifier.specs.Checking.{HasNoShapes, IsRefused, IsUnaccepted, IsVerified}
use Rattle.query_verifier.specs.declared.cause.VerifierCause.{VerifierCause}
use Rattle.query_verifier.specs.declared.cause.VerifierCause.TheVariants as verifier
use Rattle.verify_programs.specs.declared.cause.CodeCause.{CodeCause}
use Rattle.verify_programs.specs.declared.cause.CodeCause.TheVariants as code
use Rattle.well_shaped.proofs.DepthFacts.{one_in_programs}
use Rattle.well_shaped.specs.Program.{IsDepth, IsWellShaped}

decodes : (bytes : List ℕ) (p : Parts) → IsFile bytes p → decoded bytes ≡ Ok p
decodes bytes p is = ap (refused bytes) (file_is bytes p is)

no_file : (bytes : List ℕ) (p : Parts) (f : FileCause) → IsFile bytes p → decoded bytes ≡ Err f → ⊥
no_file bytes p f is not = let e = sym (decodes bytes p is) ∙ not in cc

-- a program that is well shaped isn't refused but for a pattern
unshaped : (p : Parts) (c : CodeCause) → IsWellShaped p → HasNoShapes p c
    → c ≡ code.Pattern
unshaped p code.Pattern is not = refl
unshaped p code.Jump is not = absurd (not is)
unshaped p code.TooFew is not = absurd (not is)
unshaped p code.TooDeep is not = absurd (not is)
unshaped p code.Operands is not = absurd (not is)
unshaped p code.Unknown is not = absurd (not is)
unshaped p code.Slot is not = absurd (not is)
unshaped p code.PoolEntry is not = absurd (not is)
unshaped p code.TooWide is not = absurd (not is)
unshaped p code.Values is not = absurd (not is)
unshaped p code.Bounds is not = absurd (not is)
unshaped p code.Unreachable is not = absurd (not is)

shaped_in : (p : Parts) (depth : ℕ) → ∥ IsDepth p depth ∥₁ → ¬ ¬ IsWellShaped p
shaped_in p depth is not = ∥∥₁_elim is (hlevel props) (λ d. not d.shaped)

-- where it is accepted, one that isn't a pattern's can't be its cause
not_accepted : (bytes : List ℕ) (p : Parts) (depth : ℕ) (c : CodeCause) (place : ℕ)
    → IsVerified bytes p depth → (r : IsRefused bytes c place)
    → (IsWellShaped r.parts → ⊥) → ⊥
not_accepted bytes p depth c place is r not =
    shaped_in p depth is.is_well_shaped
    (λ shaped. not (subst IsWellShaped (same_program bytes p r.parts is.is_file r.is_file) shaped))

-- only for a pattern, where it is accepted
pub refused_for_pattern : (bytes : List ℕ) (c : VerifierCause) (p : Parts) (depth : ℕ)
    → IsUnaccepted bytes c → IsVerified bytes p depth
    → is_of_pattern c ≡ true
refused_for_pattern bytes (verifier.File f) p depth not is = absurd (no_file bytes p f is.is_file not)
refused_for_pattern bytes (verifier.Code code.Pattern place) p depth not is = refl
refused_for_pattern bytes (verifier.Code code.Jump place) p depth not is =
    absurd (not_accepted bytes p depth code.Jump place is not not.no_shapes)
refused_for_pattern bytes (verifier.Code code.TooFew place) p depth not is =
    absurd (not_accepted bytes p depth code.TooFew place is not not.no_shapes)
refused_for_pattern bytes (verifier.Code code.TooDeep place) p depth not is =
    absurd (not_accepted bytes p depth code.TooDeep place is not not.no_shapes)
refused_for_pattern bytes (verifier.Code code.Operands place) p depth not is =
    absurd (not_accepted bytes p depth code.Operands place is not not.no_shapes)
refused_for_pattern bytes (verifier.Code code.Unknown place) p depth not is =
    absurd (not_accepted bytes p depth code.Unknown place is not not.no_shapes)
refused_for_pattern bytes (verifier.Code code.Slot place) p depth not is =
    absurd (not_accepted bytes p depth code.Slot place is not not.no_shapes)
refused_for_pattern bytes (verifier.Code code.PoolEntry place) p depth not is =
    absurd (not_accepted bytes p depth code.PoolEntry place is not not.no_shapes)
refused_for_pattern bytes (verifier.Code code.TooWide place) p depth not is =
    absurd (not_accepted bytes p depth code.TooWide place is not not.no_shapes)
refused_for_pattern bytes (verifier.Code code.Values place) p depth not is =
    absurd (not_accepted bytes p depth code.Values place is not not.no_shapes)
refused_for_pattern bytes (verifier.Code code.Bounds place) p depth not is =
    absurd (not_accepted bytes p depth code.Bounds place is not not.no_shapes)
refused_for_pattern bytes (verifier.Code code.Unreachable place) p depth not is =
    absurd (not_accepted bytes p depth code.Unreachable place is not not.no_shapes)

-- two causes of the same bytes
pub one_cause : (bytes : List ℕ) (a b : VerifierCause) → IsUnaccepted bytes a
    → IsUnaccepted bytes b → IsLike a b
one_cause bytes (verifier.File f) (verifier.File g) h k =
    let e = sym h ∙ k in
    let same : f ≡ g = cc in ap verifier.File same
one_cause bytes (verifier.File f) (verifier.Code c place) h k =
    absurd (no_file bytes k.parts f k.is_file h)
one_cause bytes (verifier.Code c place) (verifier.File f) h k =
    absurd (no_file bytes h.parts f h.is_file k)
one_cause bytes (verifier.Code c place) (verifier.Code d spot) h k = tt

-- ---- one program

same_depth : (p : Parts) (d e : ℕ) → ∥ IsDepth p d ∥₁ → ∥ IsDepth p e ∥₁ → d ≡ e
same_depth p d e h k =
    ∥∥₁_elim h (hlevel props) (λ x. ∥∥₁_elim k (hlevel props) (λ y. one_in_programs p d e x y))

pub one_program : (bytes : List ℕ) (p q : Parts) (d e : ℕ) → IsVerified bytes p d
    → IsVerified bytes q e → (p ≡ q) × (d ≡ e)
one_program bytes p q d e is also =
    let same = same_program bytes p q is.is_file also.is_file in
    (same, same_depth q d e (subst (λ x. ∥ IsDepth x d ∥₁) same is.is_well_shaped) also.is_well_shaped)
