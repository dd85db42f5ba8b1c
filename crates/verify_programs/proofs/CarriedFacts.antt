-- What a pass answered, as it is told of the program.
use Rattle.std.proofs.Common.{◌≡◌, ℕ, List, reverse, Ok, Err, Result, sym, subst}
use Rattle.refusals.specs.declared.refusal.Refusal.{Refusal}
use Rattle.refusals.specs.declared.refusal.Refusal.TheVariants.{OutOfMemory, Refused}
use Rattle.query_rows.specs.declared.shape.Shape.{Shape}
use Rattle.query_code.specs.declared.instruction.Instruction.{Instruction}
use Rattle.query_code.specs.declared.program.Constant.{Constant}
use Rattle.query_code.specs.declared.program.Mode.TheVariants.{Grouped}
use Rattle.query_code.specs.declared.program.Parts.{Parts}
use Rattle.plain_machine.specs.SectionRun.{State}
use Rattle.well_shaped.specs.Ends.{HandsOver}
use Rattle.well_shaped.specs.Sections.{Loads, filter_loads, last_loads, row_loads}
use Rattle.verify_programs.specs.declared.cause.CodeCause.{CodeCause}
use Rattle.verify_programs.specs.declared.cause.CodeCause.TheVariants as cause
use Rattle.verify_programs.specs.Passing.{HasCause, Passes}
use Rattle.verify_programs.specs.declared.passing.SectionCause.{SectionCause}
use Rattle.verify_programs.specs.Depths.{EndAnswers, HasCauseAt, HasLastCause, IsRowLeast}
use Rattle.verify_programs.specs.Depths.{Lacks, LastAnswers, ended, placed}
use Rattle.verify_programs.specs.Ending.{Hands, IsEndCause}
use Rattle.verify_programs.specs.declared.spot.Fault.{Fault}
use Rattle.verify_programs.specs.declared.spot.Spot.TheVariants.{Filter, Row, Last}
use Rattle.verify_programs.proofs.WholeFacts.{grouped_found, many_totals, no_filter, no_last}
use Rattle.verify_programs.proofs.WholeFacts.{no_row, none_handed}

pub carry : (P : List Constant → Loads → List Instruction → Type 0) → {a b : List Constant}
    → a ≡ b → {l k : Loads} → l ≡ k → {c d : List Instruction} → c ≡ d → P a l c → P b k d
carry P {b = b} e {l} {k} f {c} {d} g h =
    subst (λ x. P b k x) g (subst (λ x. P b x c) f (subst (λ x. P x l c) e h))

pub last_cause : (p : Parts) (values keys totals : List Shape)
    → HandsOver p.bounds.postings p.code values keys totals → (c : CodeCause) (n : ℕ)
    → HasCause p.code.pool (last_loads keys totals) p.code.last c n → HasLastCause p c n
last_cause p values keys totals handed c n has = record {
  keys = keys;
  totals = totals;
  as_many_keys = handed.as_many;
  as_many_totals = many_totals p.bounds.postings p.code values keys totals handed;
  has = has;
}

-- ---- faults

pub lacks_filter : (p : Parts) (r : Refusal SectionCause)
    → Passes p.code.pool (filter_loads p.bounds) p.code.filter (Err r) → Lacks p (placed Filter r)
lacks_filter p OutOfMemory h = tt
lacks_filter p (Refused c) h = (no_filter p h.0, h.1)

pub lacks_row : (p : Parts) (r : Refusal SectionCause)
    → Passes p.code.pool (row_loads p.mode p.bounds) p.code.row (Err r) → Lacks p (placed Row r)
lacks_row p OutOfMemory h = tt
lacks_row p (Refused c) h = (no_row p h.0, h.1)

module _ (p : Parts) (end : State Shape) (depth : ℕ) (is : IsRowLeast p end depth)
    (e : p.mode ≡ Grouped) where
  pub lacks_last : (keys totals : List Shape)
      → HandsOver p.bounds.postings p.code (reverse end.stack) keys totals
      → (r : Refusal SectionCause) → Passes p.code.pool (last_loads keys totals) p.code.last (Err r)
      → Lacks p (placed Last r)
  lacks_last keys totals handed OutOfMemory h = tt
  lacks_last keys totals handed (Refused c) h = (
    no_last p end depth is e keys totals handed h.0,
    last_cause p (reverse end.stack) keys totals handed c.cause c.place h.1,
  )

  end_cause : (n : ℕ) (c : CodeCause) → IsEndCause c → HasCauseAt p c (Row n)
  end_cause n cause.Values h = tt
  end_cause n cause.TooWide h = tt
  end_cause n c h = absurd h

  pub lacks_handed : (n : ℕ) (values : List Shape) → values ≡ reverse end.stack
      → (r : Refusal CodeCause) → Hands p.bounds.postings p.code values (Err r)
      → Lacks p (ended (Row n) r)
  lacks_handed n values same OutOfMemory h = tt
  lacks_handed n values same (Refused c) h = (
    none_handed p end depth is e
        (λ keys totals handed. h.0 keys totals
        (subst (λ vs. HandsOver p.bounds.postings p.code vs keys totals) (sym same) handed)),
    end_cause n c h.1,
  )

pub from_last : (p : Parts) (end : State Shape) (depth : ℕ) → IsRowLeast p end depth
    → p.mode ≡ Grouped → (keys totals : List Shape)
    → HandsOver p.bounds.postings p.code (reverse end.stack) keys totals
    → (r : Result ℕ (Refusal Fault)) → LastAnswers p keys totals r → EndAnswers p end r
from_last p end depth is e keys totals handed (Ok deep) h =
    grouped_found p end depth is e keys totals handed deep h
from_last p end depth is e keys totals handed (Err r) h = h
