-- What is answered at the end of a row section where postings are grouped.
use Rattle.std.specs.Prelude.{◌≡◌, ℕ, List, [], ◌∷◌, Option, Some, None, Result, Ok, Err}
use Rattle.query_values.specs.declared.operation.Aggregate.{Aggregate}
use Rattle.query_values.specs.declared.operation.Aggregate.TheVariants.{CountRows}
use Rattle.refusals.specs.declared.refusal.Refusal.{Refusal}
use Rattle.refusals.specs.declared.refusal.Refusal.TheVariants.{OutOfMemory, Refused}
use Rattle.query_rows.specs.declared.shape.Shape.{Shape}
use Rattle.query_code.specs.declared.program.Code.{Code}
use Rattle.well_shaped.specs.Ends.{HandsOver}
use Rattle.verify_programs.specs.declared.cause.CodeCause.{CodeCause}
use Rattle.verify_programs.specs.declared.cause.CodeCause.TheVariants.{Values, TooWide}
use Rattle.verify_programs.specs.declared.ends.ToLast.{ToLast}

-- a cause of an end
abbrev pub IsEndCause : CodeCause → Type 0
IsEndCause Values = Unit {0}
IsEndCause TooWide = Unit {0}
IsEndCause c = ⊥

-- the totals that are gathered, if they are
abbrev pub Totals : Result (List Shape) (Refusal CodeCause) → Option (List Shape) → Type 0
Totals (Ok totals) gathered = gathered ≡ Some totals
Totals (Err OutOfMemory) gathered = Unit {0}
Totals (Err (Refused c)) gathered = (gathered ≡ None) × IsEndCause c

-- what is handed over, if something is
abbrev pub Hands : ℕ → Code → List Shape → Result ToLast (Refusal CodeCause) → Type 0
Hands n c values (Ok t) = HandsOver n c values t.keys t.totals
Hands n c values (Err OutOfMemory) = Unit {0}
Hands n c values (Err (Refused cause)) =
    ((keys totals : List Shape) → HandsOver n c values keys totals → ⊥) × IsEndCause cause

-- the input of an aggregate, and those behind it; rows are counted without one
abbrev pub input_at : Aggregate → List Shape → Option (Option Shape × List Shape)
input_at CountRows inputs = Some (None, inputs)
input_at a [] = None
input_at a (s ∷ inputs) = Some (Some s, inputs)
