-- What the program answers for a posting, and for a transaction, as lines or a fault.
use Rattle.std.specs.Prelude.{List, [], ◌∷◌, Result, Ok, Err}
use Rattle.bean_transactions.specs.declared.line.Line.{Line}
use Rattle.bean_transactions.specs.declared.outcome.Outcome.{Outcome}
use Rattle.bean_transactions.specs.declared.outcome.Outcome.TheVariants as outcome
use Rattle.bean_transactions.specs.declared.stop.LineFault.{LineFault}
use Rattle.refusals.specs.declared.refusal.Refusal.{Refusal}
use Rattle.refusals.specs.declared.refusal.Refusal.TheVariants as stop

abbrev pub lines_of : Outcome → List Line
lines_of (outcome.Line l) = l ∷ []
lines_of (outcome.Takes ls) = ls.items

-- a fault is such a one; of want of memory nothing is said
abbrev pub StopsAt : (LineFault → Type 0) → Refusal LineFault → Type 0
StopsAt P (stop.Refused f) = P f
StopsAt P stop.OutOfMemory = Unit {0}

abbrev pub StopsWith : (Result (List Line) LineFault → Type 0) → Refusal LineFault → Type 0
StopsWith P e = StopsAt (λ f. P (Err f)) e

abbrev pub ComesOf : (Result (List Line) LineFault → Type 0) → Result Outcome (Refusal LineFault) → Type 0
ComesOf P (Ok o) = P (Ok (lines_of o))
ComesOf P (Err e) = StopsWith P e
