-- What turns of a run do.
use Rattle.std.specs.Prelude.{◌≡◌, ℕ, ◌+◌, ◌≤◌, true, List, [], ◌∷◌, sum, min, length, Option, Some, None}
use Rattle.plain_machine.specs.Answer as plain
use Rattle.plain_machine.specs.Answer.{Answers, NeverFaults}
use Rattle.plain_machine.specs.PlainMachine.{stand_after}
use Rattle.plain_machine.specs.WholeRun.{budget, is_going}
use Rattle.query_answer.specs.declared.answer.Answer.{Answer}
use Rattle.query_code.specs.declared.program.Parts.{Parts}
use Rattle.query_machine.specs.Run.{At, Ended, Failed, Place, Run, rows_under}
use Rattle.query_machine.specs.RunOf.{IsRunOf}
use Rattle.query_machine.specs.declared.turn.Turn.{Turn}
use Rattle.query_machine.specs.declared.turn.Turn.TheVariants as turn
use Rattle.query_rows.specs.Row.{Row}

abbrev pub told_at : Place → Turn
told_at (At steps) = turn.Going
told_at (Ended answer) = turn.Done
told_at Failed = turn.Failed

abbrev pub answer_at : Place → Option Answer
answer_at (At steps) = None
answer_at (Ended answer) = Some answer
answer_at Failed = None

module _ (p : Parts) (ledger : List Row) where
  -- Where a run may stand to which so many steps were given: where the plain machine does after as
  -- many, before an instruction; at its end, which is no further; or memory lacked.
  abbrev pub StandsAfter : ℕ → Place → Type 0
  StandsAfter given (At steps) = (steps ≡ given) × (is_going (stand_after p ledger given) ≡ true)
  StandsAfter given (Ended answer) = IsRunOf p ledger answer × (answer.steps ≤ given)
  StandsAfter given Failed = Unit {0}

  -- what a turn of k steps does: what has ended, or lacked memory, stays as it is
  abbrev pub Moves : ℕ → Place → Place → Type 0
  Moves k (At steps) new = StandsAfter (steps + k) new
  Moves k (Ended answer) new = new ≡ Ended answer
  Moves k Failed new = new ≡ Failed

  -- turns of so many steps each, one after the other
  abbrev pub AreTurned : List ℕ → Place → Place → Type 0
  AreTurned [] old new = new ≡ old
  AreTurned (k ∷ ks) old new = (mid : Place) × Moves k old mid × AreTurned ks mid new

-- a turn of one run, and what it tells
pub record IsTurned (k : ℕ) (old new : Run) (told : Turn) : Type 0 where
  pub parts : new.parts ≡ old.parts
  pub ledger : new.ledger ≡ old.ledger
  pub moves : Moves old.parts (rows_under old) k old.place new.place
  pub tells : told ≡ told_at new.place

-- it has made so many steps, unless memory lacked
abbrev pub HasMade : ℕ → Place → Type 0
HasMade n (At steps) = steps ≡ n
HasMade n (Ended answer) = answer.steps ≡ n
HasMade n Failed = Unit {0}

-- it can't go on
abbrev pub HasEnded : Place → Type 0
HasEnded (At steps) = ⊥
HasEnded place = Unit {0}

-- ---- laws

-- after any turns a run stands where the sum of their steps leads
abbrev pub TurnsAddUp : Type 0
TurnsAddUp = (p : Parts) (ledger : List Row) (k : ℕ) (ks : List ℕ) (new : Place)
    → AreTurned p ledger (k ∷ ks) (At 0) new → StandsAfter p ledger (sum (k ∷ ks)) new

-- it has then made as many steps as were given to it, or as lead to the end, if these are fewer
abbrev pub StepsAreCounted : Type 0
StepsAreCounted = (p : Parts) (ledger : List Row) (given : ℕ) (place : Place) (a : plain.Answer)
    → Answers p ledger a → StandsAfter p ledger given place
    → HasMade (min given a.steps) place

-- within the budget of all postings, each a group of its own, it comes to its end
abbrev pub RunsEnd : Type 0
RunsEnd = (p : Parts) (ledger : List Row) (given : ℕ) (place : Place) → NeverFaults p ledger
    → budget p (length ledger) (length ledger) ≤ given → StandsAfter p ledger given place
    → HasEnded place
