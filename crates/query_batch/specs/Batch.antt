-- Batches: how they begin, and what turns do.
use Rattle.std.specs.Prelude.{◌≡◌, ℕ, ◌==◌, ◌≤◌, List, [], ◌∷◌, length, slice_get, slice_set, Result}
use Rattle.std.specs.Prelude.{Ok, Err, Option, Some, if◌then◌else◌}
use Rattle.posting_table.specs.Ledger.{Ledger}
use Rattle.query_batch.specs.Members.{IsTurnedMember, JoinsIn}
use Rattle.query_batch.specs.declared.cause.BatchCause.{BatchCause}
use Rattle.query_batch.specs.declared.cause.BatchCause.TheVariants.{NoSuchRun}
use Rattle.query_batch.specs.declared.member.Member.{Member}
use Rattle.query_batch.specs.declared.member.Member.TheVariants as member
use Rattle.query_machine.specs.Run.{Run, rows_under}
use Rattle.query_machine.specs.Turns.{AreTurned}
use Rattle.query_machine.specs.declared.turn.Turn.{Turn}
use Rattle.verified_program.specs.declared.checked.Checked.{Checked}

-- a run for each program
abbrev pub AreJoined : Ledger → List Checked → List Member → Type 0
AreJoined l [] [] = Unit {0}
AreJoined l [] (m ∷ runs) = ⊥
AreJoined l (c ∷ programs) [] = ⊥
AreJoined l (c ∷ programs) (m ∷ runs) = JoinsIn l c m × AreJoined l programs runs

-- a turn of one of the runs, which leaves the others as they are
pub record IsTurn (number k : ℕ) (old new : List Member) (told : Turn) : Type 0 where
  pub before : Member
  pub was : slice_get old number ≡ Some before
  pub after : Member
  pub is : new ≡ slice_set old number after
  pub turned : IsTurnedMember k before after told

-- there is a turn exactly where there is such a run
abbrev pub TakesTurn : ℕ → ℕ → List Member → List Member → Result Turn BatchCause → Type 0
TakesTurn number k old new (Ok told) = IsTurn number k old new told
TakesTurn number k old new (Err NoSuchRun) = (length old ≤ number) × (new ≡ old)

-- ---- turns one after the other, each of a run by its number and of so many steps

abbrev pub AreTurns : List (ℕ × ℕ) → List Member → List Member → Type 0
AreTurns [] old new = new ≡ old
AreTurns (t ∷ turns) old new =
    (mid : List Member) × (told : Result Turn BatchCause) × TakesTurn t.0 t.1 old mid told
    × AreTurns turns mid new

-- the steps of a run's own turns
abbrev pub own : ℕ → List (ℕ × ℕ) → List ℕ
own number [] = []
own number (t ∷ turns) = if t.0 == number then t.1 ∷ own number turns else own number turns

-- turns of one run, of so many steps each
pub record AreOwnTurns (ks : List ℕ) (old new : Run) : Type 0 where
  pub parts : new.parts ≡ old.parts
  pub ledger : new.ledger ≡ old.ledger
  pub turned : AreTurned old.parts (rows_under old) ks old.place new.place

abbrev pub StandsByItsOwn : List ℕ → Option Member → Option Member → Type 0
StandsByItsOwn ks (Some (member.Run old)) (Some (member.Run new)) = AreOwnTurns ks old new
StandsByItsOwn ks (Some (member.Run old)) new = ⊥
StandsByItsOwn ks old new = new ≡ old

-- whatever turns there are, each run stands where its own lead
abbrev pub TurnsAreOnesOwn : Type 0
TurnsAreOnesOwn = (turns : List (ℕ × ℕ)) (old new : List Member) → AreTurns turns old new
    → (number : ℕ) → StandsByItsOwn (own number turns) (slice_get old number) (slice_get new number)
