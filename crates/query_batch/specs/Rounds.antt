-- Runs that have turns round by round, until none can go on.
use Rattle.std.specs.Prelude.{◌≡◌, ◌⊎◌, ℕ, zero, suc, ◌≤◌, Bool, true, false, List, [], ◌∷◌}
use Rattle.std.specs.List.{list_any}
use Rattle.plain_machine.specs.WholeRun.{budget}
use Rattle.posting_table.specs.Ledger.{Ledger}
use Rattle.posting_table.specs.Rows.{rows_of}
use Rattle.query_batch.specs.Batch.{IsTurn}
use Rattle.query_batch.specs.Members.{IsTurnedMember}
use Rattle.query_batch.specs.declared.member.Member.{Member}
use Rattle.query_batch.specs.declared.member.Member.TheVariants as member
use Rattle.query_machine.specs.Run.{At, Ended, Failed, Place}
use Rattle.query_machine.specs.RunOf.{IsRunOf}
use Rattle.query_machine.specs.Starts.{IsOutside, IsWithin}
use Rattle.query_machine.specs.declared.turn.Turn.{Turn}
use Rattle.query_machine.specs.declared.turn.Turn.TheVariants as turn
use Rattle.verified_program.specs.declared.checked.Checked.{Checked}

-- it stands before an instruction
abbrev pub is_going_at : Place → Bool
is_going_at (At steps) = true
is_going_at (Ended answer) = false
is_going_at Failed = false

abbrev pub is_going : Member → Bool
is_going (member.Run r) = is_going_at r.place
is_going member.OutsideBounds = false

abbrev pub is_told_going : Turn → Bool
is_told_going turn.Going = true
is_told_going told = false

-- a turn of one of the runs, of which it is told whether it can go on
abbrev pub IsTurnTold : ℕ → ℕ → List Member → List Member → Bool → Type 0
IsTurnTold number k old new goes =
    (told : Turn) × IsTurn number k old new told × (goes ≡ is_told_going told)

-- ---- rounds

-- each run had a turn of k steps
abbrev pub AreAllTurned : ℕ → List Member → List Member → Type 0
AreAllTurned k [] [] = Unit {0}
AreAllTurned k [] (new ∷ after) = ⊥
AreAllTurned k (old ∷ before) [] = ⊥
AreAllTurned k (old ∷ before) (new ∷ after) =
    ((told : Turn) × IsTurnedMember k old new told) × AreAllTurned k before after

-- so many times
abbrev pub AreRounds : ℕ → ℕ → List Member → List Member → Type 0
AreRounds zero k old new = new ≡ old
AreRounds (suc n) k old new =
    (mid : List Member) × AreRounds n k old mid × AreAllTurned k mid new

-- until none can go on, or as many times as may be
abbrev pub GoesOn : ℕ → ℕ → List Member → List Member → Type 0
GoesOn most k old new =
    (n : ℕ) × AreRounds n k old new × ((n ≡ most) ⊎ (list_any is_going new ≡ false))

-- no more steps than these, over so many postings, where they are within the bounds
abbrev pub IsBrief : ℕ → ℕ → Checked → Type 0
IsBrief postings most c =
    postings ≤ c.program.parts.bounds.postings → budget c.program.parts postings postings ≤ most

-- ---- the runs of programs

module _ (l : Ledger) where
  -- where the run of a program ends
  abbrev pub EndsAt : Checked → Place → Type 0
  EndsAt c (At steps) = ⊥
  EndsAt c (Ended answer) = IsRunOf c.program.parts (rows_of l) answer
  EndsAt c Failed = Unit {0}

  -- the ledger is outside its bounds, or its run has ended
  abbrev pub IsEnd : Checked → Member → Type 0
  IsEnd c (member.Run r) = IsWithin c l × EndsAt c r.place
  IsEnd c member.OutsideBounds = IsOutside c l

  abbrev pub HaveEnded : List Checked → List Member → Type 0
  HaveEnded [] [] = Unit {0}
  HaveEnded [] (m ∷ runs) = ⊥
  HaveEnded (c ∷ programs) [] = ⊥
  HaveEnded (c ∷ programs) (m ∷ runs) = IsEnd c m × HaveEnded programs runs
