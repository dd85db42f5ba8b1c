-- What a writer over memory with a limit does.
use Rattle.std.specs.Prelude.{◌≡◌, ℕ, true, false, ◌-◌, ◌<◌, ◌≤◌, ◌++◌, ◌⊎◌, min, take, List}
use Rattle.std.specs.Prelude.{length, Result, Ok, Err}
use Rattle.outputs.specs.Holding.{Holding}
use Rattle.outputs.specs.Output.{TookInPieces}
use Rattle.outputs.specs.declared.output.NotTaken.{NotTaken}
use Rattle.outputs.specs.declared.output.Output.{Ghosts as OutputOf}

-- how many of these bytes fit below its limit
abbrev pub fitting : Holding → List ℕ → ℕ
fitting w bytes = min (length bytes) (w.limit - length w.taken)

-- nothing fits, or memory was refused to it, which it remembers
abbrev pub TakesNothing : Holding → List ℕ → Holding → Type 0
TakesNothing before bytes after =
    ((fitting before bytes ≡ 0) × (after.starved ≡ before.starved))
    ⊎ ((0 < fitting before bytes) × (after.starved ≡ true))

-- it takes what fits, which is more than nothing, or it fails and takes nothing
abbrev pub AnswersShort : Holding → List ℕ → Result ℕ NotTaken → Holding → Type 0
AnswersShort before bytes (Ok n) after =
    (0 < n)
    × (n ≡ fitting before bytes)
    × (after.taken ≡ before.taken ++ take n bytes)
    × (after.limit ≡ before.limit)
    × (after.starved ≡ before.starved)
AnswersShort before bytes (Err e) after =
    TakesNothing before bytes after
    × (after.taken ≡ before.taken)
    × (after.limit ≡ before.limit)

-- what it tells of itself
abbrev pub short_writer : OutputOf Holding
short_writer = record { refusals = λ w. w.refusals; may_answer = AnswersShort }

-- it has the bytes behind those that it had, and where it took a front alone and no memory was
-- refused to it, its limit is reached
abbrev pub KeepsFront : Type 0
KeepsFront =
    (start after : Holding) (bytes : List ℕ) (n : ℕ) → TookInPieces short_writer start after bytes n
    → (after.taken ≡ start.taken ++ take n bytes)
    × (n < length bytes → after.starved ≡ false → after.limit ≤ length after.taken)
