-- What is due of a file, and of the texts of a ledger.
use Rattle.std.specs.Prelude.{◌≡◌, ℕ, ◌<◌, ◌≤◌, ◌⊎◌, List, [], ◌∷◌, length, Result, Ok, Err}
use Rattle.bean_load.specs.declared.cause.LoadCause.{LoadCause}
use Rattle.bean_load.specs.declared.cause.LoadCause.TheVariants.{Unreadable, TooLarge}
use Rattle.clap.specs.Walk.{Text}
use Rattle.limits.specs.declared.counts.TheConstants.{LARGEST_TEXT}
use Rattle.refusals.specs.declared.refusal.Refusal as refusals
use Rattle.refusals.specs.declared.refusal.Refusal.TheVariants as refusal
use Rattle.stores.specs.Reading.{Reading}
use Rattle.stores.specs.Source.{Gave}
use Rattle.stores.specs.declared.source.Source.{Ghosts as SourceOf}
use Rattle.stores.specs.declared.source.SourceFault.{SourceFault}
use Rattle.stores.specs.declared.source.SourceFault.TheVariants.{Failed}
use Rattle.bq.specs.Due.{Due}
use Rattle.endings.specs.declared.refusal.Cause.TheVariants.{Load}

-- what the store answers comes to the bytes of a file, or to L1 where it failed, L3 where they are
-- too many
abbrev pub FileIs : Result (List ℕ) SourceFault → Result (List ℕ) LoadCause → Type 0
FileIs answer (Ok bytes) = (answer ≡ Ok bytes) × (length bytes ≤ LARGEST_TEXT)
FileIs answer (Err Unreadable) = answer ≡ Err Failed
FileIs answer (Err TooLarge) =
    (bytes : List ℕ) × (answer ≡ Ok bytes) × (LARGEST_TEXT < length bytes)
FileIs answer (Err cause) = ⊥

-- so does the first reading, for that name
abbrev pub FileComes : Text → List Reading → Result (List ℕ) LoadCause → List Reading → Type 0
FileComes name readings file rest =
    (answer : Result (List ℕ) SourceFault) × (readings ≡ (name, answer) ∷ rest)
    × FileIs answer file

-- The store gave what it was asked for, and this is what it comes to; memory may lack at any time.
abbrev pub ReadsFile : {S X : Type 0} → SourceOf S → S → S → Text → (X → List ℕ)
    → Result X (refusals.Refusal LoadCause) → Type 0
ReadsFile s old new name bytes_of (Ok x) =
    (readings : List Reading) × Gave s old new readings
    × FileComes name readings (Ok (bytes_of x)) []
ReadsFile s old new name bytes_of (Err refusal.OutOfMemory) =
    (readings : List Reading) × Gave s old new readings
ReadsFile s old new name bytes_of (Err (refusal.Refused cause)) =
    (readings : List Reading) × Gave s old new readings × FileComes name readings (Err cause) []

-- What is due of the file of that name: why it can't be read, or what is due of its bytes, given
-- what the store gave behind it.
abbrev pub about_file : (List ℕ → Due) → Text → Due
about_file Of name readings end =
    ((cause : LoadCause) × FileComes name readings (Err cause) [] × (end ≡ Err (Load cause)))
    ⊎ ((bytes : List ℕ) × (rest : List Reading)
    × FileComes name readings (Ok bytes) rest × Of bytes rest end)
