-- Query files that are read one after the other, as long as each is accepted.
use Rattle.std.specs.Prelude.{◌≡◌, ℕ, List, [], ◌∷◌, Result, Ok, Err}
use Rattle.query_fates.specs.Fates.{HasProgram}
use Rattle.clap.specs.Walk.{Text}
use Rattle.stores.specs.Reading.{Reading}
use Rattle.stores.specs.Source.{Gave}
use Rattle.stores.specs.declared.source.Source.{Ghosts as SourceOf}
use Rattle.bq.specs.Batch.{about_files}
use Rattle.bq.specs.Due.{Due}
use Rattle.bq.specs.Files.{FileComes, about_file}
use Rattle.bq.specs.Runs.{Finds}
use Rattle.bq.specs.Verified.{about_program}
use Rattle.endings.specs.declared.refusal.Refusal.{Refusal}

-- ---- one file

-- why the file can't be read or isn't accepted; nothing is due of one that is
abbrev pub if_refused : Text → Due
if_refused = about_file (about_program (λ p depth readings end. ⊥))

-- the store gave what it was asked for, and these are the bytes of an accepted file
abbrev pub AcceptsFile : {S : Type 0} → SourceOf S → S → S → Text → Result (List ℕ) Refusal
    → Type 0
AcceptsFile s old new name (Ok bytes) =
    (readings : List Reading) × Gave s old new readings × FileComes name readings (Ok bytes) []
    × HasProgram bytes
AcceptsFile s old new name (Err r) = Finds s old new (if_refused name) (Err r)

-- ---- some files

-- the readings come to these bytes, each of an accepted file
abbrev pub ComeAccepted : List Text → List Reading → List (List ℕ) → Type 0
ComeAccepted [] readings [] = readings ≡ []
ComeAccepted [] readings (bytes ∷ files) = ⊥
ComeAccepted (name ∷ names) readings [] = ⊥
ComeAccepted (name ∷ names) readings (bytes ∷ files) =
    (rest : List Reading) × FileComes name readings (Ok bytes) rest × HasProgram bytes
    × ComeAccepted names rest files

-- why one of them can't be read or isn't accepted
abbrev pub if_one_refused : List Text → Due
if_one_refused = about_files (λ programs readings end. ⊥)

abbrev pub AcceptsFiles : {S : Type 0} → SourceOf S → S → S → List Text
    → Result (List (List ℕ)) Refusal → Type 0
AcceptsFiles s old new names (Ok files) =
    (readings : List Reading) × Gave s old new readings × ComeAccepted names readings files
AcceptsFiles s old new names (Err r) = Finds s old new (if_one_refused names) (Err r)
