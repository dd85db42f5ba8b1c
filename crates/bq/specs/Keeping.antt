-- A file that a store is told to keep.
use Rattle.std.specs.Prelude.{◌≡◌, ℕ, List, Option, Result, Ok, Err}
use Rattle.clap.specs.Walk.{Text}
use Rattle.stores.specs.Putting.{puttings_of}
use Rattle.stores.specs.Reading.{GrowsBy, Reading, failures_behind}
use Rattle.stores.specs.Source.{Gave}
use Rattle.stores.specs.declared.source.SourceFault.{SourceFault}
use Rattle.stores.specs.declared.source.SourceFault.TheVariants as store
use Rattle.stores.specs.Putting.{Putting}
use Rattle.stores.specs.declared.source.Source.{Ghosts as SourceOf}
use Rattle.endings.specs.declared.refusal.Refusal.{Refusal}
use Rattle.endings.specs.declared.refusal.Refusal.TheVariants as refusal

-- What a store of the type S tells of itself: as a source, of the files that were put, and what a call
-- that puts one may do.
pub record StoreOf (S : Type 0) : Type 1 where
  pub source : SourceOf S
  pub kept : S → Option (List Putting)
  pub may_keep : S → List ℕ → List ℕ → Result Unit SourceFault → S → Type 0

abbrev pub store_of : {S : Type 0} → SourceOf S → (S → Option (List Putting))
    → (S → List ℕ → List ℕ → Result Unit SourceFault → S → Type 0) → StoreOf S
store_of source kept may_keep = record { source = source; kept = kept; may_keep = may_keep }

-- The store was told to keep a file, and answered so; a failure is counted, what it tells of its
-- files is told, and what it was asked for stays.
pub record Put {S : Type 0} (s : StoreOf S) (old new : S) (name : Text) (bytes : List ℕ)
    (answer : Result Unit SourceFault) : Type 0 where
  pub may : s.may_keep old name bytes answer new
  pub counted : s.source.failures new ≡ failures_behind (s.source.failures old) answer
  pub told : s.source.told new ≡ s.source.told old
  pub keeps : GrowsBy (s.kept old) (s.kept new) (puttings_of name bytes answer)

-- it gave these readings, and then was told to keep that file
abbrev pub PutsFile : {S : Type 0} → StoreOf S → S → S → List Reading → Text → List ℕ
    → Result Unit SourceFault → Type 0
PutsFile {S} s old new readings name bytes answer =
    (middle : S) × Gave s.source old middle readings × Put s middle new name bytes answer

-- what a refusal says of it
abbrev pub Keeps : {S : Type 0} → StoreOf S → S → S → Text → List ℕ → Result Unit Refusal → Type 0
Keeps s old new name bytes (Ok x) = Put s old new name bytes (Ok x)
Keeps s old new name bytes (Err refusal.NotKept) = Put s old new name bytes (Err store.Failed)
Keeps s old new name bytes (Err refusal.OutOfMemory) =
    Put s old new name bytes (Err store.OutOfMemory)
Keeps s old new name bytes (Err r) = ⊥
