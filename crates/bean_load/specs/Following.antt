-- What is done with a source while texts are gathered.
use Rattle.std.specs.Prelude.{◌≡◌, ℕ, List, ◌++◌, Result, Ok, Err}
use Rattle.stores.specs.Reading.{Reading}
use Rattle.stores.specs.Source.{Gave}
use Rattle.stores.specs.declared.source.Source.{Ghosts as SourceOf}
use Rattle.bean_load.specs.Gathered.{Gathered, texts_of}
use Rattle.bean_load.specs.Gathering.{Comes}
use Rattle.bean_load.specs.Texts.{Texts}
use Rattle.refusals.specs.declared.refusal.Refusal.{Refusal}
use Rattle.bean_load.specs.declared.cause.LoadCause.{LoadCause}
use Rattle.refusals.specs.declared.refusal.Refusal.TheVariants.{OutOfMemory}

-- what is known at the end of a call
abbrev pub known : {T : Type 0} → Gathered → Result T (Refusal LoadCause) → Result Gathered (Refusal LoadCause)
known after (Ok x) = Ok after
known after (Err fault) = Err fault

-- The source gave these readings, and with them at the front of those to come it comes to this;
-- memory may lack at any time.
abbrev pub Follows : {S T : Type 0} → SourceOf S → S → S
    → (List Reading → List Reading → Result Gathered (Refusal LoadCause) → Type 0) → Gathered
    → Result T (Refusal LoadCause) → Type 0
Follows s old new Come after (Err OutOfMemory) = (readings : List Reading) × Gave s old new readings
Follows s old new Come after result =
    (readings : List Reading) × Gave s old new readings
    × ((rest : List Reading) → Come (readings ++ rest) rest (known after result))

-- the texts of what is known
abbrev pub texts_in : Result Gathered (Refusal LoadCause) → Result Texts (Refusal LoadCause)
texts_in (Ok s) = Ok (texts_of s)
texts_in (Err fault) = Err fault

-- the ledger of that name, given what the source answered, comes to these texts or to this fault
abbrev pub IsGathered : List ℕ → List Reading → Result Texts (Refusal LoadCause) → Type 0
IsGathered name readings result =
    (end : Result Gathered (Refusal LoadCause)) × Comes name readings end × (result ≡ texts_in end)

-- The source gave what it was asked for, and this is what it comes to; memory may lack at any time.
abbrev pub Gathers : {S : Type 0} → SourceOf S → S → S → List ℕ → Result Texts (Refusal LoadCause) → Type 0
Gathers s old new name (Err OutOfMemory) = (readings : List Reading) × Gave s old new readings
Gathers s old new name result =
    (readings : List Reading) × Gave s old new readings × IsGathered name readings result

-- what the source answered decides the texts, or the fault
abbrev pub HasOneGathering : Type 0
HasOneGathering =
    (name : List ℕ) (readings : List Reading) (a b : Result Texts (Refusal LoadCause))
    → IsGathered name readings a → IsGathered name readings b → a ≡ b
