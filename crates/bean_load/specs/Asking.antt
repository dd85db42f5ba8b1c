-- What it comes to that a source is asked for a text.
use Rattle.std.specs.Prelude.{◌≡◌, ℕ, true, false, List, [], ◌∷◌, length, Result, Ok, Err}
use Rattle.std.specs.Str.{is_utf8}
use Rattle.std.specs.String.{string_bytes}
use Rattle.stores.specs.Reading.{Reading}
use Rattle.stores.specs.Source.{Gave}
use Rattle.stores.specs.declared.source.Source.{Ghosts as SourceOf}
use Rattle.stores.specs.declared.source.SourceFault.{SourceFault}
use Rattle.stores.specs.declared.source.SourceFault.TheVariants as source
use Rattle.bean_load.specs.Gathered.{Gathered, is_too_large, with_asked, with_bytes, with_read}
use Rattle.refusals.specs.declared.refusal.Refusal.{Refusal}
use Rattle.bean_load.specs.declared.cause.LoadCause.{LoadCause}
use Rattle.refusals.specs.declared.refusal.Refusal.TheVariants.{OutOfMemory, Refused}
use Rattle.bean_load.specs.declared.cause.LoadCause.TheVariants.{TooLarge}
use Rattle.bean_load.specs.declared.gathering.SourceAnswer.{SourceAnswer}
use Rattle.bean_load.specs.declared.gathering.SourceAnswer.TheVariants.{Text, NotUtf8, Failed}

-- bytes are counted where they aren't too many
abbrev pub AddsBytes : ℕ → Gathered → Gathered → Result Unit (Refusal LoadCause) → Type 0
AddsBytes n before after (Ok x) = (is_too_large n before ≡ false) × (after ≡ with_read n before)
AddsBytes n before after (Err (Refused TooLarge)) = is_too_large n before ≡ true
AddsBytes n before after (Err fault) = ⊥

-- the text that bytes are
abbrev pub IsTextOf : List ℕ → SourceAnswer → Type 0
IsTextOf bytes (Text text) = (string_bytes text ≡ bytes) × (is_utf8 bytes ≡ true)
IsTextOf bytes NotUtf8 = is_utf8 bytes ≡ false
IsTextOf bytes Failed = ⊥

-- an answer, and what is known behind it
abbrev pub IsTold : List ℕ → Gathered → Result (List ℕ) SourceFault → SourceAnswer → Gathered → Type 0
IsTold name before (Ok bytes) asked after =
    (is_too_large (length bytes) before ≡ false) × IsTextOf bytes asked
    × (after ≡ with_bytes name bytes before)
IsTold name before (Err source.Failed) Failed after = after ≡ with_asked name before
IsTold name before _ _ after = ⊥

-- The source is asked once, and what it answers is told; L3 where it gave too much.
abbrev pub Asks : {S : Type 0} → SourceOf S → S → S → List ℕ → Gathered → Gathered
    → Result SourceAnswer (Refusal LoadCause) → Type 0
Asks s old new name before after (Ok asked) =
    (answer : Result (List ℕ) SourceFault) × Gave s old new ((name, answer) ∷ [])
    × IsTold name before answer asked after
Asks s old new name before after (Err (Refused TooLarge)) =
    (bytes : List ℕ) × Gave s old new ((name, Ok bytes) ∷ [])
    × (is_too_large (length bytes) before ≡ true)
Asks s old new name before after (Err OutOfMemory) =
    (readings : List Reading) × Gave s old new readings
Asks s old new name before after (Err fault) = ⊥
