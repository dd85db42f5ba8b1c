-- What a source is asked, and what it answers.
use Rattle.std.specs.Prelude.{◌≡◌, ℕ, ◌+◌, List, [], ◌∷◌, ◌++◌, Option, Some, None, ⊤, Result, Ok}
use Rattle.std.specs.Prelude.{Err, Vec}
use Rattle.stores.specs.declared.source.SourceFault.{SourceFault}
use Rattle.stores.specs.declared.source.SourceFault.TheVariants.{Failed, OutOfMemory}

-- an answer, wherever its bytes lie
abbrev pub answer_of : {Z : Type 0} → Result (Vec ℕ Z) SourceFault → Result (List ℕ) SourceFault
answer_of (Ok bytes) = Ok bytes.items
answer_of (Err fault) = Err fault

-- a name that was asked for, and the answer
abbrev pub Reading : Type 0
Reading = List ℕ × Result (List ℕ) SourceFault

-- one failure more where a call failed
abbrev pub failures_behind : {T : Type 0} → ℕ → Result T SourceFault → ℕ
failures_behind n (Ok x) = n
failures_behind n (Err Failed) = n + 1
failures_behind n (Err OutOfMemory) = n

-- what is told of a call: its answer, but where memory lacked
abbrev pub readings_of : List ℕ → Result (List ℕ) SourceFault → List Reading
readings_of name (Ok bytes) = (name, Ok bytes) ∷ []
readings_of name (Err Failed) = (name, Err Failed) ∷ []
readings_of name (Err OutOfMemory) = []

-- what is told grows by these at its end, where it is told
abbrev pub GrowsBy : {A : Type 0} → Option (List A) → Option (List A) → List A → Type 0
GrowsBy None new more = ⊤
GrowsBy (Some old) None more = ⊥
GrowsBy (Some old) (Some new) more = new ≡ old ++ more
