-- What a store over memory holds, gives and keeps.
use Rattle.std.specs.Prelude.{◌≡◌, ℕ, ◌+◌, ◌-◌, ◌^◌, Bool, true, false, if◌then◌else◌, nat_eq, min}
use Rattle.std.specs.Prelude.{List, [], ◌∷◌, ◌++◌, ⊤, fold, Option, Some, None, Result, Ok, Err}
use Rattle.std.specs.Str.{bytes_eq}
use Rattle.stores.specs.Reading.{Reading, readings_of, failures_behind}
use Rattle.stores.specs.Putting.{Putting, puttings_of}
use Rattle.stores.specs.Source.{Gave, told_of_all, failures_behind_all}
use Rattle.stores.specs.Shelf.{Shelf}
use Rattle.stores.specs.declared.source.Source.{Ghosts as SourceOf}
use Rattle.stores.specs.declared.source.SourceFault.{SourceFault}
use Rattle.stores.specs.declared.source.SourceFault.TheVariants.{Failed, OutOfMemory}

-- the bytes of the first file of that name
abbrev pub first_in : List ℕ → List Putting → Option (List ℕ)
first_in name [] = None
first_in name (file ∷ files) = if bytes_eq file.0 name then Some file.1 else first_in name files

-- the bytes of a file of that name, else what was found before it
abbrev pub newer : List ℕ → Option (List ℕ) → Putting → Option (List ℕ)
newer name found file = if bytes_eq file.0 name then Some file.1 else found

-- the bytes under a name: those of the latest file that was put there, else of the first that was
-- there from the start
abbrev pub held : Shelf → List ℕ → Option (List ℕ)
held store name = fold (newer name) (first_in name store.files) store.kept

-- the number of the call behind that one
abbrev pub next_call : ℕ → ℕ
next_call call = min (call + 1) (2 ^ 64 - 1)

-- its next call is the one that fails
abbrev pub fails_at_next : Shelf → Bool
fails_at_next store = nat_eq (next_call store.calls) store.fails_at

-- what a call finds under a name: what is held, or nothing where that call fails
abbrev pub found_at : Shelf → ℕ → List ℕ → Option (List ℕ)
found_at store call name = if nat_eq call store.fails_at then None else held store name

-- the answer is what that call finds, and a failure where it finds nothing
abbrev pub Finds : Shelf → ℕ → List ℕ → Result (List ℕ) SourceFault → Type 0
Finds store call name (Ok bytes) = found_at store call name ≡ Some bytes
Finds store call name (Err Failed) = found_at store call name ≡ None
Finds store call name (Err OutOfMemory) = ⊤

-- calls from that one on, one behind the other, answer so
abbrev pub FindsAll : Shelf → ℕ → List Reading → Type 0
FindsAll store call [] = ⊤
FindsAll store call (reading ∷ rest) =
    Finds store call reading.0 reading.1 × FindsAll store (next_call call) rest

-- the store behind a call that asks for a text: its files stay
abbrev pub asked_of : Shelf → List ℕ → Result (List ℕ) SourceFault → Shelf
asked_of store name answer = record store {
  told = store.told ++ readings_of name answer;
  failures = failures_behind store.failures answer;
  calls = next_call store.calls;
}

-- it gives what its next call finds, and tells it
abbrev pub Gives : Shelf → List ℕ → Result (List ℕ) SourceFault → Shelf → Type 0
Gives before name answer after =
    Finds before (next_call before.calls) name answer × (after ≡ asked_of before name answer)

-- the store behind a call that puts a file: what it told stays
abbrev pub put_into : Shelf → List ℕ → List ℕ → Result Unit SourceFault → Shelf
put_into store name bytes answer = record store {
  kept = store.kept ++ puttings_of name bytes answer;
  failures = failures_behind store.failures answer;
  calls = next_call store.calls;
}

-- it takes a file but in the call that fails
abbrev pub Allows : Shelf → Result Unit SourceFault → Type 0
Allows store (Ok x) = fails_at_next store ≡ false
Allows store (Err Failed) = fails_at_next store ≡ true
Allows store (Err OutOfMemory) = ⊤

abbrev pub Keeps : Shelf → List ℕ → List ℕ → Result Unit SourceFault → Shelf → Type 0
Keeps before name bytes answer after =
    Allows before answer × (after ≡ put_into before name bytes answer)

-- a text that is asked for takes nothing away of what was put
pub gives_and_keeps : (before after : Shelf) (name : List ℕ) (answer : Result (List ℕ) SourceFault)
    → Gives before name answer after → Some after.kept ≡ Some before.kept
gives_and_keeps before after name answer gives = λ i. Some (gives.1 i).kept

-- what it tells of itself as a source
abbrev pub memory_source : SourceOf Shelf
memory_source = record { failures = λ s. s.failures; told = λ s. Some s.told; may_give = Gives }

-- Calls from its next one on gave what they found; what they told and their failures were added, and
-- what it holds stays: the files that it had, and those that were put.
pub record GaveHeld (old new : Shelf) (readings : List Reading) : Type 0 where
  pub finds : FindsAll old (next_call old.calls) readings
  pub files : new.files ≡ old.files
  pub kept : new.kept ≡ old.kept
  pub told : new.told ≡ old.told ++ told_of_all readings
  pub counted : new.failures ≡ failures_behind_all old.failures readings

abbrev pub GivesWhatItHolds : Type 0
GivesWhatItHolds = (old new : Shelf) (readings : List Reading) → Gave memory_source old new readings
    → GaveHeld old new readings
