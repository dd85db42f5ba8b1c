-- What is put into a store.
use Rattle.std.specs.Prelude.{ℕ, List, [], ◌∷◌, Result, Ok, Err}
use Rattle.stores.specs.declared.source.SourceFault.{SourceFault}

-- a name and the bytes that were put there
abbrev pub Putting : Type 0
Putting = List ℕ × List ℕ

-- what is kept of a call
abbrev pub puttings_of : List ℕ → List ℕ → Result Unit SourceFault → List Putting
puttings_of name bytes (Ok x) = (name, bytes) ∷ []
puttings_of name bytes (Err fault) = []
