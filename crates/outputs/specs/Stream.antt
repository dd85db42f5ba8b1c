-- What a standard stream answers.
use Rattle.std.specs.Prelude.{ℕ, ◌<◌, ⊤, List, length, Result, Ok, Err}
use Rattle.outputs.specs.declared.output.NotTaken.{NotTaken}

-- where it doesn't fail it takes at least one byte, if it was offered one
abbrev pub TakesSome : List ℕ → Result ℕ NotTaken → Type 0
TakesSome bytes (Ok n) = 0 < length bytes → 0 < n
TakesSome bytes (Err e) = ⊤
