-- The payee of a transaction, or none, in the room of a text.
use Rattle.std.specs.Prelude.{ℕ, ◌==◌, Bool, false, List, [], ◌∷◌, Option, Some, None, if◌then◌else◌}
use Rattle.bean_base.specs.Character.{quote}
use Rattle.bean_base.specs.Text.{read_text}

-- between quotes none stands without a backslash
abbrev pub is_quote : List ℕ → Bool
is_quote (b ∷ []) = b == quote
is_quote written = false

-- a quote alone is no payee
abbrev pub payee_in : List ℕ → Option (List ℕ)
payee_in written = if is_quote written then None else Some (read_text written)
