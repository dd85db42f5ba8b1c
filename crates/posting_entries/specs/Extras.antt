-- What few transactions have, and what all have instead.
use Rattle.std.specs.Prelude.{ℕ, List, [], Option, Some, None}
use Rattle.posting_entries.specs.declared.extras.Extras.{Extras}
use Rattle.posting_entries.specs.declared.extras.Texts.{Texts}

-- nothing of it
abbrev pub no_extras : Extras
no_extras = record { texts = None; tags = []; links = []; metadata = [] }

-- the payee and the narration, which are slices where no texts are kept beside them

abbrev pub payee_in : Option (List ℕ) → Option Texts → Option (List ℕ)
payee_in slice None = slice
payee_in slice (Some texts) = texts.payee

abbrev pub narration_in : List ℕ → Option Texts → List ℕ
narration_in slice None = slice
narration_in slice (Some texts) = texts.narration
