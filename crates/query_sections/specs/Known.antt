-- What is known of texts that were searched.
use Rattle.std.specs.Prelude.{◌≡◌, ℕ, Bool, List, Option, Some, None, option_map}
use Rattle.plain_machine.specs.SectionRun.{slot_at}
use Rattle.query_values.specs.Pattern.{is_found}
use Rattle.query_sections.specs.declared.known.Known.{Known}

-- whether the text has the pattern at a place of the pool, where there is one
abbrev pub found_in : List (Option (List ℕ)) → ℕ → List ℕ → Option Bool
found_in patterns k text = option_map (λ pattern. is_found pattern text) (slot_at patterns k)

abbrev pub is_of : ℕ → List ℕ → Bool → Known
is_of k text found = record { pattern = k; text = text; is_found = found }

abbrev pub IsNothing : List (Option Known) → Type 0
IsNothing known = (place : ℕ) → slot_at known place ≡ None

abbrev pub IsSo : List (Option (List ℕ)) → Known → Type 0
IsSo patterns one = found_in patterns one.pattern one.text ≡ Some one.is_found

-- all that is known is so
abbrev pub AreSo : List (Option (List ℕ)) → List (Option Known) → Type 0
AreSo patterns known =
    (place : ℕ) (one : Known) → slot_at known place ≡ Some one → IsSo patterns one
