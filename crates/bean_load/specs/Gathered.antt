-- What is known while texts are gathered, and what each step adds.
use Rattle.std.specs.Prelude.{ℕ, ◌+◌, ◌||◌, ◌==◌, Bool, true, false, if◌then◌else◌, List, [], ◌∷◌}
use Rattle.std.specs.Prelude.{◌++◌, length, nat_le, nat_lt}
use Rattle.std.specs.Str.{bytes_eq}
use Rattle.bean_base.specs.declared.fault.Fault.{Fault}
use Rattle.bean_base.specs.declared.fault.FaultKind.TheVariants.{IncludeFault}
use Rattle.bean_load.specs.Texts.{File, Texts}
use Rattle.limits.specs.declared.counts.TheConstants.{LARGEST_TEXT}
use Rattle.bean_loaded.specs.declared.loaded.TheConstants.{LARGEST_LEDGER}
use Rattle.bean_load.specs.declared.gathering.TheConstants.{MOST_NAMES}
use Rattle.bean_load.specs.declared.texts.Part.{Part}

-- The names that were asked for, how many bytes were read, and the texts so far.
pub record Gathered : Type 0 where
  pub asked : List (List ℕ)
  pub read : ℕ
  pub files : List File
  pub parts : List Part
  pub faults : List Fault

abbrev pub nothing : Gathered
nothing = record { asked = []; read = 0; files = []; parts = []; faults = [] }

abbrev pub texts_of : Gathered → Texts
texts_of s = record { files = s.files; parts = s.parts; faults = s.faults }

abbrev pub is_among : List ℕ → List (List ℕ) → Bool
is_among name [] = false
is_among name (known ∷ others) = if bytes_eq known name then true else is_among name others

abbrev pub was_asked : List ℕ → Gathered → Bool
was_asked name s = is_among name s.asked

-- no text may stand deeper, or no name more may be asked
abbrev pub is_full : ℕ → Gathered → Bool
is_full room s = (room == 0) || nat_le MOST_NAMES (length s.asked)

-- a text of n bytes is larger than a text may be, or than what is left of all
abbrev pub is_too_large : ℕ → Gathered → Bool
is_too_large n s = nat_lt LARGEST_TEXT n || nat_lt LARGEST_LEDGER (s.read + n)

abbrev pub with_asked : List ℕ → Gathered → Gathered
with_asked name s = record s { asked = s.asked ++ name ∷ [] }

-- n bytes were read
abbrev pub with_read : ℕ → Gathered → Gathered
with_read n s = record s { read = s.read + n }

-- a name was asked, and its bytes were read
abbrev pub with_bytes : List ℕ → List ℕ → Gathered → Gathered
with_bytes name bytes s = with_read (length bytes) (with_asked name s)

-- F22 at a line
abbrev pub with_fault : ℕ → ℕ → Gathered → Gathered
with_fault file line s =
    record s {
      faults = s.faults
          ++ record { kind = IncludeFault; place = record { file = file; line = line } } ∷ [];
    }

abbrev pub with_part : ℕ → ℕ → Gathered → Gathered
with_part file behind s =
    record s { parts = s.parts ++ record { file = file; behind = behind } ∷ [] }

-- a text is read from its begin on
abbrev pub with_file : List ℕ → List ℕ → Gathered → Gathered
with_file name text s =
    with_part (length s.files) 0
    (record s { files = s.files ++ record { name = name; text = text } ∷ [] })
