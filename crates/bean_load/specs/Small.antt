-- How large the texts of a ledger are.
use Rattle.std.specs.Prelude.{ℕ, ◌+◌, ◌≤◌, List, [], ◌∷◌, length}
use Rattle.std.specs.List.{AllByRecursion}
use Rattle.bean_load.specs.Texts.{File}
use Rattle.bean_loaded.specs.declared.loaded.TheConstants.{LARGEST_LEDGER}
use Rattle.bean_directives.specs.SmallPart.{IsShort}

-- how many bytes texts have
abbrev pub bytes_in : List File → ℕ
bytes_in [] = 0
bytes_in (f ∷ fs) = length f.text + bytes_in fs

-- no text has more bytes than one may have, nor have all of them more than all may have
pub record AreLimited (files : List File) : Type 0 where
  pub each : AllByRecursion (λ f. IsShort f.text) files
  pub all : bytes_in files ≤ LARGEST_LEDGER
