-- Include lines, and the names that they ask for.
use Rattle.std.specs.Prelude.{◌≡◌, ℕ, ◌==◌, ◌||◌, Bool, false, List, [], ◌∷◌, ◌++◌, map}
use Rattle.std.specs.Prelude.{if◌then◌else◌}
use Rattle.bean_base.specs.Character.{slash}
use Rattle.bean_includes.specs.Includes.{AreIncludeLines}
use Rattle.bean_includes.specs.declared.includes.IncludeLine.{IncludeLine}

-- The line of an include, and the name that it asks for.
pub record Include : Type 0 where
  pub line : ℕ
  pub name : List ℕ

abbrev pub is_slash : ℕ → Bool
is_slash b = b == slash

abbrev pub has_slash : List ℕ → Bool
has_slash [] = false
has_slash (b ∷ bs) = is_slash b || has_slash bs

-- a name up to its last slash, with it; nothing of one without a slash
abbrev pub folder : List ℕ → List ℕ
folder [] = []
folder (b ∷ bs) = if has_slash (b ∷ bs) then b ∷ folder bs else []

abbrev pub is_rooted : List ℕ → Bool
is_rooted [] = false
is_rooted (b ∷ bs) = is_slash b

-- a name that begins with a slash is taken as it is, any other is joined to the folder of the
-- including text
abbrev pub joined : List ℕ → List ℕ → List ℕ
joined including name = if is_rooted name then name else folder including ++ name

abbrev pub include_of : List ℕ → IncludeLine → Include
include_of including line = record { line = line.line; name = joined including line.name }

-- what the include lines of a text of that name ask for, in order
abbrev pub AreIncludes : List ℕ → List ℕ → List Include → Type 0
AreIncludes name text found =
    (lines : List IncludeLine) × AreIncludeLines text lines × (found ≡ map (include_of name) lines)
