-- Lists of values that are the same, and each once.
use Rattle.std.specs.Prelude.{Bool, List, [], ◌∷◌, ◌++◌, if◌then◌else◌}
use Rattle.std.specs.Cmp.{IsEquivalence}
use Rattle.std.specs.Cmp.Lexicographic.{pointwise}
use Rattle.std.specs.List.{list_any}
use Rattle.query_values.specs.Equality.{same}
use Rattle.query_values.specs.declared.value.Value.{Value}

-- as many, and each the same, null with null
abbrev pub same_values : List Value → List Value → Bool
same_values = pointwise same

-- behind the others, unless a same one is there
abbrev pub with_new : List (List Value) → List Value → List (List Value)
with_new kept xs = if list_any (same_values xs) kept then kept else kept ++ xs ∷ []

-- each of which no same one came before, in order of first appearance
abbrev pub each_once : List (List Value) → List (List Value) → List (List Value)
each_once kept [] = kept
each_once kept (xs ∷ others) = each_once (with_new kept xs) others

abbrev pub SamenessIsAnEquivalence : Type 0
SamenessIsAnEquivalence = IsEquivalence same_values
