-- Sets of texts.
use Rattle.std.specs.Prelude.{ℕ, List}
use Rattle.std.specs.Cmp.Lexicographic.{slice_cmp}
use Rattle.std.specs.Ordering.{nat_cmp}
use Rattle.theory.specs.Once.{once_in_order}

-- the texts in the order of their bytes, each once
abbrev pub set_of : List (List ℕ) → List (List ℕ)
set_of texts = once_in_order (slice_cmp nat_cmp) texts
