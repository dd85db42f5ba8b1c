-- Rows by their numbers.
use Rattle.std.specs.Prelude.{ℕ, Bool, List, [], ◌∷◌, ◌++◌, length, map, take}
use Rattle.std.specs.Prelude.{Option, Some, None, if◌then◌else◌}
use Rattle.std.specs.List.{list_any, range_with_len}
use Rattle.query_answer.specs.Rows.{row_at}
use Rattle.query_rows.specs.Same.{same_values}
use Rattle.query_values.specs.declared.value.Value.{Value}

-- the numbers of all rows
abbrev pub numbers_of : List (List Value) → List ℕ
numbers_of rows = range_with_len 0 (length rows)

-- the rows of these numbers
abbrev pub rows_at : List (List Value) → List ℕ → List (List Value)
rows_at rows numbers = map (row_at rows) numbers

-- an order of rows, for their numbers
abbrev pub by_number : List (List Value) → (List Value → List Value → Bool) → ℕ → ℕ → Bool
by_number rows before m n = before (row_at rows m) (row_at rows n)

-- at most so many
abbrev pub numbers_limited : Option ℕ → List ℕ → List ℕ
numbers_limited None numbers = numbers
numbers_limited (Some most) numbers = take most numbers

-- with one behind the others, unless the values that it shows are there
abbrev pub numbers_with_new : List (List Value) → List Value → List ℕ → ℕ → List ℕ
numbers_with_new kept shown numbers n =
    if list_any (same_values shown) kept then numbers else numbers ++ n ∷ []
