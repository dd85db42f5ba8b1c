-- Rows by their numbers.
use Rattle.std.specs.Prelude.{◌≢◌, ℕ, ◌-◌, ◌<◌, List, [], ◌∷◌, ◌++◌, drop, map, slice_index_or, slice_range, take}
use Rattle.std.specs.List.{AllByRecursion}
use Rattle.query_values.specs.declared.value.Value.{Value}
use Rattle.query_values.specs.declared.value.Value.TheVariants.{Null}

-- a row: none behind the last
abbrev pub row_at : List (List Value) → ℕ → List Value
row_at rows n = slice_index_or rows n []

-- numbers of rows of which there are so many, none of them twice
abbrev pub ArePicked : ℕ → List ℕ → Type 0
ArePicked count [] = Unit {0}
ArePicked count (n ∷ ns) = (n < count) × AllByRecursion (λ m. n ≢ m) ns × ArePicked count ns

-- as many nulls
abbrev pub nulls : List Value → List Value
nulls values = map (λ v. Null) values

-- the rows from one number up to another have nulls alone, the others are the same
abbrev pub given_up : ℕ → ℕ → List (List Value) → List (List Value)
given_up first end rows =
    take first rows ++ map nulls (slice_range rows first end)
    ++ drop (end - first) (drop first rows)
