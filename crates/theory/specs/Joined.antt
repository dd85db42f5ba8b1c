-- Lists one behind the other, with a separator between each two.
use Rattle.std.specs.Prelude.{ℕ, List, [], ◌∷◌, ◌++◌, nat_lt, if◌then◌else◌}
use Rattle.std.specs.List.{flat_map}

abbrev pub joined : {A : Type 0} → List A → List (List A) → List A
joined separator [] = []
joined separator (x ∷ xs) = x ++ flat_map (λ y. separator ++ y) xs

-- what stands between the first lists and one behind them
abbrev pub gap_behind : {A : Type 0} → List A → List (List A) → List A
gap_behind separator [] = []
gap_behind separator (x ∷ xs) = separator

-- what stands before the list i
abbrev pub gap_before : {A : Type 0} → List A → ℕ → List A
gap_before separator i = if nat_lt 0 i then separator else []
