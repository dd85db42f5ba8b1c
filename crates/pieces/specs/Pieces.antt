-- A list in pieces.
use Rattle.std.specs.Prelude.{◌≡◌, ℕ, List, [], ◌∷◌, ◌++◌, length}
use Rattle.std.specs.List.{AllByRecursion}

-- the full pieces one behind the other, and the last
abbrev pub pieced : {X : Type 0} → List (List X) → List X → List X
pieced [] last = last
pieced (p ∷ ps) last = p ++ pieced ps last

-- each of them has so many items
abbrev pub AreFull : {X : Type 0} → ℕ → List (List X) → Type 0
AreFull n ps = AllByRecursion (λ p. length p ≡ n) ps
