-- An inventory as it is kept: a slot for each key, with its count.
use Rattle.std.specs.Prelude.{◌≡◌, ◌+◌, ℕ, zero, suc, ℤ, pos, Bool, List, [], ◌∷◌}
use Rattle.std.specs.Prelude.{◌++◌, not}
use Rattle.std.specs.Ordering.{int_eq}
use Rattle.bean_lots.specs.Inventory.{held_as}
use Rattle.bean_lots.specs.declared.lot.Key.{Key}
use Rattle.bean_lots.specs.declared.lot.Position.{Position}

-- what is held in slots: nothing in one whose count is 0
abbrev pub positions : List (Key × ℤ) → List Position
positions [] = []
positions (e ∷ es) = held_as e.0 e.1 ++ positions es

abbrev pub is_full : Key × ℤ → Bool
is_full e = not (int_eq e.1 (pos 0))

-- the first n slots are empty
abbrev pub AreHoles : ℕ → List (Key × ℤ) → Type 0
AreHoles zero es = Unit {0}
AreHoles (suc n) [] = ⊥
AreHoles (suc n) (e ∷ es) = (e.1 ≡ pos 0) × AreHoles n es

-- so many of each slot together
abbrev pub in_all : (Key → ℤ → ℕ) → List (Key × ℤ) → ℕ
in_all f [] = 0
in_all f (e ∷ es) = f e.0 e.1 + in_all f es
