-- Counts that lie beside their keys.
use Rattle.std.specs.Prelude.{◌≡◌, ◌<◌, ◌≤◌, ◌^◌, ℤ, All, List, [], ◌∷◌, Option, Some, None, length}
use Rattle.std.specs.Int.RustNames.{unsigned_abs}
use Rattle.std.specs.Map.{keys_of}
use Rattle.bean_lots.specs.Inventory.{IsInventory, position_of}
use Rattle.bean_lots.specs.declared.lot.Key.{Key}
use Rattle.bean_lots.specs.declared.lot.Position.{Position}

-- what is held: a position for each key
abbrev pub held_in : List Key → List ℤ → List Position
held_in [] ns = []
held_in (k ∷ ks) [] = []
held_in (k ∷ ks) (n ∷ ns) = position_of k n ∷ held_in ks ns

-- it fits in 64 bits with either sign
abbrev pub MayTurn : ℤ → Type 0
MayTurn n = unsigned_abs n < 2 ^ 63

pub record IsKept (ks : List Key) (ns : List ℤ) : Type 0 where
  pub inventory : IsInventory (held_in ks ns)
  pub turn : All MayTurn ns
  pub few : length ks ≤ length ns

-- keys that are shared are those of the slots
abbrev pub AreKeys : Option (List Key) → List (Key × ℤ) → Type 0
AreKeys None es = Unit {0}
AreKeys (Some ks) es = ks ≡ keys_of es
