-- Keys with their places, in the order of keys.
use Rattle.std.specs.Prelude.{ℕ, suc, ℤ, pos, get_or, Bool, List, [], ◌∷◌}
use Rattle.theory.specs.Arrangement.{by_key, arranged_by}
use Rattle.bean_lots.specs.Inventory.{position_of}
use Rattle.bean_lots.specs.Lot.{key_order}
use Rattle.bean_lots.specs.declared.lot.Key.{Key}
use Rattle.bean_lots.specs.declared.lot.Position as entry
use Rattle.query_holdings.specs.declared.keys.Placed.{Placed}

-- keys that have the places from i on
abbrev pub placed_from : ℕ → List Key → List Placed
placed_from i [] = []
placed_from i (k ∷ ks) = record { key = k; place = i } ∷ placed_from (suc i) ks

abbrev pub is_before : Placed → Placed → Bool
is_before = by_key (λ p. p.key) key_order

abbrev pub in_key_order : List Placed → List Placed
in_key_order placed = arranged_by is_before placed

-- the position of a key whose count stands at its place
abbrev pub entry_in : List ℤ → Placed → entry.Position
entry_in ns p = position_of p.key (get_or ns p.place (pos 0))
