-- Sums of positions: inventories that positions are added to, one after the other.
use Rattle.std.specs.Prelude.{ℕ, ◌^◌, Bool, true, ◌&&◌, nat_lt, List, [], ◌∷◌, map, ℤ, pos, ◌+ℤ◌}
use Rattle.std.specs.Prelude.{◌*ℤ◌, Option, Some, None}
use Rattle.std.specs.Int.RustNames.{unsigned_abs}
use Rattle.limits.specs.declared.counts.TheConstants.{COUNT_BOUND}
use Rattle.bean_lots.specs.Inventory.{added, count_of}
use Rattle.bean_lots.specs.declared.lot.Key.{Key}
use Rattle.bean_lots.specs.declared.lot.Lot.{Lot}
use Rattle.bean_lots.specs.declared.lot.Position.{Position}

-- a count that a number may have
abbrev pub is_count : ℤ → Bool
is_count n = nat_lt (unsigned_abs n) COUNT_BOUND

-- the inventory with these positions more
abbrev pub total_from : List Position → List Position → List Position
total_from es [] = es
total_from es (p ∷ ps) = total_from (added es p.key p.count) ps

-- no count is too large, of a position or of a sum on the way
abbrev pub adds_up : List Position → List Position → Bool
adds_up es [] = true
adds_up es (p ∷ ps) =
    is_count p.count && is_count (count_of es p.key +ℤ p.count)
    && adds_up (added es p.key p.count) ps

-- units of a currency without a lot
abbrev pub bare_key : List ℕ → Key
bare_key currency = record { currency = currency; lot = None }

abbrev pub bare : List ℕ → ℤ → Position
bare currency n = record { key = bare_key currency; count = n }

-- the currency of a position's cost; without a lot, its own
abbrev pub cost_currency : Key → List ℕ
cost_currency k = by_lot k.lot
  where
    by_lot : Option Lot → List ℕ
    by_lot None = k.currency
    by_lot (Some lot) = lot.cost.currency

-- what so many units cost, with 8 decimals more; without a lot, the units themselves
abbrev pub cost_count : Option Lot → ℤ → ℤ
cost_count None n = n *ℤ pos (10 ^ 8)
cost_count (Some lot) n = n *ℤ lot.cost.count

abbrev pub without_lot : Position → Position
without_lot p = bare p.key.currency p.count

abbrev pub at_cost : Position → Position
at_cost p = bare (cost_currency p.key) (cost_count p.key.lot p.count)

-- without its lots: the counts of a currency are one
abbrev pub units_total : List Position → List Position
units_total es = total_from [] (map without_lot es)

-- at cost: the counts of a cost's currency are one
abbrev pub cost_total : List Position → List Position
cost_total es = total_from [] (map at_cost es)
