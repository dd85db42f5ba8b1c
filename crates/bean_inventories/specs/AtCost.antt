-- The lots that were bought at a cost.
use Rattle.std.specs.Prelude.{◌&&◌, ℕ, Bool, false, List, Option, Some, None}
use Rattle.bean_lots.specs.Lot.{same_text, same_cost}
use Rattle.bean_lots.specs.declared.lot.Cost.{Cost}
use Rattle.bean_lots.specs.declared.lot.Lot.{Lot}
use Rattle.bean_lots.specs.declared.lot.Position.{Position}

abbrev pub is_at : Cost → Option Lot → Bool
is_at cost None = false
is_at cost (Some lot) = same_cost cost lot.cost

-- the position is a lot of that currency at that cost
abbrev pub is_lot_at : List ℕ → Cost → Position → Bool
is_lot_at currency cost e = same_text e.key.currency currency && is_at cost e.key.lot
