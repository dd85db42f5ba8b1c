-- What an inventory amounts to: the sum of its counts, and over its lots that of counts times cost,
-- signs left off.
use Rattle.std.specs.Prelude.{ℕ, ◌+◌, ◌*◌, ℤ, List, [], ◌∷◌, Option, Some, None}
use Rattle.std.specs.Int.RustNames.{unsigned_abs}
use Rattle.bean_lots.specs.declared.lot.Lot.{Lot}
use Rattle.bean_lots.specs.declared.lot.Position.{Position}

-- what so many units cost; nothing without a lot
abbrev pub value_of : Option Lot → ℤ → ℕ
value_of None n = 0
value_of (Some lot) n = unsigned_abs n * unsigned_abs lot.cost.count

abbrev pub units_mass : List Position → ℕ
units_mass [] = 0
units_mass (e ∷ es) = unsigned_abs e.count + units_mass es

abbrev pub value_mass : List Position → ℕ
value_mass [] = 0
value_mass (e ∷ es) = value_of e.key.lot e.count + value_mass es
