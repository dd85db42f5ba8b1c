-- On which day the lots of a cost stand, as the program notes it.
use Rattle.std.specs.Prelude.{◌≡◌, ℤ, Option, Some, None}
use Rattle.std.specs.Ordering.{int_eq}
use Rattle.indexmap.specs.IndexMap.{get}
use Rattle.bean_inventories.specs.declared.inventory.costs.CostDays.{CostDays}
use Rattle.bean_inventories.specs.declared.inventory.costs.LotDay.{LotDay}
use Rattle.bean_inventories.specs.declared.inventory.costs.LotDay.TheVariants.{On, Several}
use Rattle.bean_lots.specs.declared.lot.Lot.{Lot}

-- what is told of the costs of a count
abbrev pub day_at : CostDays → ℤ → Option LotDay
day_at t n = get int_eq t.by_count n

-- something is told of a lot's cost: that its lots are of one day and have no label, which then
-- holds of the lot, or that they are not
abbrev pub IsAsTold : Option LotDay → Lot → Type 0
IsAsTold None lot = ⊥
IsAsTold (Some (On day)) lot = (lot.day ≡ day) × (lot.label ≡ None)
IsAsTold (Some Several) lot = Unit {0}
