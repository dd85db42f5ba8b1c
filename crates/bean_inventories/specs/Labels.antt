-- Which lot has a label, as the program notes it.
use Rattle.std.specs.Prelude.{◌≡◌, ◌&&◌, ℕ, Bool, true, List, Option, Some, None}
use Rattle.indexmap.specs.IndexMap.{get}
use Rattle.bean_inventories.specs.Days.{has_day}
use Rattle.bean_inventories.specs.declared.inventory.labels.LabelLot.{LabelLot}
use Rattle.bean_inventories.specs.declared.inventory.labels.LabelLot.TheVariants.{At, Several}
use Rattle.bean_inventories.specs.declared.inventory.labels.LabelLots.{LabelLots}
use Rattle.bean_base.specs.declared.days.Day.{Day}
use Rattle.bean_lots.specs.Lot.{same_cost, same_text}
use Rattle.bean_lots.specs.declared.lot.Cost.{Cost}
use Rattle.bean_lots.specs.declared.lot.Lot.{Lot}

-- what is told of a label
abbrev pub lot_at : LabelLots → List ℕ → Option LabelLot
lot_at t label = get same_text t.by_label label

-- the lot was bought at that cost on that day
abbrev pub is_bought : Cost → Day → Lot → Bool
is_bought cost day lot = same_cost cost lot.cost && has_day (Some day) lot

-- something is told of a lot's label: that its lots were bought at one cost on one day, which then
-- holds of the lot, or that they were not
abbrev pub IsAsNamed : Option LabelLot → Lot → Type 0
IsAsNamed None lot = ⊥
IsAsNamed (Some (At cost day)) lot = is_bought cost day lot ≡ true
IsAsNamed (Some Several) lot = Unit {0}

abbrev pub IsNamedBy : LabelLots → Option (List ℕ) → Lot → Type 0
IsNamedBy t None lot = Unit {0}
IsNamedBy t (Some label) lot = IsAsNamed (lot_at t label) lot

-- something is told of the lot's label, where it has one
abbrev pub IsNamed : LabelLots → Lot → Type 0
IsNamed t lot = IsNamedBy t lot.label lot
