-- What is told of lots by their costs and by their labels.
use Rattle.std.specs.Prelude.{ℤ, List, Option, Some, None, Box}
use Rattle.std.specs.declared.alloc.Global.{Global}
use Rattle.std.specs.List.{AllByRecursion}
use Rattle.bean_inventories.specs.Costs.{IsAsTold, day_at}
use Rattle.bean_inventories.specs.Labels.{IsNamed}
use Rattle.bean_inventories.specs.declared.inventory.table.LotTable.{LotTable}
use Rattle.bean_lots.specs.declared.lot.Key.{Key}
use Rattle.bean_lots.specs.declared.lot.Lot.{Lot}

abbrev pub IsLotNoted : LotTable → Lot → Type 0
IsLotNoted t lot = IsAsTold (day_at t.costs lot.cost.count) lot × IsNamed t.labels lot

abbrev pub IsNoted : LotTable → Option Lot → Type 0
IsNoted t None = Unit {0}
IsNoted t (Some lot) = IsLotNoted t lot

abbrev pub AreNoted : LotTable → List (Key × ℤ) → Type 0
AreNoted t es = AllByRecursion {X = Key × ℤ} (λ e. IsNoted t e.0.lot) es

-- where there is no table, nothing is told of any lot
abbrev pub IsTold : Option (Box LotTable Global) → Option Lot → Type 0
IsTold None lot = Unit {0}
IsTold (Some t) lot = IsNoted t.value lot

abbrev pub AreTold : Option (Box LotTable Global) → List (Key × ℤ) → Type 0
AreTold t es = AllByRecursion {X = Key × ℤ} (λ e. IsTold t e.0.lot) es
