-- What is known of all slots of an inventory.
use Rattle.std.specs.Prelude.{◌≡◌, ◌≤ℤ◌, ℕ, ℤ, true, List, [], ◌∷◌}
use Rattle.std.specs.Prelude.{Option, Some, None}
use Rattle.std.specs.List.{AllByRecursion}
use Rattle.bean_base.specs.Day.{number}
use Rattle.bean_base.specs.declared.days.Day.{Day}
use Rattle.bean_lots.specs.Inventory.{long_lot, short_lot}
use Rattle.bean_lots.specs.Slots.{AreHoles, in_all, positions}
use Rattle.bean_lots.specs.declared.lot.Cost.{Cost}
use Rattle.bean_lots.specs.declared.lot.Key.{Key}
use Rattle.bean_lots.specs.declared.lot.Lot.{Lot}
use Rattle.bean_lots.specs.declared.lot.Position.{Position}
use Rattle.bean_inventories.specs.Days.{IsNotBefore}
use Rattle.bean_inventories.specs.Known.{signs_of}
use Rattle.bean_inventories.specs.Table.{AreTold}
use Rattle.bean_inventories.specs.declared.inventory.days.Days.{Days}
use Rattle.bean_inventories.specs.declared.inventory.slots.Slots.{Slots}

abbrev pub held : Slots → List Position
held s = positions s.counts

-- the key of a lot of that currency, cost and day, without a label
abbrev pub key_on : List ℕ → Cost → Day → Key
key_on currency cost day =
    record { currency = currency; lot = Some (record { cost = cost; day = day; label = None }) }

-- the key of a lot of that currency, cost and day, with a label
abbrev pub key_of : List ℕ → Cost → Day → List ℕ → Key
key_of currency cost day label =
    record {
      currency = currency;
      lot = Some (record { cost = cost; day = day; label = Some label });
    }

-- a lot is of that day or an earlier one
abbrev pub IsBy : ℤ → Option Lot → Type 0
IsBy day None = Unit {0}
IsBy day (Some lot) = number lot.day ≤ℤ day

abbrev pub AreBy : ℤ → List (Key × ℤ) → Type 0
AreBy day es = AllByRecursion {X = Key × ℤ} (λ e. IsBy day e.0.lot) es

-- the days of the lots never go down
abbrev pub AreInOrder : List (Key × ℤ) → Type 0
AreInOrder [] = Unit {0}
AreInOrder (e ∷ es) =
    AllByRecursion {X = Key × ℤ} (λ f. IsNotBefore e.0.lot f.0.lot) es × AreInOrder es

abbrev pub AreDays : Days → List (Key × ℤ) → Type 0
AreDays d es = d.in_order ≡ true → AreInOrder es × AreBy d.latest es

-- the lots of each currency and sign are counted, slots below the first are empty, and where lots are said to be
-- in order they are; what is told of lots holds
pub record IsKept (s : Slots) : Type 0 where
  pub holes : AreHoles s.first s.counts
  pub long : (c : List ℕ) → (signs_of s.lots c).long ≡ in_all (long_lot c) s.counts
  pub short : (c : List ℕ) → (signs_of s.lots c).short ≡ in_all (short_lot c) s.counts
  pub days : AreDays s.days s.counts
  pub told : AreTold (s.lots.told) s.counts
