-- A part of what is held that has all lots of a day.
use Rattle.std.specs.Prelude.{◌≡◌, ℤ, false, List, ◌++◌, Option, Some, None}
use Rattle.std.specs.declared.cmp.Ordering.{Ordering}
use Rattle.std.specs.declared.cmp.Ordering.TheVariants.{Equal}
use Rattle.std.specs.List.{AllByRecursion}
use Rattle.std.specs.Ordering.{int_cmp}
use Rattle.bean_base.specs.Day.{number}
use Rattle.bean_base.specs.declared.days.Day.{Day}
use Rattle.bean_inventories.specs.Days.{has_day}
use Rattle.bean_inventories.specs.Kept.{AreInOrder}
use Rattle.bean_lots.specs.declared.lot.Key.{Key}
use Rattle.bean_lots.specs.declared.lot.Lot.{Lot}
use Rattle.bean_lots.specs.declared.lot.Position.{Position}

-- how the day of a lot compares with a day
abbrev pub side_of : Day → Option Lot → Ordering
side_of day None = Equal
side_of day (Some lot) = int_cmp (number lot.day) (number day)

-- no lot of that day
abbrev pub IsOff : Option Day → Option Lot → Type 0
IsOff day None = Unit {0}
IsOff day (Some lot) = has_day day lot ≡ false

abbrev pub AreOff : Option Day → List Position → Type 0
AreOff day es = AllByRecursion {X = Position} (λ e. IsOff day e.key.lot) es

abbrev pub AreSlotsOff : Day → List (Key × ℤ) → Type 0
AreSlotsOff day es = AllByRecursion {X = Key × ℤ} (λ e. IsOff (Some day) e.0.lot) es

-- what stands before and behind the part has no lot of the day; where no day is given, nothing does
pub record HasAllOf (day : Option Day) (part es : List Position) : Type 0 where
  pub before : List Position
  pub behind : List Position
  pub all : es ≡ before ++ (part ++ behind)
  pub none_before : AreOff day before
  pub none_behind : AreOff day behind

-- the same of slots, and those of the part are in order
pub record HasAllSlots (day : Day) (part es : List (Key × ℤ)) : Type 0 where
  pub before : List (Key × ℤ)
  pub behind : List (Key × ℤ)
  pub all : es ≡ before ++ (part ++ behind)
  pub none_before : AreSlotsOff day before
  pub none_behind : AreSlotsOff day behind
  pub ordered : AreInOrder part
