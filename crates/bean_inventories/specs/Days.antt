-- The days of lots, and lots in the order of these.
use Rattle.std.specs.Prelude.{◌≤ℤ◌, Bool, true, List, [], ◌∷◌, Option, Some, None}
use Rattle.std.specs.List.{AllByRecursion}
use Rattle.std.specs.Ordering.{int_eq}
use Rattle.bean_base.specs.Day.{number}
use Rattle.bean_base.specs.declared.days.Day.{Day}
use Rattle.bean_lots.specs.declared.lot.Lot.{Lot}
use Rattle.bean_lots.specs.declared.lot.Position.{Position}

-- the lot is of that day, where one is given
abbrev pub has_day : Option Day → Lot → Bool
has_day None lot = true
has_day (Some day) lot = int_eq (number day) (number lot.day)

-- where both are lots, the second isn't of an earlier day
abbrev pub IsNotBefore : Option Lot → Option Lot → Type 0
IsNotBefore None b = Unit {0}
IsNotBefore (Some a) None = Unit {0}
IsNotBefore (Some a) (Some b) = number a.day ≤ℤ number b.day

-- the days of the lots never go down
abbrev pub RiseInDays : List Position → Type 0
RiseInDays [] = Unit {0}
RiseInDays (e ∷ es) =
    AllByRecursion {X = Position} (λ f. IsNotBefore e.key.lot f.key.lot) es × RiseInDays es
