-- The definitions at worked values.
use Rattle.std.proofs.Common.{◌≡◌, ◌<◌, ◌≤◌, ◌^◌, ℕ, ℤ, pos, negsuc, List, [], ◌∷◌, Some, None}
use Rattle.std.proofs.Common.{codes, refl, arith}
use Rattle.bean_base.proofs.WorkedDays.{january_2, january_3, january_2_number}
use Rattle.bean_base.specs.declared.days.Day.{Day}
use Rattle.bean_lots.specs.declared.lot.Cost.{Cost}
use Rattle.bean_lots.specs.declared.lot.Lot.{Lot}
use Rattle.bean_lots.specs.declared.lot.Key.{Key}
use Rattle.bean_lots.specs.declared.lot.Position.{Position}
use Rattle.bean_lots.specs.Inventory.{count_of, added}

-- costs in USD
pub small : (count : ℕ) → count ≤ 120 → count < 10 ^ 20
small count few = omega (arith, few)

abbrev pub usd : (count : ℕ) → count ≤ 120 → Cost
usd count few = record { count = pos count; currency = codes "USD"; small = small count few }

few_90 : 90 ≤ 120
few_90 = omega arith

pub few_100 : 100 ≤ 120
few_100 = omega arith

pub few_110 : 110 ≤ 120
few_110 = omega arith

abbrev pub lot : Cost → Day → Lot
lot cost day = record { cost = cost; day = day; label = None }

abbrev pub held_as : Lot → Key
held_as l = record { currency = codes "HOOL"; lot = Some l }

abbrev pub first : Lot
first = lot (usd 100 few_100) january_2

abbrev pub second : Lot
second = lot (usd 110 few_110) january_3

abbrev pub both : List Position
both = added (added [] (held_as first) (pos 10)) (held_as second) (pos 5)

abbrev position : Lot → ℤ → Position
position l count = record { key = held_as l; count = count }

-- entries
new_keys_last : both ≡ position first (pos 10) ∷ position second (pos 5) ∷ []
new_keys_last = refl

keeps_its_place :
    added both (held_as first) (pos 1) ≡ position first (pos 11) ∷ position second (pos 5) ∷ []
keeps_its_place = rw january_2_number refl

goes_at_zero : added both (held_as first) (negsuc 9) ≡ position second (pos 5) ∷ []
goes_at_zero = rw january_2_number refl

comes_back_last :
    added (added both (held_as first) (negsuc 9)) (held_as first) (pos 10)
    ≡ position second (pos 5) ∷ position first (pos 10) ∷ []
comes_back_last = rw january_2_number refl

absent : count_of both (held_as (lot (usd 90 few_90) january_2)) ≡ pos 0
absent = refl
