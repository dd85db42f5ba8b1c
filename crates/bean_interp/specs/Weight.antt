-- What a leg weighs.
use Rattle.std.specs.Prelude.{◌≡◌, ◌*ℤ◌, ◌≤◌, ◌^◌, ℕ, ℤ, pos, neg_ℤ, List, Result, Ok, Err}
use Rattle.std.specs.Prelude.{if◌then◌else◌}
use Rattle.std.specs.Int.RustNames.{unsigned_abs}
use Rattle.std.specs.Int.Signed.{lt_z}
use Rattle.bean_base.specs.Counts.{at_8, at_16}
use Rattle.bean_base.specs.declared.amounts.Amount.{Amount}
use Rattle.bean_interp.specs.declared.leg.Whole.{Whole}
use Rattle.bean_interp.specs.declared.leg.Worth.{Worth}
use Rattle.bean_interp.specs.declared.leg.Worth.TheVariants.{Units, Cost, PerUnit, Total}
use Rattle.bean_interp.specs.declared.weight.TooWide.{TooWide}
use Rattle.bean_interp.specs.declared.weight.Weight.{Weight}

-- the count with the sign of z, 0 for 0
abbrev pub with_sign_of : ℤ → ℤ → ℤ
with_sign_of z count = if lt_z z (pos 0) then neg_ℤ count else if lt_z (pos 0) z then count else
    pos 0

-- in counts of 10^-16: the cost goes before a price, and a total takes the sign of the units
abbrev pub count_of : Amount → Worth → ℤ
count_of units Units = at_16 units.number
count_of units (Cost cost) = at_8 units.number *ℤ cost.count
count_of units (PerUnit price) = at_8 units.number *ℤ at_8 price.number
count_of units (Total total) = with_sign_of units.number.count (at_16 total.number)

abbrev pub currency_of : Amount → Worth → List ℕ
currency_of units Units = units.currency
currency_of units (Cost cost) = cost.currency
currency_of units (PerUnit price) = price.currency
currency_of units (Total total) = total.currency

abbrev pub weight_of : Whole → ℤ
weight_of w = count_of w.units w.worth

-- these units, which are worth themselves
pub record IsOfUnits (units : Amount) (w : Whole) : Type 0 where
  pub units_are : w.units ≡ units
  pub worth_is : w.worth ≡ Units

-- the weight, or that it is too wide, exactly where it is
abbrev pub Weighs : Whole → Result Weight TooWide → Type 0
Weighs w (Ok weight) =
    (weight.count ≡ weight_of w) × (weight.currency ≡ currency_of w.units w.worth)
Weighs w (Err e) = 10 ^ 28 ≤ unsigned_abs (weight_of w)
