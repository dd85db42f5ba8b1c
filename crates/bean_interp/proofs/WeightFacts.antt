-- What units weigh that are worth themselves.
use Rattle.std.proofs.Common.{◌≡◌, ◌<◌, ◌^◌, ◌+ℤ◌, ◌∙◌, List, subst, sym}
use Rattle.std.specs.Int.RustNames.{unsigned_abs}
use Rattle.bean_base.specs.declared.amounts.Amount.{Amount}
use Rattle.bean_interp.specs.Residual.{Weighed}
use Rattle.bean_interp.specs.Sums.{Fits, IsNarrow, added, entry_of, sum_with, with_leg}
use Rattle.bean_base.specs.Counts.{at_16}
use Rattle.bean_interp.specs.Weight.{IsOfUnits, count_of, currency_of, weight_of}
use Rattle.bean_interp.specs.declared.leg.Leg.TheVariants as leg
use Rattle.bean_interp.specs.declared.leg.Whole.{Whole}
use Rattle.bean_interp.specs.declared.weight.Weight.{Weight}

module _ (es : List Weighed) (units : Amount) (w : Whole) (v : Weight) (of : IsOfUnits units w)
    (count : v.count ≡ at_16 units.number) (currency : v.currency ≡ units.currency) where
  count_is : v.count ≡ weight_of w
  count_is = count ∙ (λ i. count_of (sym of.units_are i) (sym of.worth_is i))

  currency_is : v.currency ≡ currency_of w.units w.worth
  currency_is = currency ∙ (λ i. currency_of (sym of.units_are i) (sym of.worth_is i))

  pub with_units : added es v.currency v.count ≡ with_leg es (leg.Whole w)
  with_units = λ i. added es (currency_is i) (count_is i)

  sum_is : sum_with es v ≡ entry_of es (currency_of w.units w.worth) +ℤ weight_of w
  sum_is = λ i. entry_of es (currency_is i) +ℤ count_is i

  pub fits_by_units : IsNarrow (sum_with es v) → Fits es (leg.Whole w)
  fits_by_units narrow = (
    subst (λ n. unsigned_abs n < 10 ^ 28) count_is v.bound,
    subst IsNarrow sum_is narrow,
  )

  pub narrow_by_units : Fits es (leg.Whole w) → IsNarrow (sum_with es v)
  narrow_by_units fits = subst IsNarrow (sym sum_is) fits.1
