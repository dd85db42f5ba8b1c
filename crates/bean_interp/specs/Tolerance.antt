-- How far from 0 a transaction's weights may be.
use Rattle.std.specs.Prelude.{◌*◌, ◌-◌, ◌^◌, ◌≤◌, ℕ, Option, Some, None, List, [], ◌∷◌, ◌&&◌, min}
use Rattle.std.specs.Prelude.{nat_lt, if◌then◌else◌}
use Rattle.std.specs.List.{AllByRecursion}
use Rattle.std.specs.Str.{bytes_eq}
use Rattle.bean_interp.specs.declared.leg.Leg.{Leg}
use Rattle.bean_interp.specs.declared.leg.Leg.TheVariants.{Whole, MissingNumber, MissingAmount}

abbrev pub lesser : ℕ → Option ℕ → ℕ
lesser d None = d
lesser d (Some e) = min e d

-- the lesser of what it was and the decimals that a leg has for its units in the currency, if any
abbrev pub with_written : Leg → List ℕ → Option ℕ → Option ℕ
with_written (Whole w) c least = if nat_lt 0 w.decimals && bytes_eq w.units.currency c then
    Some (lesser w.decimals least) else least
with_written (MissingNumber m) c least = least
with_written MissingAmount c least = least

-- The precision of a currency: the least positive count of decimals among the numbers written for
-- units in it, if there is one.
abbrev pub precision : List Leg → List ℕ → Option ℕ
precision [] c = None
precision (leg ∷ legs) c = with_written leg c (precision legs c)

-- half a unit of the last decimal, in counts of 10^-16; nothing without decimals
abbrev pub half_unit : Option ℕ → ℕ
half_unit None = 0
half_unit (Some d) = 5 * 10 ^ (15 - d)

abbrev pub tolerance : List Leg → List ℕ → ℕ
tolerance legs c = half_unit (precision legs c)

-- no count of decimals is above 8
abbrev pub AreFew : List (List ℕ × ℕ) → Type 0
AreFew es = AllByRecursion (λ e. e.1 ≤ 8) es
