-- The number that is due where a sum of weights isn't 0.
use Rattle.std.specs.Prelude.{◌≡◌, ◌-◌, ◌*ℤ◌, ◌^◌, ℕ, ℤ, pos, neg_ℤ, Option, Some, None, Result, Ok}
use Rattle.std.specs.Prelude.{Err}
use Rattle.bean_base.specs.Decimal.{rounded}
use Rattle.bean_base.specs.declared.num.Num.{Num}
use Rattle.bean_base.specs.Counts.{at_16}
use Rattle.bean_interp.specs.declared.weight.TooWide.{TooWide}

-- a count of 10^-16 rounded to so many decimals
abbrev pub rounded_at : ℕ → ℤ → ℤ
rounded_at d count = rounded count (10 ^ (16 - d)) *ℤ pos (10 ^ (16 - d))

-- In counts of 10^-16: minus the residual, rounded to the currency's decimals, exact where it has
-- none.
abbrev pub due : Option ℕ → ℤ → ℤ
due None r = neg_ℤ r
due (Some d) r = rounded_at d (neg_ℤ r)

-- how many decimals the number has
abbrev pub decimals_due : Option ℕ → ℕ
decimals_due None = 8
decimals_due (Some d) = d

-- so many counts of 10^-16, with these decimals
abbrev pub IsAt : ℕ → ℤ → Num → Type 0
IsAt decimals count n = (at_16 n ≡ count) × (n.places ≡ decimals)

-- no number of a ledger is so many counts of 10^-16
abbrev pub HasNone : ℤ → Type 0
HasNone count = (n : Num) → ¬ (at_16 n ≡ count)

-- so many counts of 10^-16 as a number with these decimals; no number of a ledger where it is too
-- wide
abbrev pub GivesAt : ℕ → ℤ → Result Num TooWide → Type 0
GivesAt decimals count (Ok n) = IsAt decimals count n
GivesAt decimals count (Err e) = HasNone count

abbrev pub GivesDue : Option ℕ → ℤ → Result Num TooWide → Type 0
GivesDue precision r result = GivesAt (decimals_due precision) (due precision r) result

abbrev pub IsDue : Option ℕ → ℤ → Num → Type 0
IsDue precision r n = IsAt (decimals_due precision) (due precision r) n

abbrev pub HasNoDue : Option ℕ → ℤ → Type 0
HasNoDue precision r = HasNone (due precision r)
