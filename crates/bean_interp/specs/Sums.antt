-- Sums of weights as a table.
use Rattle.std.specs.Prelude.{◌+ℤ◌, ◌<◌, ◌^◌, ℕ, Bool, ℤ, pos, List, map, unwrap_or}
use Rattle.std.specs.Int.RustNames.{unsigned_abs}
use Rattle.indexmap.specs.IndexMap.{insert_entry}
use Rattle.std.specs.List.{AllByRecursion}
use Rattle.std.specs.Map.{lookup}
use Rattle.std.specs.Ordering.{int_eq}
use Rattle.std.specs.Str.{bytes_eq}
use Rattle.bean_interp.specs.Residual.{IsLight, Weighed, sum_in, currencies}
use Rattle.bean_interp.specs.Weight.{currency_of, weight_of}
use Rattle.bean_interp.specs.declared.leg.Leg.{Leg}
use Rattle.bean_interp.specs.declared.leg.Leg.TheVariants.{Whole, MissingNumber, MissingAmount}
use Rattle.bean_interp.specs.declared.weight.Weight.{Weight}

-- each currency once, with the sum of its weights, in order of first appearance
abbrev pub table : List Weighed → List Weighed
table ws = map (λ c. (c, sum_in ws c)) (currencies ws)

-- what a table has of a currency: 0 where it has none
abbrev pub entry_of : List Weighed → List ℕ → ℤ
entry_of es c = unwrap_or (lookup (bytes_eq c) es) (pos 0)

-- with so much more of a currency, which goes last where it is new
abbrev pub added : List Weighed → List ℕ → ℤ → List Weighed
added es c n = insert_entry bytes_eq es c (entry_of es c +ℤ n)

-- the sum that a weight more would come to
abbrev pub sum_with : List Weighed → Weight → ℤ
sum_with es w = entry_of es w.currency +ℤ w.count

abbrev pub is_zero : Weighed → Bool
is_zero e = int_eq e.1 (pos 0)

abbrev pub IsNarrow : ℤ → Type 0
IsNarrow n = unsigned_abs n < 10 ^ 38

abbrev pub AreNarrow : List Weighed → Type 0
AreNarrow es = AllByRecursion (λ e. IsNarrow e.1) es

-- with what a leg weighs
abbrev pub with_leg : List Weighed → Leg → List Weighed
with_leg es (Whole w) = added es (currency_of w.units w.worth) (weight_of w)
with_leg es (MissingNumber c) = es
with_leg es MissingAmount = es

-- the leg is light, and the sum with it is narrow
abbrev pub Fits : List Weighed → Leg → Type 0
Fits es (Whole w) =
    IsLight (Whole w) × IsNarrow (entry_of es (currency_of w.units w.worth) +ℤ weight_of w)
Fits es (MissingNumber c) = Unit {0}
Fits es MissingAmount = Unit {0}
