-- Numbers of a ledger as counts of one unit.
use Rattle.std.specs.Prelude.{ℤ}
use Rattle.bean_base.specs.Decimal.{scaled}
use Rattle.bean_base.specs.declared.num.Num.{Num}

-- a number as a count of 10^-8
abbrev pub at_8 : Num → ℤ
at_8 n = scaled n.count n.places 8

-- a number as a count of 10^-16
abbrev pub at_16 : Num → ℤ
at_16 n = scaled n.count n.places 16
