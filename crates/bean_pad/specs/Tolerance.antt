-- How far a balance may be off, in counts of 10^-8.
use Rattle.std.specs.Prelude.{ℤ, pos, neg_ℤ, ◌-◌, ◌^◌, ◌==◌, ◌||◌, Bool, Option, Some, None}
use Rattle.std.specs.Prelude.{if◌then◌else◌}
use Rattle.std.specs.Int.Signed.{lt_z}
use Rattle.bean_base.specs.declared.num.Num.{Num}
use Rattle.bean_base.specs.Counts.{at_8}
use Rattle.bean_directives.specs.declared.numbers.Balance.{Balance}

-- a unit in the number's last decimal; 0 where it is whole
abbrev pub last_unit : Num → ℤ
last_unit n = if n.places == 0 then pos 0 else pos (10 ^ (8 - n.places))

abbrev pub tolerance_by : Num → Option Num → ℤ
tolerance_by number None = last_unit number
tolerance_by number (Some tolerance) = at_8 tolerance

-- what is written for it, else a unit in the last decimal
abbrev pub tolerance_of : Balance → ℤ
tolerance_of b = tolerance_by b.number b.tolerance

-- more than the tolerance, above or below; as much as it is within
abbrev pub is_out : ℤ → ℤ → Bool
is_out difference tolerance = lt_z tolerance difference || lt_z tolerance (neg_ℤ difference)
