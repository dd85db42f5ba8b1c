use Rattle.std.proofs.Common.{◌≡◌, ◌^◌, min, ◌-◌, ◌≤◌, length, take, drop}
use Rattle.std.specs.List.{list_all}
use Rattle.std.specs.Char.{is_ascii_digit}
use Rattle.bean_base.specs.Numeral.{count_of}
use Rattle.bean_base.proofs.num.with_decimals.Given as goal

abbrev pub invariant-loop-at : goal.invariant-loop-at
invariant-loop-at l = record {
  inside : l.at ≤ length l.bytes;
  rest : list_all is_ascii_digit (drop l.at l.bytes)
      ≡ list_all is_ascii_digit (drop l.fn.from l.bytes);
  counted : l.count ≡ min (10 ^ 18) (count_of (take l.at l.bytes));
}

abbrev pub decreases-loop-at : goal.decreases-loop-at
decreases-loop-at l = length l.bytes - l.at
