use Rattle.std.proofs.Common.{◌≡◌, ◌^◌, min, ◌+◌, ◌-◌, ◌≤◌, length, take, drop}
use Rattle.std.specs.List.{before_first, position_or_len}
use Rattle.bean_base.specs.Numeral.{is_whole, is_point, count_of}
use Rattle.bean_base.proofs.NumeralFacts.{completes}
use Rattle.bean_base.proofs.num.whole_part.Given as goal

abbrev pub invariant-loop-at : goal.invariant-loop-at
invariant-loop-at l = record {
  inside : l.at ≤ length l.bytes;
  rest : completes l.after_digit (before_first is_point (drop l.at l.bytes))
      ≡ is_whole (before_first is_point l.bytes);
  place : l.at + position_or_len is_point (drop l.at l.bytes) ≡ position_or_len is_point l.bytes;
  counted : l.count ≡ min (10 ^ 18) (count_of (take l.at l.bytes));
}

abbrev pub decreases-loop-at : goal.decreases-loop-at
decreases-loop-at l = length l.bytes - l.at
