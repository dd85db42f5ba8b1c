use Rattle.std.proofs.Common.{◌≡◌, ◌≤◌, ◌-◌, ◌&&◌, length, take, drop}
use Rattle.std.specs.Int.{is_in_range}
use Rattle.std.specs.List.{list_all}
use Rattle.number_texts.proofs.printable.is_printable.Given as goal

-- the last eight, and those that were looked at
abbrev pub invariant-loop-eight : goal.invariant-loop-eight
invariant-loop-eight l = record {
  within : l.at ≤ length l.bytes;
  seen : l.all
      ≡ (list_all (is_in_range 32 126) (drop (length l.bytes - 8) l.bytes)
      && list_all (is_in_range 32 126) (take l.at l.bytes));
}

abbrev pub decreases-loop-eight : goal.decreases-loop-eight
decreases-loop-eight l = length l.bytes - l.at
