use Rattle.std.proofs.Common.{◌≡◌, ◌≤◌, ◌-◌, length, drop, nat_eq}
use Rattle.std.specs.Cmp.Lexicographic.{pointwise}
use Rattle.byte_runs.proofs.are_same_from.Given as goal

abbrev pub invariant-loop-at : goal.invariant-loop-at
invariant-loop-at l = record {
  inside : l.at ≤ length l.front;
  same : pointwise nat_eq (drop l.at l.front) (drop l.at l.part)
      ≡ pointwise nat_eq (drop l.fn.start l.front) (drop l.fn.start l.part);
}

abbrev pub decreases-loop-at : goal.decreases-loop-at
decreases-loop-at l = length l.front - l.at
