use Rattle.std.proofs.Common.{◌≡◌, ◌+◌, ◌-◌, ◌≤◌, length, drop}
use Rattle.std.specs.List.{prefix_len}
use Rattle.byte_runs.proofs.end_of_run.Given as goal

abbrev pub invariant-loop-end : goal.invariant-loop-end
invariant-loop-end g l = record {
  inside : l.end ≤ length l.bytes;
  run : l.end + prefix_len g.C.ByteClass.holds (drop l.end l.bytes)
      ≡ l.fn.start + prefix_len g.C.ByteClass.holds (drop l.fn.start l.bytes);
}

abbrev pub decreases-loop-end : goal.decreases-loop-end
decreases-loop-end g l = length l.bytes - l.end

abbrev pub invariant-loop-end-2 : goal.invariant-loop-end-2
invariant-loop-end-2 g l = record {
  inside : l.end ≤ length l.bytes;
  run : l.end + prefix_len g.C.ByteClass.holds (drop l.end l.bytes)
      ≡ l.fn.start + prefix_len g.C.ByteClass.holds (drop l.fn.start l.bytes);
}

abbrev pub decreases-loop-end-2 : goal.decreases-loop-end-2
decreases-loop-end-2 g l = length l.bytes - l.end
