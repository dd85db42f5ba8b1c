use Rattle.std.proofs.Common.{◌≡◌, ◌++◌, ◌≤◌, reverse, take}
use Rattle.bean_pad.specs.Checking.{Checks, HasRoom}
use Rattle.bean_pad.specs.Trail.{failing_on}
use Rattle.bean_pad.proofs.check.add_failing.Given as goal

abbrev pub invariant-loop-passed : goal.invariant-loop-passed
invariant-loop-passed l = record {
  checks : Checks l.pads (reverse (take l.passed-index l.trail)) l.checker;
  room : HasRoom l.pads l.checker;
  near : l.checker.pads ≤ l.passed-index;
  faults : l.faults.items
      ≡ l.initial.faults.items ++ failing_on l.pads (reverse (take l.passed-index l.trail));
}
