use Rattle.std.proofs.Common.{◌≡◌, ◌++◌, take}
use Rattle.std.specs.List.{flat_map}
use Rattle.bean_pad.specs.Standing.{faults_of_pad}
use Rattle.bean_pad.proofs.check.add_faults.Given as goal

abbrev pub invariant-loop-pad : goal.invariant-loop-pad
invariant-loop-pad l =
    l.faults.items ≡ l.initial.faults.items ++ flat_map faults_of_pad (take l.pad-index l.pads)
