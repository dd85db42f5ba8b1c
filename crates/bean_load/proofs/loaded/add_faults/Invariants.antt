use Rattle.std.proofs.Common.{◌≡◌, ◌++◌, map, drop}
use Rattle.bean_load.specs.Loaded.{fault_in}
use Rattle.bean_load.proofs.loaded.add_faults.Given as goal

abbrev pub invariant-loop-fault : goal.invariant-loop-fault
invariant-loop-fault l =
    l.out.items ++ map (fault_in l.file) (drop l.fault-index l.faults)
    ≡ l.fn.out.items ++ map (fault_in l.file) l.faults
