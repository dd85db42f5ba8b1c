use Rattle.std.proofs.Common.{◌≡◌, length, take}
use Rattle.fault_printer.specs.Lines.{lines_of}
use Rattle.fault_printer.proofs.lines.lines_len.Given as goal

abbrev pub invariant-loop-fault : goal.invariant-loop-fault
invariant-loop-fault l = l.len ≡ length (lines_of l.files (take l.fault-index l.faults))
