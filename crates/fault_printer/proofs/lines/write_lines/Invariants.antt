use Rattle.std.proofs.Common.{take}
use Rattle.outputs.specs.Pieces.{Waits}
use Rattle.fault_printer.specs.Lines.{lines_of}
use Rattle.fault_printer.proofs.lines.write_lines.Given as goal

abbrev pub invariant-loop-fault : goal.invariant-loop-fault
invariant-loop-fault g l =
    Waits g.W.Output l.initial.out l.out l.pieces (lines_of l.files (take l.fault-index l.faults))
