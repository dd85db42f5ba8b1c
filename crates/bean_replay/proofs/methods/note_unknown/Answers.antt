use Rattle.std.proofs.Common.{arith}
use Rattle.bean_replay.specs.Method as spec
use Rattle.bean_replay.proofs.StepFacts.{found_more}
use Rattle.bean_replay.proofs.methods.note_unknown.Goals as goal

pub loop-line-preserved : goal.loop-line-preserved
loop-line-preserved c =
    found_more spec.unknown_of c.args.lines.now c.loop-line.line-index c.line-item.result
    c.args.faults.now c.loop-line.faults c.note_line.new.faults (omega arith)
    c.line-item.is c.loop-line.invariant c.in_ok-note_line.ensures
