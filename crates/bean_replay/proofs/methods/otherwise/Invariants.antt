use Rattle.std.proofs.Common.{◌≡◌, drop, fold}
use Rattle.bean_replay.specs.Method as spec
use Rattle.bean_replay.proofs.methods.otherwise.Given as goal

abbrev pub invariant-loop-line : goal.invariant-loop-line
invariant-loop-line l =
    fold spec.behind l.method (drop l.line-index l.lines) ≡ spec.otherwise l.lines
