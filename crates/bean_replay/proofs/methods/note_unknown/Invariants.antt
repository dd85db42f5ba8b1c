use Rattle.std.proofs.Common.{◌≡◌, take}
use Rattle.bean_accounts.specs.Log.{with_found}
use Rattle.bean_replay.specs.Method as spec
use Rattle.bean_replay.proofs.methods.note_unknown.Given as goal

abbrev pub invariant-loop-line : goal.invariant-loop-line
invariant-loop-line l =
    l.faults ≡ with_found (spec.unknown_in (take l.line-index l.lines)) l.initial.faults
