use Rattle.std.proofs.Common.{◌≡◌, ◌+◌, ◌<◌, drop}
use Rattle.query_values.specs.Component.{end_after}
use Rattle.query_values.proofs.component.end_of.Given as goal

abbrev pub invariant-loop-i : goal.invariant-loop-i
invariant-loop-i l =
    (0 < l.left) × (l.i + end_after l.left (drop l.i l.name) ≡ end_after l.fn.components l.name)
