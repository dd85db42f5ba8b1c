use Rattle.std.proofs.Common.{◌≡◌, ◌≤◌, ◌+◌, ◌-◌}
use Rattle.query_runs.specs.Stands.{rows_in}
use Rattle.query_machine.specs.Progress.{IsUnderWay}
use Rattle.query_machine.proofs.advancing.advance.Given as goal

abbrev pub invariant-loop-made : goal.invariant-loop-made
invariant-loop-made l = record {
  few : l.made ≤ l.k;
  under_way : IsUnderWay l.input.parts.now (rows_in l.input) l.standing;
  steps : l.standing.steps ≡ l.initial.standing.steps + l.made;
}

abbrev pub decreases-loop-made : goal.decreases-loop-made
decreases-loop-made l = l.k - l.made
