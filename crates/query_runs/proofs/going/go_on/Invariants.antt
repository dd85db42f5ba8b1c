use Rattle.std.proofs.Common.{◌≡◌, ◌≤◌, ◌-◌}
use Rattle.query_runs.specs.Stands.{rows_in, stand_of}
use Rattle.query_runs.specs.Turns.{GoesOn}
use Rattle.query_runs.proofs.going.go_on.Given as goal

abbrev pub invariant-loop-alloc : goal.invariant-loop-alloc
invariant-loop-alloc l = record {
  few : l.made ≤ l.most;
  goes : GoesOn l.input.parts.now l.made (stand_of (rows_in l.input) l.initial.run)
      (stand_of (rows_in l.input) l.run);
  finders : l.run.finders ≡ l.initial.run.finders;
  room : l.run.frame.stack.room ≡ l.initial.run.frame.stack.room;
}

abbrev pub decreases-loop-alloc : goal.decreases-loop-alloc
decreases-loop-alloc l = l.most - l.made
