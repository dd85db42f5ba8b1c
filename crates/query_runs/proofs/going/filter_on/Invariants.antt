use Rattle.std.proofs.Common.{◌≡◌, ◌≤◌, ◌-◌}
use Rattle.query_runs.specs.Stands.{rows_in, stand_of}
use Rattle.query_runs.specs.Turns.{GoesOn}
use Rattle.query_runs.specs.declared.run.Stage.TheVariants as stage
use Rattle.query_runs.proofs.going.filter_on.Given as goal

abbrev pub invariant-loop-made : goal.invariant-loop-made
invariant-loop-made l = record {
  few : l.made ≤ l.most;
  stage : l.run.stage ≡ stage.Filter;
  goes : GoesOn l.input.parts.now l.made (stand_of (rows_in l.input) l.initial.run)
      (stand_of (rows_in l.input) l.run);
  finders : l.run.finders ≡ l.initial.run.finders;
  room : l.run.frame.stack.room ≡ l.initial.run.frame.stack.room;
}

abbrev pub decreases-loop-made : goal.decreases-loop-made
decreases-loop-made l = l.most - l.made
