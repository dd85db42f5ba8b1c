-- What is kept of a run between its turns.
use Rattle.std.specs.Prelude.{◌≡◌, ℕ, ◌<◌, ◌^◌, true, List, length, map}
use Rattle.plain_machine.specs.Answer.{NeverFaults}
use Rattle.plain_machine.specs.Pool.{pattern_in}
use Rattle.plain_machine.specs.WholeRun.{budget, is_going}
use Rattle.query_code.specs.declared.program.Parts.{Parts}
use Rattle.query_machine.specs.Run.{At, Ended, Failed, Place}
use Rattle.query_machine.specs.RunOf.{IsRunOf}
use Rattle.query_machine.specs.declared.progress.Progress.{Progress}
use Rattle.query_machine.specs.declared.progress.Progress.TheVariants as progress
use Rattle.query_machine.specs.declared.progress.Standing.{Standing}
use Rattle.query_machine.specs.Trimmed.{IsTrimmed}
use Rattle.query_rows.specs.Row.{Row}
use Rattle.query_runs.specs.Stands.{run_after, stand_of}
use Rattle.query_runs.specs.Turns.{IsSafe}

abbrev pub place_of : Progress → Place
place_of (progress.Standing s) = At s.steps
place_of (progress.Ended answer) = Ended answer
place_of progress.Failed = Failed

-- It stands where the machine does after its steps, each of which was made, but for the rows that it
-- let go of; whatever is still to come is no fault, nor is it one of the plain machine; and there are
-- fewer steps in all than are counted.
pub record IsUnderWay (p : Parts) (rows : List Row) (s : Standing) : Type 0 where
  pub safe : IsSafe p (run_after p rows 0) s.run.frame.stack.room
  pub never : NeverFaults p rows
  pub built : s.run.finders ≡ map pattern_in p.code.pool
  pub brief : budget p (length rows) (length rows) < 2 ^ 64
  pub stands : IsTrimmed p s.dropped (stand_of rows s.run) (run_after p rows s.steps)
  pub going : (k : ℕ) → k < s.steps → is_going (run_after p rows k) ≡ true

abbrev pub IsSound : Parts → List Row → Progress → Type 0
IsSound p rows (progress.Standing s) = IsUnderWay p rows s
IsSound p rows (progress.Ended answer) = IsRunOf p rows answer
IsSound p rows progress.Failed = Unit {0}
