-- What turns of a run promise.
use Rattle.std.specs.Prelude.{◌≡◌, ◌≢◌, ◌<◌, ◌≤◌, ℕ, List, true, false, Bool, drop, length, ⊤}
use Rattle.plain_machine.specs.Depth.{outcome_of, values_in}
use Rattle.plain_machine.specs.PlainMachine.{Stand, InFilter, InRow, InLast, Done, Fault, steps}
use Rattle.plain_machine.specs.WholeRun.{is_going}
use Rattle.query_code.specs.declared.instruction.Instruction.{Instruction}
use Rattle.query_code.specs.declared.instruction.Instruction.TheVariants.{Push}
use Rattle.query_code.specs.declared.instruction.Push.TheVariants.{True}
use Rattle.query_code.specs.declared.program.Parts.{Parts}
use Rattle.query_rows.specs.Row.{Row}
use Rattle.query_runs.specs.Ends.{filter_ends}
use Rattle.query_runs.specs.Stands.{Gathered, keeps, kept_in, stand_of}
use Rattle.query_runs.specs.declared.run.Run.{Run}
use Rattle.query_runs.specs.declared.run.Stage.{Stage}
use Rattle.query_runs.specs.declared.run.Stage.TheVariants as stage

-- an instruction stands at the place
abbrev pub is_ready : Parts → Stand Gathered → Type 0
is_ready p (InFilter r rest k q s) = q < length p.code.filter
is_ready p (InRow r rest k q s) = q < length p.code.row
is_ready p (InLast g rest rows q s) = q < length p.code.last
is_ready p (Done rows) = ⊤
is_ready p Fault = ⊤

-- whatever is done from there, none of it is a fault, and the stack has room for it
pub record IsSafe (p : Parts) (s : Stand Gathered) (depth : ℕ) : Type 0 where
  pub ready : is_ready p s
  pub never_faults : (n : ℕ) → steps (keeps p) p n s ≢ Fault
  pub stays_within : (n : ℕ)
      → length (values_in (outcome_of (keeps p) p (steps (keeps p) p n s))) ≤ depth

abbrev pub is_at_end : Stage → Bool
is_at_end stage.Done = true
is_at_end s = false

-- from one stand to another in so many steps, each of them from before an instruction
pub record GoesOn (p : Parts) (made : ℕ) (old new : Stand Gathered) : Type 0 where
  pub comes : new ≡ steps (keeps p) p made old
  pub going : (k : ℕ) → k < made → is_going (steps (keeps p) p k old) ≡ true

-- the filter went on at one posting: what follows at its end, and where it stands before that
pub record FilterWent (p : Parts) (rows : List Row) (made : ℕ) (old : Stand Gathered) (new : Run)
    : Type 0 where
  pub ended : new.frame.place ≡ length p.code.filter
      → filter_ends p (drop new.row rows) (kept_in new) new.frame.stack.values
      ≡ steps (keeps p) p made old
  pub stands : new.frame.place ≢ length p.code.filter
      → stand_of rows new ≡ steps (keeps p) p made old
  pub going : (k : ℕ) → k < made → is_going (steps (keeps p) p k old) ≡ true

-- the instruction that is a filter by itself where all postings pass
abbrev pub true_load : Instruction
true_load = Push True
