-- Where the plain machine stands when a run stands so.
use Rattle.std.specs.Prelude.{◌≡◌, ℕ, List, [], ◌∷◌, drop, map}
use Rattle.plain_machine.specs.Gathering.{Group, Keeping}
use Rattle.plain_machine.specs.PlainMachine.{Kept, Stand, InFilter, InRow, InLast, Done, Fault}
use Rattle.plain_machine.specs.PlainMachine.{after}
use Rattle.plain_machine.specs.Pool.{pattern_in}
use Rattle.plain_machine.specs.Reading.{reads_running, values_read}
use Rattle.posting_table.specs.Rows.{rows_of}
use Rattle.query_code.specs.declared.program.Parts.{Parts}
use Rattle.query_rows.specs.Row.{Row}
use Rattle.query_runs.specs.declared.run.Inputs.{Inputs}
use Rattle.query_runs.specs.declared.run.Run.{Run}
use Rattle.query_runs.specs.declared.run.Stage.{Stage}
use Rattle.query_runs.specs.declared.run.Stage.TheVariants as stage
use Rattle.query_sections.specs.Standing.{state_in}
use Rattle.query_values.specs.declared.value.Value.{Value}

-- groups keep what is gathered so far, and the running inventory is kept where the program reads it
abbrev pub Gathered : Type 0
Gathered = List Value

abbrev pub keeps : Parts → Keeping Gathered
keeps p = values_read (reads_running p) p.code.aggregates

abbrev pub rows_in : Inputs → List Row
rows_in i = rows_of i.ledger.now

abbrev pub kept_in : Run → Kept Gathered
kept_in r = record { running = r.running; groups = r.groups; rows = r.rows }

abbrev pub in_filter_at : List Row → Run → Stand Gathered
in_filter_at [] r = Fault
in_filter_at (x ∷ rest) r = InFilter x rest (kept_in r) r.frame.place (state_in r.frame)

abbrev pub in_row_at : List Row → Run → Stand Gathered
in_row_at [] r = Fault
in_row_at (x ∷ rest) r = InRow x rest (kept_in r) r.frame.place (state_in r.frame)

abbrev pub in_last_at : List (Group Gathered) → Run → Stand Gathered
in_last_at [] r = Fault
in_last_at (g ∷ rest) r = InLast g rest r.rows r.frame.place (state_in r.frame)

abbrev pub by_stage : Stage → List Row → Run → Stand Gathered
by_stage stage.Filter rows r = in_filter_at (drop r.row rows) r
by_stage stage.Row rows r = in_row_at (drop r.row rows) r
by_stage stage.Last rows r = in_last_at (drop r.group r.groups) r
by_stage stage.Done rows r = Done r.rows

abbrev pub stand_of : List Row → Run → Stand Gathered
stand_of rows r = by_stage r.stage rows r

-- where the machine stands after n steps
abbrev pub run_after : Parts → List Row → ℕ → Stand Gathered
run_after p rows n = after (keeps p) p rows n

-- a run's patterns are ready to be searched for, and its stack has room
pub record IsReady (p : Parts) (depth : ℕ) (r : Run) : Type 0 where
  pub built : r.finders ≡ map pattern_in p.code.pool
  pub room : r.frame.stack.room ≡ depth
