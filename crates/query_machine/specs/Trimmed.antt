-- Runs that let go of rows that can't come out any more.
use Rattle.std.specs.Prelude.{◌≡◌, ℕ, ◌+◌, List, [], length}
use Rattle.final_rows.specs.Enough.{AreEnough}
use Rattle.plain_machine.specs.PlainMachine.{Kept, Stand, InFilter, InRow, InLast, Done, Fault}
use Rattle.query_code.specs.declared.program.Parts.{Parts}
use Rattle.query_runs.specs.Stands.{Gathered}
use Rattle.query_values.specs.declared.value.Value.{Value}

-- the rows that were given so far
abbrev pub rows_given : Stand Gathered → List (List Value)
rows_given (InFilter r rest k q s) = k.rows
rows_given (InRow r rest k q s) = k.rows
rows_given (InLast g rest rows q s) = rows
rows_given (Done rows) = rows
rows_given Fault = []

abbrev pub having : List (List Value) → Kept Gathered → Kept Gathered
having rows k = record { running = k.running; groups = k.groups; rows = rows }

-- the same with other rows
abbrev pub with_rows : List (List Value) → Stand Gathered → Stand Gathered
with_rows rows (InFilter r rest k q s) = InFilter r rest (having rows k) q s
with_rows rows (InRow r rest k q s) = InRow r rest (having rows k) q s
with_rows rows (InLast g rest out q s) = InLast g rest rows q s
with_rows rows (Done out) = Done rows
with_rows rows Fault = Fault

-- It stands where the other does, with rows that are enough of those that the other has, and so many
-- fewer.
pub record IsTrimmed (p : Parts) (dropped : ℕ) (kept all : Stand Gathered) : Type 0 where
  pub rows : List (List Value)
  pub is : kept ≡ with_rows rows all
  pub enough : AreEnough p.output rows (rows_given all)
  pub count : dropped + length rows ≡ length (rows_given all)
