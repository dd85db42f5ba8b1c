-- Programs that read the running inventory, and runs that keep it only for these.
use Rattle.std.specs.Prelude.{◌≡◌, ℕ, Bool, true, false, List, [], Option, Some, if◌then◌else◌}
use Rattle.std.specs.List.{list_any}
use Rattle.query_values.specs.Aggregate.{aggregate_of}
use Rattle.query_values.specs.declared.operation.Aggregate.{Aggregate}
use Rattle.query_values.specs.declared.operation.Aggregate.TheVariants.{SumInventory}
use Rattle.query_values.specs.declared.value.Value.{Value}
use Rattle.query_terms.specs.Column.{numbered}
use Rattle.query_rows.specs.Row.{Row}
use Rattle.query_terms.specs.declared.column.Column.{Column}
use Rattle.query_terms.specs.declared.column.Column.TheVariants.{Balance}
use Rattle.query_code.specs.declared.instruction.Instruction.{Instruction}
use Rattle.query_code.specs.declared.instruction.Instruction.TheVariants.{Push}
use Rattle.query_code.specs.declared.instruction.Push.TheVariants.{LoadColumn}
use Rattle.query_code.specs.declared.program.Parts.{Parts}
use Rattle.plain_machine.specs.Alike.{stand_as}
use Rattle.plain_machine.specs.Answer.{NeverFaults}
use Rattle.plain_machine.specs.Gathering.{Keeping, aggregates_over, running_values, running_with}
use Rattle.plain_machine.specs.PlainMachine.{Kept, Stand, InFilter, InRow, InLast, Done, Fault}
use Rattle.plain_machine.specs.PlainMachine.{after, stand_after}

abbrev pub is_balance : Option Column → Bool
is_balance (Some Balance) = true
is_balance c = false

-- it loads the running inventory, which no other section than that of a row can
abbrev pub loads_running : Instruction → Bool
loads_running (Push (LoadColumn n)) = is_balance (numbered n)
loads_running i = false

abbrev pub reads_running : Parts → Bool
reads_running p = list_any loads_running p.code.row

-- what is gathered so far; where the running inventory isn't read, it stays what it was
abbrev pub values_read : Bool → List Aggregate → Keeping (List Value)
values_read is_read aggregates = record {
  start = (running_values aggregates).start;
  add = (running_values aggregates).add;
  values = (running_values aggregates).values;
  running_on = λ running r. if is_read then running_with running r else Some running;
}

-- the running inventory, or nothing in it where it isn't read
abbrev pub running_read : Bool → Value → Value
running_read true running = running
running_read false running = aggregate_of (SumInventory 8) []

module _ {X : Type 0} (is_read : Bool) where
  abbrev pub kept_read : Kept X → Kept X
  kept_read k =
      record { running = running_read is_read k.running; groups = k.groups; rows = k.rows }

  abbrev pub stand_read : Stand X → Stand X
  stand_read (InFilter r rest k q s) = InFilter r rest (kept_read k) q s
  stand_read (InRow r rest k q s) = InRow r rest (kept_read k) q s
  stand_read (InLast g rest rows q s) = InLast g rest rows q s
  stand_read (Done rows) = Done rows
  stand_read Fault = Fault

-- After each step, where none is a fault, the machine that keeps all inputs and the one that keeps
-- what is gathered so far, and the running inventory only where the program reads it, stand alike.
abbrev pub ReadersStandAlike : Type 0
ReadersStandAlike =
    (p : Parts) (rows : List Row) → NeverFaults p rows → (n : ℕ)
    → stand_read (reads_running p) (stand_as (aggregates_over p.code.aggregates) (stand_after p rows n))
    ≡ after (values_read (reads_running p) p.code.aggregates) p rows n
