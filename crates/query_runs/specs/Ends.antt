-- What follows at the end of a section, where its posting or its group stands first.
use Rattle.std.specs.Prelude.{List, [], ◌∷◌, Some, true}
use Rattle.plain_machine.specs.Gathering.{Group}
use Rattle.plain_machine.specs.PlainMachine.{Kept, Stand, Fault, begin_row, end_filter, end_last}
use Rattle.plain_machine.specs.PlainMachine.{end_row, judged}
use Rattle.query_code.specs.declared.program.Parts.{Parts}
use Rattle.query_rows.specs.Row.{Row}
use Rattle.query_runs.specs.Stands.{Gathered, keeps}
use Rattle.query_values.specs.declared.value.Value.{Value}

abbrev pub filter_ends : Parts → List Row → Kept Gathered → List Value → Stand Gathered
filter_ends p [] k stack = Fault
filter_ends p (r ∷ rest) k stack = end_filter (keeps p) p r rest k stack

-- what follows at a posting that passes
abbrev pub passing : Parts → List Row → Kept Gathered → Stand Gathered
passing p [] k = Fault
passing p (r ∷ rest) k = judged (keeps p) p r rest k (Some true)

abbrev pub row_begins : Parts → List Row → Kept Gathered → Stand Gathered
row_begins p [] k = Fault
row_begins p (r ∷ rest) k = begin_row (keeps p) p r rest (Some k)

abbrev pub row_ends : Parts → List Row → Kept Gathered → List Value → Stand Gathered
row_ends p [] k stack = Fault
row_ends p (r ∷ rest) k stack = end_row (keeps p) p rest k stack

abbrev pub last_ends : Parts → List (Group Gathered) → List (List Value) → List Value
    → Stand Gathered
last_ends p [] rows stack = Fault
last_ends p (g ∷ rest) rows stack = end_last p rest rows stack
