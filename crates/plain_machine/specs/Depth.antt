-- How many values a run has on its stack.
use Rattle.std.specs.Prelude.{ℕ, ◌≤◌, List, [], length}
use Rattle.query_values.specs.declared.value.Value.{Value}
use Rattle.query_code.specs.declared.program.Parts.{Parts}
use Rattle.query_rows.specs.Row.{Row}
use Rattle.plain_machine.specs.Gathering.{Keeping, all_inputs}
use Rattle.plain_machine.specs.PlainMachine.{Stand, InFilter, InRow, InLast, Done, Fault}
use Rattle.plain_machine.specs.PlainMachine.{filter_acts, row_acts, last_acts, stand_after}
use Rattle.plain_machine.specs.SectionRun.{Outcome, Standing, Stopped, one_step}

-- what the next instruction comes to in its section, the end of the section included
abbrev pub outcome_of : {X : Type 0} → Keeping X → Parts → Stand X → Outcome
outcome_of keep p (InFilter r rest k q s) =
    one_step p.code.filter (filter_acts p r) (Standing q s)
outcome_of keep p (InRow r rest k q s) =
    one_step p.code.row (row_acts p k.running r) (Standing q s)
outcome_of keep p (InLast g rest rows q s) =
    one_step p.code.last (last_acts keep p g) (Standing q s)
outcome_of keep p (Done rows) = Stopped
outcome_of keep p Fault = Stopped

abbrev pub values_in : Outcome → List Value
values_in Stopped = []
values_in (Standing q s) = s.stack

-- behind each instruction that is run there are at most so many values on the stack
abbrev pub StaysWithin : Parts → List Row → ℕ → Type 0
StaysWithin p ledger depth =
    (n : ℕ)
    → length (values_in (outcome_of (all_inputs p.code.aggregates) p (stand_after p ledger n)))
    ≤ depth
