-- Runs that keep other things of their groups and stand alike.
use Rattle.std.specs.Prelude.{◌≡◌, ℕ, List, map}
use Rattle.query_code.specs.declared.program.Parts.{Parts}
use Rattle.plain_machine.specs.Gathering.{Group, all_inputs, running_values, aggregates_over}
use Rattle.plain_machine.specs.PlainMachine.{Kept, Stand, InFilter, InRow, InLast, Done, Fault}
use Rattle.plain_machine.specs.PlainMachine.{after}
use Rattle.query_rows.specs.Row.{Row}

module _ {X Y : Type 0} (f : X → Y) where
  -- what f makes of what each group keeps
  abbrev pub group_as : Group X → Group Y
  group_as g = (g.0, f g.1)

  abbrev pub kept_as : Kept X → Kept Y
  kept_as k = record { running = k.running; groups = map group_as k.groups; rows = k.rows }

  abbrev pub stand_as : Stand X → Stand Y
  stand_as (InFilter r rest k q s) = InFilter r rest (kept_as k) q s
  stand_as (InRow r rest k q s) = InRow r rest (kept_as k) q s
  stand_as (InLast g rest rows q s) = InLast (group_as g) (map group_as rest) rows q s
  stand_as (Done rows) = Done rows
  stand_as Fault = Fault

-- After each step the machine that keeps all inputs and the one that keeps what is gathered so far
-- stand alike: the second has the aggregates over the inputs of the first.
abbrev pub StandAlike : Type 0
StandAlike =
    (p : Parts) (rows : List Row) (n : ℕ)
    → stand_as (aggregates_over p.code.aggregates) (after (all_inputs p.code.aggregates) p rows n)
    ≡ after (running_values p.code.aggregates) p rows n
