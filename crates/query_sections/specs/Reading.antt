-- What the instructions of a section read.
use Rattle.std.specs.Prelude.{◌≡◌, true, option_map, List, [], Some, None}
use Rattle.std.specs.List.{list_all}
use Rattle.limits.specs.declared.bounds.Version.{Version}
use Rattle.plain_machine.specs.Loading.{Loads, value_acts}
use Rattle.plain_machine.specs.Pool.{members_in}
use Rattle.plain_machine.specs.SectionRun.{Acts}
use Rattle.posting_table.specs.Rows.{row_of}
use Rattle.query_code.specs.declared.program.Constant.{Constant}
use Rattle.query_code.specs.declared.instruction.Push as push_type
use Rattle.query_code.specs.declared.instruction.Push.TheVariants as push
use Rattle.query_sections.specs.declared.loads.Loads as loads
use Rattle.query_sections.specs.declared.loads.Running.{Running}
use Rattle.query_sections.specs.declared.loads.Running.TheVariants.{Compared, Listed}
use Rattle.query_sections.specs.declared.loads.Source.{Source}
use Rattle.query_sections.specs.declared.loads.Source.TheVariants.{Posting, Group}
use Rattle.query_values.specs.Operand.{are_alike}
use Rattle.query_values.specs.declared.value.Value.{Value}

-- the running inventory, whatever becomes of its copies
abbrev pub running_in : Running → Value
running_in (Compared running) = running.now
running_in (Listed running) = running.now

abbrev pub loads_at : Version → Source → Loads
loads_at v (Posting row running) = record {
  schema = v;
  row = Some (row_of row.now);
  balance = option_map running_in running;
  keys = [];
  aggregates = [];
}
loads_at v (Group keys aggregates) = record {
  schema = v;
  row = None;
  balance = None;
  keys = keys.now;
  aggregates = aggregates.now;
}

abbrev pub loads_of : loads.Loads → Loads
loads_of l = loads_at l.schema l.source

abbrev pub acts_of : List Constant → loads.Loads → Acts Value
acts_of pool l = value_acts pool (loads_of l)

-- a value may be looked for in a list of the pool
abbrev pub MayBeIn : Constant → Value → Type 0
MayBeIn list x = option_map (λ ys. list_all (are_alike x) ys) (members_in list) ≡ Some true

-- what few instructions load: neither a column nor a constant
abbrev pub IsOther : push_type.Push → Type 0
IsOther push.True = ⊥
IsOther push.False = ⊥
IsOther (push.Const c) = ⊥
IsOther (push.LoadColumn c) = ⊥
IsOther p = Unit {0}
