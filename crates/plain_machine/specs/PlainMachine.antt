-- The plain machine: a program over the rows of a ledger. One instruction is one step; what happens
-- at the end of a section belongs to the step that comes there.
use Rattle.std.specs.Prelude.{ℕ, zero, suc, ◌+◌, ◌==◌, Bool, true, false, List, [], ◌∷◌, ◌++◌}
use Rattle.std.specs.Prelude.{length, take, drop, reverse, Option, Some, None, option_map}
use Rattle.std.specs.Prelude.{if◌then◌else◌}
use Rattle.limits.specs.declared.bounds.Version.{Version}
use Rattle.query_values.specs.Aggregate.{aggregate_of}
use Rattle.query_values.specs.declared.operation.Aggregate.TheVariants.{SumInventory}
use Rattle.query_values.specs.declared.value.Value.{Value}
use Rattle.query_values.specs.declared.value.Value.TheVariants.{Null, Truth}
use Rattle.query_rows.specs.Row.{Row}
use Rattle.query_code.specs.QueryFile.{is_grouped}
use Rattle.query_code.specs.declared.program.Mode.{Mode}
use Rattle.query_code.specs.declared.program.Mode.TheVariants.{Plain, Grouped}
use Rattle.query_code.specs.declared.program.Output.{Output}
use Rattle.query_code.specs.declared.program.Parts.{Parts}
use Rattle.plain_machine.specs.Finishing.{are_orderable}
use Rattle.plain_machine.specs.Gathering.{Keeping, Group, all_inputs, inputs_of, put}
use Rattle.plain_machine.specs.Loading.{Loads, value_acts}
use Rattle.plain_machine.specs.SectionRun.{Acts, State, start, Outcome, Standing, Stopped, one_step}

-- What a run keeps between sections: the running inventory, the groups, and the rows that it gave.
pub record Kept (X : Type 0) : Type 0 where
  pub running : Value
  pub groups : List (Group X)
  pub rows : List (List Value)

-- Where a run stands: before an instruction of the filter or of the row section at a posting, or of
-- the last section at a group, with those that are still to come; at its end; or at a fault.
pub data Stand (X : Type 0) : Type 0 where
  InFilter : Row → (rest : List Row) → Kept X → (place : ℕ) → State Value → Stand X
  InRow : Row → (rest : List Row) → Kept X → (place : ℕ) → State Value → Stand X
  InLast : Group X → (rest : List (Group X)) → (rows : List (List Value)) → (place : ℕ)
      → State Value → Stand X
  Done : (rows : List (List Value)) → Stand X
  Fault : Stand X

-- ---- what sections load

abbrev pub filter_loads : Version → Row → Loads
filter_loads v r = record {
  schema = v;
  row = Some r;
  balance = None;
  keys = [];
  aggregates = [];
}

-- the running inventory is no column where postings are grouped
abbrev pub balance_in : Mode → Value → Option Value
balance_in Plain running = Some running
balance_in Grouped running = None

abbrev pub row_loads : Version → Mode → Value → Row → Loads
row_loads v mode running r = record {
  schema = v;
  row = Some r;
  balance = balance_in mode running;
  keys = [];
  aggregates = [];
}

abbrev pub last_loads : Version → List Value → List Value → Loads
last_loads v keys aggregates = record {
  schema = v;
  row = None;
  balance = None;
  keys = keys;
  aggregates = aggregates;
}

-- ---- what sections leave

-- one truth value; null is not true
abbrev pub one_truth : List Value → Option Bool
one_truth (Truth b ∷ []) = Some b
one_truth (Null ∷ []) = Some false
one_truth stack = None

-- how many values a row of the answer has, those to order by included
abbrev pub width_of : Output → ℕ
width_of o = length o.targets + o.hidden

-- the values that a section left, the first one first, if they are so many
abbrev pub row_of : Output → List Value → Option (List Value)
row_of o stack = if length stack == width_of o then Some (reverse stack) else None

abbrev pub with_running : {X : Type 0} → Kept X → Value → Kept X
with_running k running = record { running = running; groups = k.groups; rows = k.rows }

abbrev pub with_groups : {X : Type 0} → Kept X → List (Group X) → Kept X
with_groups k groups = record { running = k.running; groups = groups; rows = k.rows }

abbrev pub with_row : {X : Type 0} → Kept X → List Value → Kept X
with_row k row = record { running = k.running; groups = k.groups; rows = k.rows ++ row ∷ [] }

-- ---- from section to section

abbrev pub filter_acts : Parts → Row → Acts Value
filter_acts p r = value_acts p.code.pool (filter_loads p.bounds.schema r)

abbrev pub row_acts : Parts → Value → Row → Acts Value
row_acts p running r = value_acts p.code.pool (row_loads p.bounds.schema p.mode running r)

module _ {X : Type 0} (p : Parts) where
  -- at the end, where the rows can be ordered
  abbrev pub ended : List (List Value) → Stand X
  ended rows = if are_orderable p.output.order rows then Done rows else Fault

  -- the next group; a section without instructions leaves nothing, and a row has one value at least
  abbrev pub begin_last : List (Group X) → List (List Value) → Stand X
  begin_last [] rows = ended rows
  begin_last (g ∷ rest) rows = if length p.code.last == 0 then Fault else InLast g rest rows 0 start

  abbrev pub go_on_last : List (Group X) → List (List Value) → Option (List Value) → Stand X
  go_on_last rest rows None = Fault
  go_on_last rest rows (Some row) = begin_last rest (rows ++ row ∷ [])

  abbrev pub end_last : List (Group X) → List (List Value) → List Value → Stand X
  end_last rest rows stack = go_on_last rest rows (row_of p.output stack)

  -- the next posting; a filter without instructions leaves no truth value
  abbrev pub begin_filter : List Row → Kept X → Stand X
  begin_filter [] k = begin_last k.groups k.rows
  begin_filter (r ∷ rest) k = if length p.code.filter == 0 then Fault else InFilter r rest k 0 start

  abbrev pub go_on : List Row → Option (Kept X) → Stand X
  go_on rest None = Fault
  go_on rest (Some k) = begin_filter rest k

module _ {X : Type 0} (keep : Keeping X) (p : Parts) where
  -- keys, and inputs behind them
  abbrev pub grouped_with : Kept X → List Value → Option (Kept X)
  grouped_with k values =
      if length values == p.code.keys + inputs_of p.code.aggregates
      then option_map (with_groups k)
      (put keep k.groups (take p.code.keys values) (drop p.code.keys values))
      else None

  -- a row of the answer, or a member of a group
  abbrev pub kept_with : Kept X → List Value → Option (Kept X)
  kept_with k stack =
      if is_grouped p.mode then grouped_with k (reverse stack)
      else option_map (with_row k) (row_of p.output stack)

  abbrev pub end_row : List Row → Kept X → List Value → Stand X
  end_row rest k stack = go_on p rest (kept_with k stack)

  -- a row section without instructions ends at once
  abbrev pub begin_row : Row → List Row → Option (Kept X) → Stand X
  begin_row r rest None = Fault
  begin_row r rest (Some k) =
      if length p.code.row == 0 then end_row rest k [] else InRow r rest k 0 start

  abbrev pub judged : Row → List Row → Kept X → Option Bool → Stand X
  judged r rest k None = Fault
  judged r rest k (Some true) =
      begin_row r rest (option_map (with_running k) (keep.running_on k.running r))
  judged r rest k (Some false) = begin_filter p rest k

  abbrev pub end_filter : Row → List Row → Kept X → List Value → Stand X
  end_filter r rest k stack = judged r rest k (one_truth stack)

  -- ---- one step

  abbrev pub in_filter : Row → List Row → Kept X → Outcome → Stand X
  in_filter r rest k Stopped = Fault
  in_filter r rest k (Standing q s) =
      if q == length p.code.filter then end_filter r rest k s.stack else InFilter r rest k q s

  abbrev pub in_row : Row → List Row → Kept X → Outcome → Stand X
  in_row r rest k Stopped = Fault
  in_row r rest k (Standing q s) =
      if q == length p.code.row then end_row rest k s.stack else InRow r rest k q s

  abbrev pub in_last : Group X → List (Group X) → List (List Value) → Outcome → Stand X
  in_last g rest rows Stopped = Fault
  in_last g rest rows (Standing q s) =
      if q == length p.code.last then end_last p rest rows s.stack else InLast g rest rows q s

  abbrev pub last_acts : Group X → Acts Value
  last_acts g = value_acts p.code.pool (last_loads p.bounds.schema g.0 (keep.values g.1))

  abbrev pub step : Stand X → Stand X
  step (InFilter r rest k q s) =
      in_filter r rest k (one_step p.code.filter (filter_acts p r) (Standing q s))
  step (InRow r rest k q s) =
      in_row r rest k (one_step p.code.row (row_acts p k.running r) (Standing q s))
  step (InLast g rest rows q s) =
      in_last g rest rows (one_step p.code.last (last_acts g) (Standing q s))
  step (Done rows) = Done rows
  step Fault = Fault

  -- n steps more; at its end and at a fault it stays
  abbrev pub steps : ℕ → Stand X → Stand X
  steps zero s = s
  steps (suc n) s = step (steps n s)

-- ---- the whole

abbrev pub nothing_kept : {X : Type 0} → Kept X
nothing_kept = record { running = aggregate_of (SumInventory 8) []; groups = []; rows = [] }

abbrev pub begin : {X : Type 0} → Parts → List Row → Stand X
begin p rows = begin_filter p rows nothing_kept

-- where the machine stands after n steps over these rows, whatever its groups keep
abbrev pub after : {X : Type 0} → Keeping X → Parts → List Row → ℕ → Stand X
after keep p rows n = steps keep p n (begin p rows)

-- the machine itself keeps all inputs of its groups
abbrev pub stand_after : Parts → List Row → ℕ → Stand (List (List Value))
stand_after p rows n = after (all_inputs p.code.aggregates) p rows n
