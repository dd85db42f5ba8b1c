-- Runs that keep the running inventory only where it is read stand where those stand that keep it.
use Rattle.std.proofs.Common.{◌≡◌, ◌≢◌, ℕ, zero, suc, ◌+◌, List, [], ◌∷◌, ◌++◌, length, take, drop}
use Rattle.std.proofs.Common.{reverse, Option, Some, None, Bool, true, false, cond, refl, sym, ap, ◌∙◌}
use Rattle.std.proofs.lemmas.Bool.{or_parts}
use Rattle.std.specs.Prelude.{nat_eq, option_map, option_and_then, slice_get}
use Rattle.std.specs.List.{list_any}
use Rattle.limits.specs.declared.bounds.Version.{Version}
use Rattle.query_values.specs.Aggregate.{aggregate_of}
use Rattle.query_values.specs.Held.{checked}
use Rattle.query_values.specs.declared.operation.Aggregate.{Aggregate}
use Rattle.query_values.specs.declared.operation.Aggregate.TheVariants.{SumInventory}
use Rattle.query_values.specs.declared.value.Value.{Value}
use Rattle.query_terms.specs.Column.{if_in, is_in, numbered}
use Rattle.query_rows.specs.Row.{Row}
use Rattle.query_rows.specs.Same.{same_values}
use Rattle.query_terms.specs.declared.column.Column.{Column}
use Rattle.query_terms.specs.declared.column.Column.TheVariants as column
use Rattle.query_code.specs.QueryFile.{is_grouped}
use Rattle.query_code.specs.declared.instruction.Instruction.{Instruction}
use Rattle.query_code.specs.declared.instruction.Instruction.TheVariants.{Push, Unary, Binary}
use Rattle.query_code.specs.declared.instruction.Instruction.TheVariants.{LoadSlot, StoreSlot, Jump}
use Rattle.query_code.specs.declared.instruction.Instruction.TheVariants.{JumpIfFalse}
use Rattle.query_code.specs.declared.instruction.Push as pushes
use Rattle.query_code.specs.declared.instruction.Push.TheVariants as push
use Rattle.query_code.specs.declared.program.Constant.{Constant}
use Rattle.query_code.specs.declared.program.Parts.{Parts}
use Rattle.plain_machine.proofs.AlikeFacts.{stand_alike}
use Rattle.plain_machine.specs.Alike.{stand_as}
use Rattle.plain_machine.specs.Answer.{NeverFaults}
use Rattle.plain_machine.specs.Finishing.{are_orderable}
use Rattle.plain_machine.specs.Gathering.{Keeping, Group, aggregates_over, cons_if}
use Rattle.plain_machine.specs.Gathering.{group_if, inputs_of, put, running_values, running_with}
use Rattle.plain_machine.specs.Loading.{Loads, cell_in, loaded, value_acts}
use Rattle.plain_machine.specs.PlainMachine.{Kept, Stand, InFilter, InRow, InLast, Done, Fault}
use Rattle.plain_machine.specs.PlainMachine.{after, balance_in, begin_filter, begin_last, begin_row}
use Rattle.plain_machine.specs.PlainMachine.{end_last, end_row, ended, filter_acts, go_on}
use Rattle.plain_machine.specs.PlainMachine.{go_on_last, grouped_with, in_filter, in_last, in_row}
use Rattle.plain_machine.specs.PlainMachine.{judged, kept_with, last_acts, nothing_kept, one_truth}
use Rattle.plain_machine.specs.PlainMachine.{row_acts, row_loads, row_of, stand_after, step}
use Rattle.plain_machine.specs.PlainMachine.{with_groups, with_row, with_running}
use Rattle.plain_machine.specs.Reading.{is_balance, kept_read, loads_running, reads_running}
use Rattle.plain_machine.specs.Reading.{running_read, stand_read, values_read}
use Rattle.plain_machine.specs.SectionRun.{Outcome, Standing, State, Stopped, effect, leads_on, moved}
use Rattle.plain_machine.specs.SectionRun.{next_place, one_step, start, stepped, with_slots, with_top}

-- ---- a section that doesn't load the running inventory does the same whatever that is

abbrev with_balance : Option Value → Loads → Loads
with_balance balance l = record {
  schema = l.schema;
  row = l.row;
  balance = balance;
  keys = l.keys;
  aggregates = l.aggregates;
}

module _ (balance : Option Value) (l : Loads) where
  cell_alike : (c : Column) → is_balance (Some c) ≡ false
      → cell_in l c ≡ cell_in (with_balance balance l) c
  cell_alike column.Date e = refl
  cell_alike column.Year e = refl
  cell_alike column.Month e = refl
  cell_alike column.Day e = refl
  cell_alike column.Flag e = refl
  cell_alike column.Payee e = refl
  cell_alike column.Narration e = refl
  cell_alike column.Tags e = refl
  cell_alike column.Links e = refl
  cell_alike column.Account e = refl
  cell_alike column.PostingFlag e = refl
  cell_alike column.Number e = refl
  cell_alike column.Currency e = refl
  cell_alike column.CostNumber e = refl
  cell_alike column.CostCurrency e = refl
  cell_alike column.CostDate e = refl
  cell_alike column.CostLabel e = refl
  cell_alike column.Position e = refl
  cell_alike column.Weight e = refl
  cell_alike column.Balance e = absurd cc
  cell_alike column.Lineno e = refl
  cell_alike column.Accounts e = refl
  cell_alike column.Price e = refl

  column_alike : (v : Version) (o : Option Column) → is_balance o ≡ false
      → option_and_then (cell_in l) (option_and_then (if_in v) o)
      ≡ option_and_then (cell_in (with_balance balance l)) (option_and_then (if_in v) o)
  column_alike v None e = refl
  column_alike v (Some c) e = by (is_in v c)
    where
      by : (b : Bool)
          → option_and_then (cell_in l) (cond b (Some c) None)
          ≡ option_and_then (cell_in (with_balance balance l)) (cond b (Some c) None)
      by true = cell_alike c e
      by false = refl

  loaded_alike : (pool : List Constant) (op : pushes.Push) → loads_running (Push op) ≡ false
      → loaded pool l op ≡ loaded pool (with_balance balance l) op
  loaded_alike pool push.True e = refl
  loaded_alike pool push.False e = refl
  loaded_alike pool (push.Const i) e = refl
  loaded_alike pool (push.LoadColumn n) e = column_alike l.schema (numbered n) e
  loaded_alike pool (push.LoadKey k) e = refl
  loaded_alike pool (push.LoadAggregate a) e = refl
  loaded_alike pool (push.Meta i) e = refl
  loaded_alike pool (push.EntryMeta i) e = refl
  loaded_alike pool (push.AnyMeta i) e = refl

  effect_alike : (pool : List Constant) (i : Instruction) (s : State Value)
      → loads_running i ≡ false
      → effect (value_acts pool l) i s ≡ effect (value_acts pool (with_balance balance l)) i s
  effect_alike pool (Push op) s e =
      ap (λ x. with_slots s.slots (with_top (option_and_then (checked true) x) s.stack))
      (loaded_alike pool op e)
  effect_alike pool (Unary op) s e = refl
  effect_alike pool (Binary op) s e = refl
  effect_alike pool (LoadSlot k) s e = refl
  effect_alike pool (StoreSlot k) s e = refl
  effect_alike pool (Jump to) s e = refl
  effect_alike pool (JumpIfFalse to) s e = refl

  stepped_alike : (pool : List Constant) (len : ℕ) (o : Option Instruction) (q : ℕ)
      (s : State Value) → ((i : Instruction) → o ≡ Some i → loads_running i ≡ false)
      → stepped len (value_acts pool l) o q s
      ≡ stepped len (value_acts pool (with_balance balance l)) o q s
  stepped_alike pool len None q s none = refl
  stepped_alike pool len (Some i) q s none =
      ap (λ x. cond (leads_on len q i) (moved (next_place i q s.stack) x) Stopped)
      (effect_alike pool i s (none i refl))

none_at : (code : List Instruction) (q : ℕ) (i : Instruction)
    → list_any loads_running code ≡ false → slice_get code q ≡ Some i → loads_running i ≡ false
none_at [] q i none e = absurd cc
none_at (j ∷ code) zero i none e =
    let same : j ≡ i = cc in
    ap loads_running (sym same) ∙ (or_parts (loads_running j) (list_any loads_running code) none).0
none_at (j ∷ code) (suc q) i none e =
    none_at code q i (or_parts (loads_running j) (list_any loads_running code) none).1 e

-- one step of a section, at whatever balance
one_alike : (balance : Option Value) (l : Loads) (pool : List Constant) (code : List Instruction)
    (o : Outcome) → list_any loads_running code ≡ false
    → one_step code (value_acts pool l) o
    ≡ one_step code (value_acts pool (with_balance balance l)) o
one_alike balance l pool code Stopped none = refl
one_alike balance l pool code (Standing q s) none =
    stepped_alike balance l pool (length code) (slice_get code q) q s
    (λ i e. none_at code q i none e)

pub row_steps_alike : (p : Parts) (b : Bool) → reads_running p ≡ b → (running : Value) (r : Row)
    (o : Outcome)
    → one_step p.code.row (row_acts p running r) o
    ≡ one_step p.code.row (row_acts p (running_read b running) r) o
row_steps_alike p true e running r o = refl
row_steps_alike p false e running r o =
    one_alike (balance_in p.mode (running_read false running))
    (row_loads p.bounds.schema p.mode running r) p.code.pool p.code.row o e

-- ---- groups gather the same

pub put_same : (b : Bool) (aggregates : List Aggregate) (groups : List (Group (List Value)))
    (keys inputs : List Value)
    → put (running_values aggregates) groups keys inputs
    ≡ put (values_read b aggregates) groups keys inputs
put_same b aggregates [] keys inputs = refl
put_same b aggregates (g ∷ groups) keys inputs =
    ap (λ o. cond (same_values keys g.0)
    (group_if g.0 ((running_values aggregates).add g.1 inputs) groups) (cons_if (Some g) o))
    (put_same b aggregates groups keys inputs)

-- ---- the whole machine

module _ (p : Parts) (b : Bool) (is : reads_running p ≡ b) where
  abbrev K : Keeping (List Value)
  K = running_values p.code.aggregates

  abbrev L : Keeping (List Value)
  L = values_read b p.code.aggregates

  abbrev X : Type 0
  X = List Value

  if_read : {A B : Type 0} (g : A → B) (c : Bool) (x y : A) → g (cond c x y) ≡ cond c (g x) (g y)
  if_read g true x y = refl
  if_read g false x y = refl

  with_groups_read : (k : Kept X) (o : Option (List (Group X)))
      → option_map (kept_read b) (option_map (with_groups k) o)
      ≡ option_map (with_groups (kept_read b k)) o
  with_groups_read k None = refl
  with_groups_read k (Some groups) = refl

  with_row_read : (k : Kept X) (o : Option (List Value))
      → option_map (kept_read b) (option_map (with_row k) o)
      ≡ option_map (with_row (kept_read b k)) o
  with_row_read k None = refl
  with_row_read k (Some row) = refl

  grouped_read : (k : Kept X) (values : List Value)
      → option_map (kept_read b) (grouped_with K p k values)
      ≡ grouped_with L p (kept_read b k) values
  grouped_read k values =
      by (nat_eq (length values) (p.code.keys + inputs_of p.code.aggregates))
    where
      keys : List Value
      keys = take p.code.keys values

      inputs : List Value
      inputs = drop p.code.keys values

      by : (c : Bool)
          → option_map (kept_read b)
          (cond c (option_map (with_groups k) (put K k.groups keys inputs)) None)
          ≡ cond c (option_map (with_groups (kept_read b k)) (put L k.groups keys inputs)) None
      by true =
          with_groups_read k (put K k.groups keys inputs)
          ∙ ap (option_map (with_groups (kept_read b k)))
          (put_same b p.code.aggregates k.groups keys inputs)
      by false = refl

  kept_with_read : (k : Kept X) (stack : List Value)
      → option_map (kept_read b) (kept_with K p k stack) ≡ kept_with L p (kept_read b k) stack
  kept_with_read k stack = by (is_grouped p.mode)
    where
      by : (c : Bool)
          → option_map (kept_read b)
          (cond c (grouped_with K p k (reverse stack))
          (option_map (with_row k) (row_of p.output stack)))
          ≡ cond c (grouped_with L p (kept_read b k) (reverse stack))
          (option_map (with_row (kept_read b k)) (row_of p.output stack))
      by true = grouped_read k (reverse stack)
      by false = with_row_read k (row_of p.output stack)

  ended_read : (rows : List (List Value))
      → ◌≡◌ {A = Stand X} (stand_read b (ended p rows)) (ended p rows)
  ended_read rows = if_read (stand_read b) (are_orderable p.output.order rows) (Done rows) Fault

  begin_last_read : (groups : List (Group X)) (rows : List (List Value))
      → stand_read b (begin_last p groups rows) ≡ begin_last p groups rows
  begin_last_read [] rows = ended_read rows
  begin_last_read (g ∷ rest) rows =
      if_read (stand_read b) (nat_eq (length p.code.last) 0) Fault (InLast g rest rows 0 start)

  begin_filter_read : (rows : List Row) (k : Kept X)
      → stand_read b (begin_filter p rows k) ≡ begin_filter p rows (kept_read b k)
  begin_filter_read [] k = begin_last_read k.groups k.rows
  begin_filter_read (r ∷ rest) k =
      if_read (stand_read b) (nat_eq (length p.code.filter) 0) Fault (InFilter r rest k 0 start)

  go_on_read : (rest : List Row) (o : Option (Kept X))
      → stand_read b (go_on p rest o) ≡ go_on p rest (option_map (kept_read b) o)
  go_on_read rest None = refl
  go_on_read rest (Some k) = begin_filter_read rest k

  end_row_read : (rest : List Row) (k : Kept X) (stack : List Value)
      → stand_read b (end_row K p rest k stack) ≡ end_row L p rest (kept_read b k) stack
  end_row_read rest k stack =
      go_on_read rest (kept_with K p k stack) ∙ ap (go_on p rest) (kept_with_read k stack)

  begin_row_read : (r : Row) (rest : List Row) (k : Kept X)
      → stand_read b (begin_row K p r rest (Some k)) ≡ begin_row L p r rest (Some (kept_read b k))
  begin_row_read r rest k =
      if_read (stand_read b) (nat_eq (length p.code.row) 0) (end_row K p rest k [])
      (InRow r rest k 0 start)
      ∙ ap (λ x. cond (nat_eq (length p.code.row) 0) x (InRow r rest (kept_read b k) 0 start))
      (end_row_read rest k [])

  running_goes_on : (c : Bool) (v t : Value) (r : Row) → running_with v r ≡ Some t
      → (values_read c p.code.aggregates).running_on (running_read c v) r
      ≡ Some (running_read c t)
  running_goes_on true v t r e = e
  running_goes_on false v t r e = refl

  passed_read : (r : Row) (rest : List Row) (k : Kept X) (o : Option Value)
      → running_with k.running r ≡ o
      → begin_row K p r rest (option_map (with_running k) o) ≢ Fault
      → stand_read b (begin_row K p r rest (option_map (with_running k) o))
      ≡ begin_row L p r rest
      (option_map (with_running (kept_read b k)) (L.running_on (running_read b k.running) r))
  passed_read r rest k None e fine = absurd (fine refl)
  passed_read r rest k (Some t) e fine =
      begin_row_read r rest (with_running k t)
      ∙ ap (λ o. begin_row L p r rest (option_map (with_running (kept_read b k)) o))
      (sym (running_goes_on b k.running t r e))

  judged_read : (r : Row) (rest : List Row) (k : Kept X) (o : Option Bool)
      → judged K p r rest k o ≢ Fault
      → stand_read b (judged K p r rest k o) ≡ judged L p r rest (kept_read b k) o
  judged_read r rest k None fine = refl
  judged_read r rest k (Some true) fine =
      passed_read r rest k (running_with k.running r) refl fine
  judged_read r rest k (Some false) fine = begin_filter_read rest k

  go_on_last_read : (rest : List (Group X)) (rows : List (List Value)) (o : Option (List Value))
      → stand_read b (go_on_last p rest rows o) ≡ go_on_last p rest rows o
  go_on_last_read rest rows None = refl
  go_on_last_read rest rows (Some row) = begin_last_read rest (rows ++ row ∷ [])

  in_filter_read : (r : Row) (rest : List Row) (k : Kept X) (o : Outcome)
      → in_filter K p r rest k o ≢ Fault
      → stand_read b (in_filter K p r rest k o) ≡ in_filter L p r rest (kept_read b k) o
  in_filter_read r rest k Stopped fine = refl
  in_filter_read r rest k (Standing q s) fine =
      by (nat_eq q (length p.code.filter)) (judged_read r rest k (one_truth s.stack)) fine
    where
      by : (c : Bool)
          → (judged K p r rest k (one_truth s.stack) ≢ Fault
          → stand_read b (judged K p r rest k (one_truth s.stack))
          ≡ judged L p r rest (kept_read b k) (one_truth s.stack))
          → cond c (judged K p r rest k (one_truth s.stack)) (InFilter r rest k q s) ≢ Fault
          → stand_read b (cond c (judged K p r rest k (one_truth s.stack)) (InFilter r rest k q s))
          ≡ cond c (judged L p r rest (kept_read b k) (one_truth s.stack))
          (InFilter r rest (kept_read b k) q s)
      by true ends fine = ends fine
      by false ends fine = refl

  in_row_read : (r : Row) (rest : List Row) (k : Kept X) (o : Outcome)
      → stand_read b (in_row K p r rest k o) ≡ in_row L p r rest (kept_read b k) o
  in_row_read r rest k Stopped = refl
  in_row_read r rest k (Standing q s) =
      if_read (stand_read b) (nat_eq q (length p.code.row)) (end_row K p rest k s.stack)
      (InRow r rest k q s)
      ∙ ap (λ x. cond (nat_eq q (length p.code.row)) x (InRow r rest (kept_read b k) q s))
      (end_row_read rest k s.stack)

  in_last_read : (g : Group X) (rest : List (Group X)) (rows : List (List Value)) (o : Outcome)
      → stand_read b (in_last K p g rest rows o) ≡ in_last L p g rest rows o
  in_last_read g rest rows Stopped = refl
  in_last_read g rest rows (Standing q s) =
      if_read (stand_read b) (nat_eq q (length p.code.last)) (end_last p rest rows s.stack)
      (InLast g rest rows q s)
      ∙ ap (λ x. cond (nat_eq q (length p.code.last)) x (InLast g rest rows q s))
      (go_on_last_read rest rows (row_of p.output s.stack))

  step_read : (s : Stand X) → step K p s ≢ Fault
      → stand_read b (step K p s) ≡ step L p (stand_read b s)
  step_read (InFilter r rest k q s) fine =
      in_filter_read r rest k (one_step p.code.filter (filter_acts p r) (Standing q s)) fine
  step_read (InRow r rest k q s) fine =
      in_row_read r rest k (one_step p.code.row (row_acts p k.running r) (Standing q s))
      ∙ ap (in_row L p r rest (kept_read b k))
      (row_steps_alike p b is k.running r (Standing q s))
  step_read (InLast g rest rows q s) fine =
      in_last_read g rest rows (one_step p.code.last (last_acts K p g) (Standing q s))
  step_read (Done rows) fine = refl
  step_read Fault fine = refl

  nothing_read : (c : Bool) → running_read c (aggregate_of (SumInventory 8) [])
      ≡ aggregate_of (SumInventory 8) []
  nothing_read true = refl
  nothing_read false = refl

  pub after_read : (rows : List Row) → ((n : ℕ) → after K p rows n ≢ Fault) → (n : ℕ)
      → stand_read b (after K p rows n) ≡ after L p rows n
  after_read rows fine zero =
      begin_filter_read rows nothing_kept
      ∙ ap (λ v. begin_filter p rows (record { running = v; groups = []; rows = [] }))
      (nothing_read b)
  after_read rows fine (suc n) =
      step_read (after K p rows n) (fine (suc n)) ∙ ap (step L p) (after_read rows fine n)

-- ---- and where all inputs are kept

fault_alike : (p : Parts) (s : Stand (List (List Value)))
    → stand_as (aggregates_over p.code.aggregates) s ≡ Fault → s ≡ Fault
fault_alike p (InFilter r rest k q s) e = absurd cc
fault_alike p (InRow r rest k q s) e = absurd cc
fault_alike p (InLast g rest rows q s) e = absurd cc
fault_alike p (Done rows) e = absurd cc
fault_alike p Fault e = refl

pub readers_alike : (p : Parts) (rows : List Row) → NeverFaults p rows → (n : ℕ)
    → stand_read (reads_running p) (stand_as (aggregates_over p.code.aggregates) (stand_after p rows n))
    ≡ after (values_read (reads_running p) p.code.aggregates) p rows n
readers_alike p rows never n =
    ap (stand_read (reads_running p)) (stand_alike p rows n)
    ∙ after_read p (reads_running p) refl rows
    (λ m fault. never m (fault_alike p (stand_after p rows m) (stand_alike p rows m ∙ fault))) n
