-- A program that doesn't read the accounts of transactions runs without them as it does with them.
use Rattle.std.proofs.Common.{◌≡◌, ℕ, zero, suc, ◌≤◌, ◌&&◌, List, [], ◌∷◌, ◌++◌, length, map, Option, Some}
use Rattle.std.proofs.Common.{None, Bool, true, false, cond, refl, sym, ap, subst, ◌∙◌}
use Rattle.std.proofs.lemmas.Bool.{or_parts}
use Rattle.std.proofs.lemmas.List.{length-map}
use Rattle.std.proofs.lemmas.List.Folds.{list_all-map}
use Rattle.std.specs.Prelude.{nat_eq, nat_le, option_map, option_and_then, slice_get}
use Rattle.std.specs.List.{list_any}
use Rattle.limits.specs.declared.bounds.Bounds.{Bounds}
use Rattle.limits.specs.declared.bounds.Version.{Version}
use Rattle.query_values.specs.Held.{checked}
use Rattle.query_values.specs.declared.value.Value.{Value}
use Rattle.query_terms.specs.Column.{numbered_in}
use Rattle.query_terms.specs.declared.column.Column.{Column}
use Rattle.query_terms.specs.declared.column.Column.TheVariants as column
use Rattle.query_rows.specs.Fits.{fits, row_fits}
use Rattle.query_rows.specs.Row.{Row}
use Rattle.query_code.specs.declared.instruction.Instruction.{Instruction}
use Rattle.query_code.specs.declared.instruction.Instruction.TheVariants.{Push, Unary, Binary}
use Rattle.query_code.specs.declared.instruction.Instruction.TheVariants.{LoadSlot, StoreSlot, Jump}
use Rattle.query_code.specs.declared.instruction.Instruction.TheVariants.{JumpIfFalse}
use Rattle.query_code.specs.declared.instruction.Push as pushes
use Rattle.query_code.specs.declared.instruction.Push.TheVariants as push
use Rattle.query_code.specs.declared.program.Constant.{Constant}
use Rattle.query_code.specs.declared.program.Parts.{Parts}
use Rattle.plain_machine.specs.Answer.{Answer, Answers, IsWithinBudget, groups}
use Rattle.plain_machine.specs.Depth.{outcome_of, values_in}
use Rattle.plain_machine.specs.Finishing.{are_orderable}
use Rattle.plain_machine.specs.Gathering.{Keeping, Group, all_inputs}
use Rattle.plain_machine.specs.Loading.{Loads, cell_in, loaded, value_acts}
use Rattle.plain_machine.specs.PlainMachine.{Kept, Stand, InFilter, InRow, InLast, Done, Fault}
use Rattle.plain_machine.specs.PlainMachine.{begin_filter, begin_last, begin_row, end_last, end_row}
use Rattle.plain_machine.specs.PlainMachine.{ended, filter_loads, go_on, go_on_last, in_filter}
use Rattle.plain_machine.specs.PlainMachine.{in_last, in_row, judged, kept_with, nothing_kept}
use Rattle.plain_machine.specs.PlainMachine.{one_truth, row_loads, row_of, stand_after, step}
use Rattle.plain_machine.specs.PlainMachine.{with_running}
use Rattle.plain_machine.specs.Safety.{RunsSafely}
use Rattle.plain_machine.specs.SectionRun.{Outcome, Standing, State, Stopped, effect, leads_on, moved}
use Rattle.plain_machine.specs.SectionRun.{next_place, one_step, start, stepped, with_slots, with_top}
use Rattle.plain_machine.specs.Unread.{IsSoWithAndWithout, but_accounts, is_accounts, loads_accounts}
use Rattle.plain_machine.specs.Unread.{reads_accounts, stand_but_accounts}
use Rattle.plain_machine.specs.WholeRun.{budget, is_going}

-- ---- a section that doesn't load them does the same without them

abbrev at_row : Row → Loads → Loads
at_row r l = record {
  schema = l.schema;
  row = Some r;
  balance = l.balance;
  keys = l.keys;
  aggregates = l.aggregates;
}

module _ (r : Row) (l : Loads) where
  abbrev with_them : Loads
  with_them = at_row r l

  abbrev without : Loads
  without = at_row (but_accounts r) l

  cell_alike : (c : Column) → is_accounts (Some c) ≡ false
      → cell_in without c ≡ cell_in with_them c
  cell_alike column.Date e = refl
  cell_alike column.Year e = refl
  cell_alike column.Month e = refl
  cell_alike column.Day e = refl
  cell_alike column.Flag e = refl
  cell_alike column.Payee e = refl
  cell_alike column.Narration e = refl
  cell_alike column.Tags e = refl
  cell_alike column.Links e = refl
  cell_alike column.Account e = refl
  cell_alike column.PostingFlag e = refl
  cell_alike column.Number e = refl
  cell_alike column.Currency e = refl
  cell_alike column.CostNumber e = refl
  cell_alike column.CostCurrency e = refl
  cell_alike column.CostDate e = refl
  cell_alike column.CostLabel e = refl
  cell_alike column.Position e = refl
  cell_alike column.Weight e = refl
  cell_alike column.Balance e = refl
  cell_alike column.Lineno e = refl
  cell_alike column.Accounts e = absurd cc
  cell_alike column.Price e = refl

  column_alike : (o : Option Column) → is_accounts o ≡ false
      → option_and_then (cell_in without) o ≡ option_and_then (cell_in with_them) o
  column_alike None e = refl
  column_alike (Some c) e = cell_alike c e

  loaded_alike : (pool : List Constant) (op : pushes.Push)
      → loads_accounts l.schema (Push op) ≡ false
      → loaded pool without op ≡ loaded pool with_them op
  loaded_alike pool push.True e = refl
  loaded_alike pool push.False e = refl
  loaded_alike pool (push.Const i) e = refl
  loaded_alike pool (push.LoadColumn n) e = column_alike (numbered_in l.schema n) e
  loaded_alike pool (push.LoadKey k) e = refl
  loaded_alike pool (push.LoadAggregate a) e = refl
  loaded_alike pool (push.Meta i) e = refl
  loaded_alike pool (push.EntryMeta i) e = refl
  loaded_alike pool (push.AnyMeta i) e = refl

  effect_alike : (pool : List Constant) (i : Instruction) (s : State Value)
      → loads_accounts l.schema i ≡ false
      → effect (value_acts pool without) i s ≡ effect (value_acts pool with_them) i s
  effect_alike pool (Push op) s e =
      ap (λ x. with_slots s.slots (with_top (option_and_then (checked true) x) s.stack))
      (loaded_alike pool op e)
  effect_alike pool (Unary op) s e = refl
  effect_alike pool (Binary op) s e = refl
  effect_alike pool (LoadSlot k) s e = refl
  effect_alike pool (StoreSlot k) s e = refl
  effect_alike pool (Jump to) s e = refl
  effect_alike pool (JumpIfFalse to) s e = refl

  stepped_alike : (pool : List Constant) (len : ℕ) (o : Option Instruction) (q : ℕ)
      (s : State Value) → ((i : Instruction) → o ≡ Some i → loads_accounts l.schema i ≡ false)
      → stepped len (value_acts pool without) o q s ≡ stepped len (value_acts pool with_them) o q s
  stepped_alike pool len None q s none = refl
  stepped_alike pool len (Some i) q s none =
      ap (λ x. cond (leads_on len q i) (moved (next_place i q s.stack) x) Stopped)
      (effect_alike pool i s (none i refl))

none_at : (v : Version) (code : List Instruction) (q : ℕ) (i : Instruction)
    → list_any (loads_accounts v) code ≡ false → slice_get code q ≡ Some i
    → loads_accounts v i ≡ false
none_at v [] q i none e = absurd cc
none_at v (j ∷ code) zero i none e =
    let same : j ≡ i = cc in
    ap (loads_accounts v) (sym same)
    ∙ (or_parts (loads_accounts v j) (list_any (loads_accounts v) code) none).0
none_at v (j ∷ code) (suc q) i none e =
    none_at v code q i (or_parts (loads_accounts v j) (list_any (loads_accounts v) code) none).1 e

one_alike : (r : Row) (l : Loads) (pool : List Constant) (code : List Instruction) (o : Outcome)
    → list_any (loads_accounts l.schema) code ≡ false
    → one_step code (value_acts pool (at_row (but_accounts r) l)) o
    ≡ one_step code (value_acts pool (at_row r l)) o
one_alike r l pool code Stopped none = refl
one_alike r l pool code (Standing q s) none =
    stepped_alike r l pool (length code) (slice_get code q) q s
    (λ i e. none_at l.schema code q i none e)

-- ---- the whole machine

if_but : {A B : Type 0} (g : A → B) (c : Bool) (x y : A) → g (cond c x y) ≡ cond c (g x) (g y)
if_but g true x y = refl
if_but g false x y = refl

module _ (p : Parts) where
  abbrev X : Type 0
  X = List (List Value)

  abbrev K : Keeping X
  K = all_inputs p.code.aggregates

  abbrev f : Stand X → Stand X
  f = stand_but_accounts

  ended_but : (rows : List (List Value)) → f (ended p rows) ≡ ended p rows
  ended_but rows = if_but f (are_orderable p.output.order rows) (Done rows) Fault

  begin_last_but : (groups : List (Group X)) (rows : List (List Value))
      → f (begin_last p groups rows) ≡ begin_last p groups rows
  begin_last_but [] rows = ended_but rows
  begin_last_but (g ∷ rest) rows =
      if_but f (nat_eq (length p.code.last) 0) Fault (InLast g rest rows 0 start)

  go_on_last_but : (rest : List (Group X)) (rows : List (List Value)) (o : Option (List Value))
      → f (go_on_last p rest rows o) ≡ go_on_last p rest rows o
  go_on_last_but rest rows None = refl
  go_on_last_but rest rows (Some row) = begin_last_but rest (rows ++ row ∷ [])

  begin_filter_but : (rows : List Row) (k : Kept X)
      → f (begin_filter p rows k) ≡ begin_filter p (map but_accounts rows) k
  begin_filter_but [] k = begin_last_but k.groups k.rows
  begin_filter_but (r ∷ rest) k =
      if_but f (nat_eq (length p.code.filter) 0) Fault (InFilter r rest k 0 start)

  go_on_but : (rest : List Row) (o : Option (Kept X))
      → f (go_on p rest o) ≡ go_on p (map but_accounts rest) o
  go_on_but rest None = refl
  go_on_but rest (Some k) = begin_filter_but rest k

  begin_row_but : (r : Row) (rest : List Row) (o : Option (Kept X))
      → f (begin_row K p r rest o) ≡ begin_row K p (but_accounts r) (map but_accounts rest) o
  begin_row_but r rest None = refl
  begin_row_but r rest (Some k) =
      if_but f (nat_eq (length p.code.row) 0) (end_row K p rest k []) (InRow r rest k 0 start)
      ∙ ap (λ x. cond (nat_eq (length p.code.row) 0) x
      (InRow (but_accounts r) (map but_accounts rest) k 0 start))
      (go_on_but rest (kept_with K p k []))

  judged_but : (r : Row) (rest : List Row) (k : Kept X) (o : Option Bool)
      → f (judged K p r rest k o) ≡ judged K p (but_accounts r) (map but_accounts rest) k o
  judged_but r rest k None = refl
  judged_but r rest k (Some true) =
      begin_row_but r rest (option_map (with_running k) (K.running_on k.running r))
  judged_but r rest k (Some false) = begin_filter_but rest k

  in_filter_but : (r : Row) (rest : List Row) (k : Kept X) (o : Outcome)
      → f (in_filter K p r rest k o) ≡ in_filter K p (but_accounts r) (map but_accounts rest) k o
  in_filter_but r rest k Stopped = refl
  in_filter_but r rest k (Standing q s) =
      if_but f (nat_eq q (length p.code.filter)) (judged K p r rest k (one_truth s.stack))
      (InFilter r rest k q s)
      ∙ ap (λ x. cond (nat_eq q (length p.code.filter)) x
      (InFilter (but_accounts r) (map but_accounts rest) k q s))
      (judged_but r rest k (one_truth s.stack))

  in_row_but : (r : Row) (rest : List Row) (k : Kept X) (o : Outcome)
      → f (in_row K p r rest k o) ≡ in_row K p (but_accounts r) (map but_accounts rest) k o
  in_row_but r rest k Stopped = refl
  in_row_but r rest k (Standing q s) =
      if_but f (nat_eq q (length p.code.row)) (end_row K p rest k s.stack) (InRow r rest k q s)
      ∙ ap (λ x. cond (nat_eq q (length p.code.row)) x
      (InRow (but_accounts r) (map but_accounts rest) k q s))
      (go_on_but rest (kept_with K p k s.stack))

  in_last_but : (g : Group X) (rest : List (Group X)) (rows : List (List Value)) (o : Outcome)
      → f (in_last K p g rest rows o) ≡ in_last K p g rest rows o
  in_last_but g rest rows Stopped = refl
  in_last_but g rest rows (Standing q s) =
      if_but f (nat_eq q (length p.code.last)) (end_last p rest rows s.stack)
      (InLast g rest rows q s)
      ∙ ap (λ x. cond (nat_eq q (length p.code.last)) x (InLast g rest rows q s))
      (go_on_last_but rest rows (row_of p.output s.stack))

  module _ (unread : reads_accounts p ≡ false) where
    abbrev parts
        : (list_any (loads_accounts p.bounds.schema) p.code.filter ≡ false)
        × (list_any (loads_accounts p.bounds.schema) p.code.row ≡ false)
    parts =
        or_parts (list_any (loads_accounts p.bounds.schema) p.code.filter)
        (list_any (loads_accounts p.bounds.schema) p.code.row) unread

    outcome_alike : (s : Stand X) → outcome_of K p (f s) ≡ outcome_of K p s
    outcome_alike (InFilter r rest k q s) =
        one_alike r (filter_loads p.bounds.schema r) p.code.pool p.code.filter (Standing q s)
        parts.0
    outcome_alike (InRow r rest k q s) =
        one_alike r (row_loads p.bounds.schema p.mode k.running r) p.code.pool p.code.row
        (Standing q s) parts.1
    outcome_alike (InLast g rest rows q s) = refl
    outcome_alike (Done rows) = refl
    outcome_alike Fault = refl

    step_but : (s : Stand X) → step K p (f s) ≡ f (step K p s)
    step_but (InFilter r rest k q s) =
        ap (in_filter K p (but_accounts r) (map but_accounts rest) k)
        (outcome_alike (InFilter r rest k q s))
        ∙ sym (in_filter_but r rest k (outcome_of K p (InFilter r rest k q s)))
    step_but (InRow r rest k q s) =
        ap (in_row K p (but_accounts r) (map but_accounts rest) k)
        (outcome_alike (InRow r rest k q s))
        ∙ sym (in_row_but r rest k (outcome_of K p (InRow r rest k q s)))
    step_but (InLast g rest rows q s) =
        sym (in_last_but g rest rows (outcome_of K p (InLast g rest rows q s)))
    step_but (Done rows) = refl
    step_but Fault = refl

    pub runs_alike : (ledger : List Row) (n : ℕ)
        → stand_after p (map but_accounts ledger) n ≡ f (stand_after p ledger n)
    runs_alike ledger zero = sym (begin_filter_but ledger nothing_kept)
    runs_alike ledger (suc n) =
        ap (step K p) (runs_alike ledger n) ∙ step_but (stand_after p ledger n)

    -- ---- so it has the same answer, and is as safe

    done_in : (s : Stand X) (rows : List (List Value)) → f s ≡ Done rows → s ≡ Done rows
    done_in (InFilter r rest k q s) rows e = absurd cc
    done_in (InRow r rest k q s) rows e = absurd cc
    done_in (InLast g rest given q s) rows e = absurd cc
    done_in (Done given) rows e = e
    done_in Fault rows e = absurd cc

    fault_in : (s : Stand X) → f s ≡ Fault → s ≡ Fault
    fault_in (InFilter r rest k q s) e = absurd cc
    fault_in (InRow r rest k q s) e = absurd cc
    fault_in (InLast g rest rows q s) e = absurd cc
    fault_in (Done rows) e = absurd cc
    fault_in Fault e = refl

    going_alike : (s : Stand X) → is_going (f s) ≡ is_going s
    going_alike (InFilter r rest k q s) = refl
    going_alike (InRow r rest k q s) = refl
    going_alike (InLast g rest rows q s) = refl
    going_alike (Done rows) = refl
    going_alike Fault = refl

    goes_on : (ledger : List Row) (n : ℕ)
        → is_going (stand_after p (map but_accounts ledger) n)
        ≡ is_going (stand_after p ledger n)
    goes_on ledger n =
        ap is_going (runs_alike ledger n) ∙ going_alike (stand_after p ledger n)

    pub answers_alike : (a : Answer) → IsSoWithAndWithout (λ ledger. Answers p ledger a)
    answers_alike a ledger = (to, from)
      where
        to : Answers p (map but_accounts ledger) a → Answers p ledger a
        to is = record {
          done =
              done_in (stand_after p ledger a.steps) a.rows
              (sym (runs_alike ledger a.steps) ∙ is.done);
          going = λ k less. sym (goes_on ledger k) ∙ is.going k less;
          comes_out = is.comes_out;
        }

        from : Answers p ledger a → Answers p (map but_accounts ledger) a
        from is = record {
          done = runs_alike ledger a.steps ∙ ap f is.done;
          going = λ k less. goes_on ledger k ∙ is.going k less;
          comes_out = is.comes_out;
        }

    comes_alike : (ledger : List Row) (n : ℕ)
        → outcome_of K p (stand_after p (map but_accounts ledger) n)
        ≡ outcome_of K p (stand_after p ledger n)
    comes_alike ledger n =
        ap (outcome_of K p) (runs_alike ledger n) ∙ outcome_alike (stand_after p ledger n)

    pub safe_alike : (depth : ℕ) → IsSoWithAndWithout (λ ledger. RunsSafely p ledger depth)
    safe_alike depth ledger = (to, from)
      where
        to : RunsSafely p (map but_accounts ledger) depth → RunsSafely p ledger depth
        to is = record {
          never_faults = λ n fault. is.never_faults n (runs_alike ledger n ∙ ap f fault);
          stays_within = λ n.
              subst (λ o. length (values_in o) ≤ depth) (comes_alike ledger n)
              (is.stays_within n);
        }

        from : RunsSafely p ledger depth → RunsSafely p (map but_accounts ledger) depth
        from is = record {
          never_faults = λ n fault.
              is.never_faults n
              (fault_in (stand_after p ledger n) (sym (runs_alike ledger n) ∙ fault));
          stays_within = λ n.
              subst (λ o. length (values_in o) ≤ depth) (sym (comes_alike ledger n))
              (is.stays_within n);
        }

-- ---- budgets and bounds

pub budgets_alike : (p : Parts) (a : Answer)
    → IsSoWithAndWithout (λ ledger. IsWithinBudget p ledger a)
budgets_alike p a ledger = (to, from)
  where
    as_many : length (map but_accounts ledger) ≡ length ledger
    as_many = length-map ledger but_accounts

    to : IsWithinBudget p (map but_accounts ledger) a → IsWithinBudget p ledger a
    to is = record {
      groups_few = subst (λ n. groups a ≤ n) as_many is.groups_few;
      steps_few = subst (λ n. a.steps ≤ budget p n (groups a)) as_many is.steps_few;
    }

    from : IsWithinBudget p ledger a → IsWithinBudget p (map but_accounts ledger) a
    from is = record {
      groups_few = subst (λ n. groups a ≤ n) (sym as_many) is.groups_few;
      steps_few = subst (λ n. a.steps ≤ budget p n (groups a)) (sym as_many) is.steps_few;
    }

pub fits_alike : (b : Bounds) (ledger : List Row)
    → fits b (map but_accounts ledger) ≡ fits b ledger
fits_alike b ledger =
    λ i. nat_le (length-map ledger but_accounts i) b.postings
    && list_all-map (row_fits b) but_accounts ledger i
