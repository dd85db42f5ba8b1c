-- A program that names the columns of its schema runs in the second version as it did.
use Rattle.std.proofs.Common.{◌≡◌, ℕ, zero, suc, Bool, true, false, List, [], ◌∷◌, length}
use Rattle.std.proofs.Common.{Option, Some, None, refl, sym, ap, subst, ◌∙◌, cond, eqb}
use Rattle.std.specs.Prelude.{slice_get, option_and_then}
use Rattle.std.specs.List.{AllByRecursion}
use Rattle.limits.specs.declared.bounds.Version.{Version}
use Rattle.limits.specs.declared.bounds.Version.TheVariants.{Second}
use Rattle.query_terms.proofs.NumberFacts.{second_has_all}
use Rattle.query_terms.specs.Column.{if_in, numbered, numbered_in}
use Rattle.query_terms.specs.declared.column.Column.{Column}
use Rattle.query_terms.specs.declared.column.Column.TheVariants as column
use Rattle.query_code.specs.Upgrade.{upgraded}
use Rattle.query_code.specs.declared.instruction.Instruction.{Instruction}
use Rattle.query_code.specs.declared.instruction.Instruction.TheVariants.{Push, Unary, Binary}
use Rattle.query_code.specs.declared.instruction.Instruction.TheVariants.{LoadSlot, StoreSlot, Jump}
use Rattle.query_code.specs.declared.instruction.Instruction.TheVariants.{JumpIfFalse}
use Rattle.query_code.specs.declared.instruction.Push as pushes
use Rattle.query_code.specs.declared.instruction.Push.TheVariants as push
use Rattle.query_code.specs.declared.program.Constant.{Constant}
use Rattle.query_code.specs.declared.program.Parts.{Parts}
use Rattle.query_rows.specs.Row.{Row}
use Rattle.query_values.specs.Held.{checked}
use Rattle.query_values.specs.declared.value.Value.{Value}
use Rattle.plain_machine.specs.Gathering.{Keeping, Group, all_inputs}
use Rattle.plain_machine.specs.Loading.{Loads, cell_in, loaded, value_acts}
use Rattle.plain_machine.specs.PlainMachine.{Kept, Stand, InFilter, InRow, InLast, Done, Fault}
use Rattle.plain_machine.specs.PlainMachine.{begin_last, go_on_last, begin_filter, go_on}
use Rattle.plain_machine.specs.PlainMachine.{kept_with, begin_row, judged}
use Rattle.plain_machine.specs.PlainMachine.{in_filter, in_row, in_last}
use Rattle.plain_machine.specs.PlainMachine.{step, steps, begin, after, one_truth, row_of}
use Rattle.plain_machine.specs.PlainMachine.{nothing_kept, filter_loads, row_loads, last_loads}
use Rattle.plain_machine.specs.SectionRun.{State, start, Outcome, Standing, Stopped, one_step}
use Rattle.plain_machine.specs.SectionRun.{stepped}
use Rattle.plain_machine.specs.SectionRun.{effect, leads_on, moved, next_place, with_slots, with_top}
use Rattle.plain_machine.specs.Upgrade.{KnowsColumn, NamesItsColumns}

-- ---- what is loaded

-- the second schema has all columns
all_in : (o : Option Column) → option_and_then (if_in Second) o ≡ o
all_in None = refl
all_in (Some c) = ap (λ known. cond known (Some c) None) (second_has_all c)

-- with all columns known
abbrev pub of_second : Loads → Loads
of_second l = record {
  schema = Second;
  row = l.row;
  balance = l.balance;
  keys = l.keys;
  aggregates = l.aggregates;
}

cell_alike : (l : Loads) (c : Column) → cell_in (of_second l) c ≡ cell_in l c
cell_alike l column.Date = refl
cell_alike l column.Year = refl
cell_alike l column.Month = refl
cell_alike l column.Day = refl
cell_alike l column.Flag = refl
cell_alike l column.Payee = refl
cell_alike l column.Narration = refl
cell_alike l column.Tags = refl
cell_alike l column.Links = refl
cell_alike l column.Account = refl
cell_alike l column.PostingFlag = refl
cell_alike l column.Number = refl
cell_alike l column.Currency = refl
cell_alike l column.CostNumber = refl
cell_alike l column.CostCurrency = refl
cell_alike l column.CostDate = refl
cell_alike l column.CostLabel = refl
cell_alike l column.Position = refl
cell_alike l column.Weight = refl
cell_alike l column.Balance = refl
cell_alike l column.Lineno = refl
cell_alike l column.Accounts = refl
cell_alike l column.Price = refl

pub columns_alike : (l : Loads) (o : Option Column)
    → option_and_then (cell_in (of_second l)) o ≡ option_and_then (cell_in l) o
columns_alike l None = refl
columns_alike l (Some c) = cell_alike l c

loaded_alike : (pool : List Constant) (l : Loads) (op : pushes.Push)
    → KnowsColumn l.schema (Push op) → loaded pool (of_second l) op ≡ loaded pool l op
loaded_alike pool l push.True known = refl
loaded_alike pool l push.False known = refl
loaded_alike pool l (push.Const i) known = refl
loaded_alike pool l (push.LoadColumn n) known =
    columns_alike l (numbered_in Second n)
    ∙ ap (option_and_then (cell_in l)) (all_in (numbered n) ∙ sym known)
loaded_alike pool l (push.LoadKey k) known = refl
loaded_alike pool l (push.LoadAggregate a) known = refl
loaded_alike pool l (push.Meta i) known = refl
loaded_alike pool l (push.EntryMeta i) known = refl
loaded_alike pool l (push.AnyMeta i) known = refl

-- ---- what a section does

effect_alike : (pool : List Constant) (l : Loads) (i : Instruction) (s : State Value)
    → KnowsColumn l.schema i
    → effect (value_acts pool (of_second l)) i s ≡ effect (value_acts pool l) i s
effect_alike pool l (Push op) s known =
    ap (λ x. with_slots s.slots (with_top (option_and_then (checked true) x) s.stack))
    (loaded_alike pool l op known)
effect_alike pool l (Unary op) s known = refl
effect_alike pool l (Binary op) s known = refl
effect_alike pool l (LoadSlot k) s known = refl
effect_alike pool l (StoreSlot k) s known = refl
effect_alike pool l (Jump to) s known = refl
effect_alike pool l (JumpIfFalse to) s known = refl

known_at : (v : Version) (code : List Instruction) (q : ℕ) (i : Instruction)
    → AllByRecursion (KnowsColumn v) code → slice_get code q ≡ Some i → KnowsColumn v i
known_at v [] q i all e = absurd cc
known_at v (j ∷ code) zero i all e =
    let same : j ≡ i = cc in subst (KnowsColumn v) same all.0
known_at v (j ∷ code) (suc q) i all e = known_at v code q i all.1 e

stepped_alike : (pool : List Constant) (l : Loads) (code : List Instruction)
    (o : Option Instruction) (q : ℕ) (s : State Value)
    → ((i : Instruction) → o ≡ Some i → KnowsColumn l.schema i)
    → stepped (length code) (value_acts pool (of_second l)) o q s
    ≡ stepped (length code) (value_acts pool l) o q s
stepped_alike pool l code None q s known = refl
stepped_alike pool l code (Some i) q s known =
    ap (λ x. cond (leads_on (length code) q i) (moved (next_place i q s.stack) x) Stopped)
    (effect_alike pool l i s (known i refl))

step_alike : (pool : List Constant) (l : Loads) (code : List Instruction) (o : Outcome)
    → AllByRecursion (KnowsColumn l.schema) code
    → one_step code (value_acts pool (of_second l)) o ≡ one_step code (value_acts pool l) o
step_alike pool l code Stopped all = refl
step_alike pool l code (Standing q s) all =
    stepped_alike pool l code (slice_get code q) q s (λ i e. known_at l.schema code q i all e)

-- ---- from section to section, which asks for no bounds

module _ {X : Type 0} (p : Parts) where
  begin_last_alike : (gs : List (Group X)) (rows : List (List Value))
      → begin_last (upgraded p) gs rows ≡ begin_last p gs rows
  begin_last_alike [] rows = refl
  begin_last_alike (g ∷ gs) rows = refl

  go_on_last_alike : (gs : List (Group X)) (rows : List (List Value)) (o : Option (List Value))
      → go_on_last (upgraded p) gs rows o ≡ go_on_last p gs rows o
  go_on_last_alike gs rows None = refl
  go_on_last_alike gs rows (Some row) = begin_last_alike gs _

  pub begin_filter_alike : (rows : List Row) (k : Kept X)
      → begin_filter (upgraded p) rows k ≡ begin_filter p rows k
  begin_filter_alike [] k = begin_last_alike k.groups k.rows
  begin_filter_alike (r ∷ rest) k = refl

  go_on_alike : (rows : List Row) (o : Option (Kept X))
      → go_on (upgraded p) rows o ≡ go_on p rows o
  go_on_alike rows None = refl
  go_on_alike rows (Some k) = begin_filter_alike rows k

module _ {X : Type 0} (keep : Keeping X) (p : Parts) where
  begin_row_alike : (r : Row) (rest : List Row) (o : Option (Kept X))
      → begin_row keep (upgraded p) r rest o ≡ begin_row keep p r rest o
  begin_row_alike r rest None = refl
  begin_row_alike r rest (Some k) =
      ap (λ x. cond (eqb (length p.code.row) 0) x (InRow r rest k 0 start))
      (go_on_alike p rest (kept_with keep p k []))

  judged_alike : (r : Row) (rest : List Row) (k : Kept X) (o : Option Bool)
      → judged keep (upgraded p) r rest k o ≡ judged keep p r rest k o
  judged_alike r rest k None = refl
  judged_alike r rest k (Some true) = begin_row_alike r rest _
  judged_alike r rest k (Some false) = begin_filter_alike p rest k

  pub in_filter_alike : (r : Row) (rest : List Row) (k : Kept X) (o : Outcome)
      → in_filter keep (upgraded p) r rest k o ≡ in_filter keep p r rest k o
  in_filter_alike r rest k Stopped = refl
  in_filter_alike r rest k (Standing q s) =
      ap (λ x. cond (eqb q (length p.code.filter)) x (InFilter r rest k q s))
      (judged_alike r rest k (one_truth s.stack))

  pub in_row_alike : (r : Row) (rest : List Row) (k : Kept X) (o : Outcome)
      → in_row keep (upgraded p) r rest k o ≡ in_row keep p r rest k o
  in_row_alike r rest k Stopped = refl
  in_row_alike r rest k (Standing q s) =
      ap (λ x. cond (eqb q (length p.code.row)) x (InRow r rest k q s))
      (go_on_alike p rest (kept_with keep p k s.stack))

  pub in_last_alike : (g : Group X) (gs : List (Group X)) (rows : List (List Value)) (o : Outcome)
      → in_last keep (upgraded p) g gs rows o ≡ in_last keep p g gs rows o
  in_last_alike g gs rows Stopped = refl
  in_last_alike g gs rows (Standing q s) =
      ap (λ x. cond (eqb q (length p.code.last)) x (InLast g gs rows q s))
      (go_on_last_alike p gs rows (row_of p.output s.stack))

  module _ (names : NamesItsColumns p) where
    one_alike : (s : Stand X) → step keep (upgraded p) s ≡ step keep p s
    one_alike (InFilter r rest k q s) =
        in_filter_alike r rest k _
        ∙ ap (in_filter keep p r rest k)
        (step_alike p.code.pool (filter_loads p.bounds.schema r) p.code.filter (Standing q s)
        names.filter)
    one_alike (InRow r rest k q s) =
        in_row_alike r rest k _
        ∙ ap (in_row keep p r rest k)
        (step_alike p.code.pool (row_loads p.bounds.schema p.mode k.running r) p.code.row
        (Standing q s) names.row)
    one_alike (InLast g gs rows q s) =
        in_last_alike g gs rows _
        ∙ ap (in_last keep p g gs rows)
        (step_alike p.code.pool (last_loads p.bounds.schema g.0 (keep.values g.1)) p.code.last
        (Standing q s) names.last)
    one_alike (Done rows) = refl
    one_alike Fault = refl

    steps_alike : (n : ℕ) (s : Stand X) → steps keep (upgraded p) n s ≡ steps keep p n s
    steps_alike zero s = refl
    steps_alike (suc n) s =
        one_alike (steps keep (upgraded p) n s) ∙ ap (step keep p) (steps_alike n s)

    pub after_alike : (rows : List Row) (n : ℕ)
        → after keep (upgraded p) rows n ≡ after keep p rows n
    after_alike rows n =
        steps_alike n (begin (upgraded p) rows)
        ∙ ap (steps keep p n) (begin_filter_alike p rows nothing_kept)

pub runs_alike : (p : Parts) → NamesItsColumns p → (rows : List Row) (n : ℕ)
    → after (all_inputs p.code.aggregates) (upgraded p) rows n
    ≡ after (all_inputs p.code.aggregates) p rows n
runs_alike p names rows n = after_alike (all_inputs p.code.aggregates) p names rows n
