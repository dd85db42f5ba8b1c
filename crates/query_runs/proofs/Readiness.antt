-- Wherever the plain machine stands, an instruction is there.
use Rattle.std.proofs.Common.{◌≡◌, ℕ, zero, suc, ◌<◌, ◌≤◌, List, [], ◌∷◌, length, cond}
use Rattle.std.proofs.Common.{Bool, true, false, Option, Some, None, refl, sym, ◌∙◌, arith}
use Rattle.std.proofs.Common.{inl, inr, ◌++◌, option_map}
use Rattle.std.proofs.lemmas.Bool.{cases_lt, eq-eqb, false≢true}
use Rattle.std.specs.Prelude.{slice_get, nat_eq, ⊤}
use Rattle.plain_machine.specs.Finishing.{are_orderable}
use Rattle.plain_machine.specs.Gathering.{Group}
use Rattle.plain_machine.specs.PlainMachine.{Kept, Stand, InFilter, InRow, InLast, Done, Fault}
use Rattle.plain_machine.specs.PlainMachine.{begin_filter, begin_last, begin_row, end_filter, end_last}
use Rattle.plain_machine.specs.PlainMachine.{end_row, filter_acts, go_on, go_on_last, in_filter, in_last}
use Rattle.plain_machine.specs.PlainMachine.{in_row, judged, kept_with, last_acts, nothing_kept}
use Rattle.plain_machine.specs.PlainMachine.{one_truth, row_acts, row_of, step, steps, with_running}
use Rattle.plain_machine.specs.SectionRun.{Acts, Outcome, Standing, State, Stopped, effect, leads_on}
use Rattle.plain_machine.specs.SectionRun.{moved, next_place, one_step, start, stepped}
use Rattle.query_code.specs.declared.instruction.Instruction.{Instruction}
use Rattle.query_code.specs.declared.program.Parts.{Parts}
use Rattle.query_rows.specs.Row.{Row}
use Rattle.query_sections.proofs.StepFacts.{next_within}
use Rattle.query_values.specs.declared.value.Value.{Value}
use Rattle.query_runs.specs.Stands.{Gathered, keeps, run_after}
use Rattle.query_runs.specs.Turns.{is_ready}

some_there : (n : ℕ) → nat_eq n 0 ≡ false → 0 < n
some_there zero e = absurd cc
some_there (suc n) e = omega arith

-- at most the end
WithinEnd : List Instruction → Outcome → Type 0
WithinEnd code Stopped = ⊤
WithinEnd code (Standing q s) = q ≤ length code

step_within : (code : List Instruction) (m : Acts Value) (q : ℕ) (s : State Value)
    → q < length code → WithinEnd code (one_step code m (Standing q s))
unfolding WithinEnd
step_within code m q s lt = at (slice_get code q)
  where
    to : (n : ℕ) (o : Option (State Value)) → n ≤ length code → WithinEnd code (moved n o)
    to n None h = tt
    to n (Some t) h = h

    by : (i : Instruction) (b : Bool) → leads_on (length code) q i ≡ b
        → WithinEnd code (cond b (moved (next_place i q s.stack) (effect m i s)) Stopped)
    by i true e =
        to (next_place i q s.stack) (effect m i s) (next_within (length code) q i s.stack e lt)
    by i false e = tt

    at : (o : Option Instruction) → WithinEnd code (stepped (length code) m o q s)
    at None = omega arith
    at (Some i) = by i (leads_on (length code) q i) refl

not_end : (q n : ℕ) → q ≤ n → nat_eq q n ≡ false → q < n
not_end q n le e =
    elim (cases_lt q n) [
      | inl lt ↦ lt
      | inr past ↦ absurd (false≢true (sym e ∙ eq-eqb q n (omega arith)))
    ]

module _ (p : Parts) where
  last_ready : (groups : List (Group Gathered)) (rows : List (List Value))
      → is_ready p (begin_last p groups rows)
  last_ready [] rows = by (are_orderable p.output.order rows)
    where
      by : (b : Bool) → is_ready p (cond b (Done rows) Fault)
      by true = tt
      by false = tt
  last_ready (g ∷ rest) rows = by (nat_eq (length p.code.last) 0) refl
    where
      by : (b : Bool) → nat_eq (length p.code.last) 0 ≡ b
          → is_ready p (cond b Fault (InLast g rest rows 0 start))
      by true e = tt
      by false e = some_there (length p.code.last) e

  filter_ready : (rows : List Row) (k : Kept Gathered) → is_ready p (begin_filter p rows k)
  filter_ready [] k = last_ready k.groups k.rows
  filter_ready (r ∷ rest) k = by (nat_eq (length p.code.filter) 0) refl
    where
      by : (b : Bool) → nat_eq (length p.code.filter) 0 ≡ b
          → is_ready p (cond b Fault (InFilter r rest k 0 start))
      by true e = tt
      by false e = some_there (length p.code.filter) e

  go_on_ready : (rest : List Row) (k : Option (Kept Gathered)) → is_ready p (go_on p rest k)
  go_on_ready rest None = tt
  go_on_ready rest (Some k) = filter_ready rest k

  row_ready : (r : Row) (rest : List Row) (k : Option (Kept Gathered))
      → is_ready p (begin_row (keeps p) p r rest k)
  row_ready r rest None = tt
  row_ready r rest (Some k) = by (nat_eq (length p.code.row) 0) refl
    where
      by : (b : Bool) → nat_eq (length p.code.row) 0 ≡ b
          → is_ready p (cond b (end_row (keeps p) p rest k []) (InRow r rest k 0 start))
      by true e = go_on_ready rest (kept_with (keeps p) p k [])
      by false e = some_there (length p.code.row) e

  judged_ready : (r : Row) (rest : List Row) (k : Kept Gathered) (t : Option Bool)
      → is_ready p (judged (keeps p) p r rest k t)
  judged_ready r rest k None = tt
  judged_ready r rest k (Some true) =
      row_ready r rest (option_map (with_running k) ((keeps p).running_on k.running r))
  judged_ready r rest k (Some false) = filter_ready rest k

  end_last_ready : (rest : List (Group Gathered)) (rows : List (List Value)) (row : Option (List Value))
      → is_ready p (go_on_last p rest rows row)
  end_last_ready rest rows None = tt
  end_last_ready rest rows (Some row) = last_ready rest (rows ++ row ∷ [])

  in_filter_ready : (r : Row) (rest : List Row) (k : Kept Gathered) (o : Outcome)
      → WithinEnd p.code.filter o → is_ready p (in_filter (keeps p) p r rest k o)
  unfolding WithinEnd
  in_filter_ready r rest k Stopped h = tt
  in_filter_ready r rest k (Standing q s) h = by (nat_eq q (length p.code.filter)) refl
    where
      by : (b : Bool) → nat_eq q (length p.code.filter) ≡ b
          → is_ready p (cond b (end_filter (keeps p) p r rest k s.stack) (InFilter r rest k q s))
      by true e = judged_ready r rest k (one_truth s.stack)
      by false e = not_end q (length p.code.filter) h e

  in_row_ready : (r : Row) (rest : List Row) (k : Kept Gathered) (o : Outcome)
      → WithinEnd p.code.row o → is_ready p (in_row (keeps p) p r rest k o)
  unfolding WithinEnd
  in_row_ready r rest k Stopped h = tt
  in_row_ready r rest k (Standing q s) h = by (nat_eq q (length p.code.row)) refl
    where
      by : (b : Bool) → nat_eq q (length p.code.row) ≡ b
          → is_ready p (cond b (end_row (keeps p) p rest k s.stack) (InRow r rest k q s))
      by true e = go_on_ready rest (kept_with (keeps p) p k s.stack)
      by false e = not_end q (length p.code.row) h e

  in_last_ready : (g : Group Gathered) (rest : List (Group Gathered)) (rows : List (List Value))
      (o : Outcome) → WithinEnd p.code.last o → is_ready p (in_last (keeps p) p g rest rows o)
  unfolding WithinEnd
  in_last_ready g rest rows Stopped h = tt
  in_last_ready g rest rows (Standing q s) h = by (nat_eq q (length p.code.last)) refl
    where
      by : (b : Bool) → nat_eq q (length p.code.last) ≡ b
          → is_ready p (cond b (end_last p rest rows s.stack) (InLast g rest rows q s))
      by true e = end_last_ready rest rows (row_of p.output s.stack)
      by false e = not_end q (length p.code.last) h e

  step_ready : (s : Stand Gathered) → is_ready p s → is_ready p (step (keeps p) p s)
  step_ready (InFilter r rest k q s) h =
      in_filter_ready r rest k (one_step p.code.filter (filter_acts p r) (Standing q s))
      (step_within p.code.filter (filter_acts p r) q s h)
  step_ready (InRow r rest k q s) h =
      in_row_ready r rest k (one_step p.code.row (row_acts p k.running r) (Standing q s))
      (step_within p.code.row (row_acts p k.running r) q s h)
  step_ready (InLast g rest rows q s) h =
      in_last_ready g rest rows (one_step p.code.last (last_acts (keeps p) p g) (Standing q s))
      (step_within p.code.last (last_acts (keeps p) p g) q s h)
  step_ready (Done rows) h = tt
  step_ready Fault h = tt

  pub begins_ready : (rows : List Row) → is_ready p (run_after p rows 0)
  begins_ready rows = filter_ready rows nothing_kept

  pub stays_ready : (s : Stand Gathered) → is_ready p s → (n : ℕ)
      → is_ready p (steps (keeps p) p n s)
  stays_ready s ready zero = ready
  stays_ready s ready (suc n) = step_ready (steps (keeps p) p n s) (stays_ready s ready n)
