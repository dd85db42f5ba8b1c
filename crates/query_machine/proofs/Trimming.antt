-- Rows that a run lets go of change nothing of where it goes.
use Rattle.std.proofs.Common.{◌≡◌, ◌≢◌, ℕ, zero, suc, ◌+◌, ◌≤◌, Bool, true, false, cond, List, []}
use Rattle.std.proofs.Common.{◌∷◌, ◌++◌, length, reverse, take, drop, Option, Some, None, option_map, refl}
use Rattle.std.proofs.Common.{sym, ap, subst, ◌∙◌, arith}
use Rattle.std.specs.Prelude.{nat_eq}
use Rattle.std.specs.List.{list_all}
use Rattle.std.proofs.lemmas.Bool.{and_parts}
use Rattle.std.proofs.lemmas.List.{append-nil, length-append}
use Rattle.final_rows.proofs.EnoughFacts.{all_enough, among_behind, both, enough_behind}
use Rattle.final_rows.proofs.EnoughFacts.{enough_of_enough}
use Rattle.final_rows.specs.Enough.{AreAmong, AreEnough}
use Rattle.plain_machine.specs.Depth.{outcome_of, values_in}
use Rattle.plain_machine.specs.Finishing.{are_orderable, have_order}
use Rattle.plain_machine.specs.Gathering.{Group, inputs_of, put}
use Rattle.plain_machine.specs.PlainMachine.{Kept, Stand, InFilter, InRow, InLast, Done, Fault}
use Rattle.plain_machine.specs.PlainMachine.{begin_filter, begin_last, begin_row, end_last, end_row}
use Rattle.plain_machine.specs.PlainMachine.{ended, filter_acts, go_on, go_on_last, grouped_with}
use Rattle.plain_machine.specs.PlainMachine.{in_filter, in_last, in_row, judged, kept_with, last_acts}
use Rattle.plain_machine.specs.PlainMachine.{nothing_kept, one_truth, row_acts, row_of}
use Rattle.plain_machine.specs.PlainMachine.{step, steps, with_groups, with_row, with_running}
use Rattle.plain_machine.specs.SectionRun.{Outcome, Standing, Stopped, one_step, start}
use Rattle.plain_machine.specs.WholeRun.{is_going}
use Rattle.query_code.specs.QueryFile.{is_grouped}
use Rattle.query_code.specs.declared.program.Parts.{Parts}
use Rattle.query_machine.specs.Trimmed.{IsTrimmed, having, rows_given, with_rows}
use Rattle.query_rows.specs.Row.{Row}
use Rattle.query_runs.specs.Stands.{Gathered, by_stage, in_filter_at, in_last_at, in_row_at, keeps}
use Rattle.query_runs.specs.Stands.{run_after, stand_of}
use Rattle.query_runs.specs.Turns.{IsSafe, is_ready}
use Rattle.query_runs.specs.declared.run.Run.{Run}
use Rattle.query_runs.specs.declared.run.Stage.{Stage}
use Rattle.query_runs.specs.declared.run.Stage.TheVariants as stage
use Rattle.query_values.specs.declared.value.Value.{Value}

-- ---- rows that can be ordered

all_weaker : {X : Type 0} (f g : X → Bool) → ((x : X) → f x ≡ true → g x ≡ true) → (xs : List X)
    → list_all f xs ≡ true → list_all g xs ≡ true
all_weaker f g weaker [] e = refl
all_weaker f g weaker (x ∷ xs) e =
    let parts = and_parts (f x) (list_all f xs) e in
    both (g x) (list_all g xs) (weaker x parts.0) (all_weaker f g weaker xs parts.1)

still_orderable : (order : List ℕ) (kept rows : List (List Value)) → AreAmong kept rows
    → are_orderable order rows ≡ true → are_orderable order kept ≡ true
still_orderable order kept rows among e =
    among (λ a. list_all (have_order order a) kept)
    (all_weaker (λ a. list_all (have_order order a) rows) (λ a. list_all (have_order order a) kept)
    (λ a each. among (have_order order a) each) rows e)

-- ---- one step

module _ (p : Parts) where
  -- rows as they were
  abbrev Stays : List (List Value) → List (List Value) → Stand Gathered → Stand Gathered → Type 0
  Stays kept rows t s = (rows_given s ≡ rows) × (t ≡ with_rows kept s)

  -- one more row at most behind both
  record Follows (kept rows : List (List Value)) (t s : Stand Gathered) : Type 0 where
    new : List (List Value)
    few : length new ≤ 1
    stays : Stays (kept ++ new) (rows ++ new) t s

  as_it_was : (kept rows : List (List Value)) (t s : Stand Gathered) → Stays kept rows t s
      → Follows kept rows t s
  as_it_was kept rows t s stays = record {
    new = [];
    few = omega arith;
    stays = (
      stays.0 ∙ sym (append-nil rows),
      stays.1 ∙ ap (λ l. with_rows l s) (sym (append-nil kept)),
    );
  }

  done_where_orderable : (rows : List (List Value))
      → are_orderable p.output.order rows ≡ true → ◌≡◌ {A = Stand Gathered} (ended p rows) (Done rows)
  done_where_orderable rows e = ap (λ b. cond b (Done rows) Fault) e

  orderable_there : (rows : List (List Value)) → ◌≢◌ {A = Stand Gathered} (ended p rows) Fault
      → are_orderable p.output.order rows ≡ true
  orderable_there rows = by (are_orderable p.output.order rows)
    where
      by : (b : Bool) → ◌≢◌ {A = Stand Gathered} (cond b (Done rows) Fault) Fault → b ≡ true
      by true fine = refl
      by false fine = absurd (fine refl)

  end_stays : (kept rows : List (List Value)) → AreAmong kept rows
      → ◌≢◌ {A = Stand Gathered} (ended p rows) Fault → Stays kept rows (ended p kept) (ended p rows)
  end_stays kept rows among fine =
      let all = orderable_there rows fine in
      let some = still_orderable p.output.order kept rows among all in (
        ap rows_given (done_where_orderable rows all),
        done_where_orderable kept some
            ∙ ap (with_rows kept) (sym (done_where_orderable rows all)),
      )

  last_stays : (groups : List (Group Gathered)) (kept rows : List (List Value))
      → AreAmong kept rows → begin_last p groups rows ≢ Fault
      → Stays kept rows (begin_last p groups kept) (begin_last p groups rows)
  last_stays [] kept rows among fine = end_stays kept rows among fine
  last_stays (g ∷ rest) kept rows among fine = by (nat_eq (length p.code.last) 0) fine
    where
      by : (b : Bool) → cond b Fault (InLast g rest rows 0 start) ≢ Fault
          → Stays kept rows (cond b Fault (InLast g rest kept 0 start))
          (cond b Fault (InLast g rest rows 0 start))
      by true fine = absurd (fine refl)
      by false fine = (refl, refl)

  filter_stays : (left : List Row) (k : Kept Gathered) (kept : List (List Value))
      → AreAmong kept k.rows → begin_filter p left k ≢ Fault
      → Stays kept k.rows (begin_filter p left (having kept k)) (begin_filter p left k)
  filter_stays [] k kept among fine = last_stays k.groups kept k.rows among fine
  filter_stays (r ∷ rest) k kept among fine = by (nat_eq (length p.code.filter) 0) fine
    where
      by : (b : Bool) → cond b Fault (InFilter r rest k 0 start) ≢ Fault
          → Stays kept k.rows (cond b Fault (InFilter r rest (having kept k) 0 start))
          (cond b Fault (InFilter r rest k 0 start))
      by true fine = absurd (fine refl)
      by false fine = (refl, refl)

  -- what a row section leaves

  record KeepsAlike (kept : List (List Value)) (k h : Kept Gathered)
      (there : Option (Kept Gathered)) : Type 0 where
    new : List (List Value)
    few : length new ≤ 1
    given : h.rows ≡ k.rows ++ new
    is : there ≡ Some (having (kept ++ new) h)

  module _ (k : Kept Gathered) (kept : List (List Value)) where
    groups_alike : (h : Kept Gathered) (o : Option (List (Group Gathered)))
        → option_map (with_groups k) o ≡ Some h
        → KeepsAlike kept k h (option_map (with_groups (having kept k)) o)
    groups_alike h None e = absurd cc
    groups_alike h (Some groups) e =
        let same : with_groups k groups ≡ h = cc in record {
          new = [];
          few = omega arith;
          given = ap (λ (x : Kept Gathered). x.rows) (sym same) ∙ sym (append-nil k.rows);
          is = ap (λ (x : Kept Gathered). Some (having kept x)) same
              ∙ ap (λ l. Some (having l h)) (sym (append-nil kept));
        }

    gathered_alike : (h : Kept Gathered) (values : List Value)
        → grouped_with (keeps p) p k values ≡ Some h
        → KeepsAlike kept k h (grouped_with (keeps p) p (having kept k) values)
    gathered_alike h values =
        by (nat_eq (length values) (p.code.keys + inputs_of p.code.aggregates))
        (put (keeps p) k.groups (take p.code.keys values) (drop p.code.keys values))
      where
        by : (b : Bool) (o : Option (List (Group Gathered)))
            → cond b (option_map (with_groups k) o) None ≡ Some h
            → KeepsAlike kept k h (cond b (option_map (with_groups (having kept k)) o) None)
        by true o e = groups_alike h o e
        by false o e = absurd cc

    row_alike : (h : Kept Gathered) (o : Option (List Value)) → option_map (with_row k) o ≡ Some h
        → KeepsAlike kept k h (option_map (with_row (having kept k)) o)
    row_alike h None e = absurd cc
    row_alike h (Some row) e =
        let same : with_row k row ≡ h = cc in record {
          new = row ∷ [];
          few = omega arith;
          given = ap (λ (x : Kept Gathered). x.rows) (sym same);
          is = ap (λ (x : Kept Gathered). Some (having (kept ++ row ∷ []) x)) same;
        }

    kept_alike : (h : Kept Gathered) (stack : List Value)
        → kept_with (keeps p) p k stack ≡ Some h
        → KeepsAlike kept k h (kept_with (keeps p) p (having kept k) stack)
    kept_alike h stack = by (is_grouped p.mode)
      where
        by : (b : Bool)
            → cond b (grouped_with (keeps p) p k (reverse stack))
            (option_map (with_row k) (row_of p.output stack)) ≡ Some h
            → KeepsAlike kept k h (cond b (grouped_with (keeps p) p (having kept k) (reverse stack))
            (option_map (with_row (having kept k)) (row_of p.output stack)))
        by true e = gathered_alike h (reverse stack) e
        by false e = row_alike h (row_of p.output stack) e

  row_follows : (left : List Row) (k : Kept Gathered) (kept : List (List Value)) (stack : List Value)
      → AreAmong kept k.rows → end_row (keeps p) p left k stack ≢ Fault
      → Follows kept k.rows (end_row (keeps p) p left (having kept k) stack)
      (end_row (keeps p) p left k stack)
  row_follows left k kept stack among = by (kept_with (keeps p) p k stack) refl
    where
      by : (o : Option (Kept Gathered)) → kept_with (keeps p) p k stack ≡ o
          → go_on p left o ≢ Fault
          → Follows kept k.rows (end_row (keeps p) p left (having kept k) stack) (go_on p left o)
      by None e fine = absurd (fine refl)
      by (Some h) e fine =
          let alike = kept_alike k kept h stack e in
          let behind =
          filter_stays left h (kept ++ alike.new)
          (subst (AreAmong (kept ++ alike.new)) (sym alike.given)
          (among_behind kept k.rows alike.new among)) fine in record {
            new = alike.new;
            few = alike.few;
            stays = (behind.0 ∙ alike.given, ap (go_on p left) alike.is ∙ behind.1);
          }

  -- ---- the end of the filter

  begins_alike : (r : Row) (left : List Row) (k : Kept Gathered) (kept : List (List Value))
      → AreAmong kept k.rows → begin_row (keeps p) p r left (Some k) ≢ Fault
      → Follows kept k.rows (begin_row (keeps p) p r left (Some (having kept k)))
      (begin_row (keeps p) p r left (Some k))
  begins_alike r left k kept among =
      by (nat_eq (length p.code.row) 0) (row_follows left k kept [] among)
    where
      by : (b : Bool)
          → (end_row (keeps p) p left k [] ≢ Fault
          → Follows kept k.rows (end_row (keeps p) p left (having kept k) [])
          (end_row (keeps p) p left k []))
          → cond b (end_row (keeps p) p left k []) (InRow r left k 0 start) ≢ Fault
          → Follows kept k.rows
          (cond b (end_row (keeps p) p left (having kept k) []) (InRow r left (having kept k) 0 start))
          (cond b (end_row (keeps p) p left k []) (InRow r left k 0 start))
      by true ends fine = ends fine
      by false ends fine =
          as_it_was kept k.rows (InRow r left (having kept k) 0 start) (InRow r left k 0 start)
          (refl, refl)

  passes_alike : (r : Row) (left : List Row) (k : Kept Gathered) (kept : List (List Value))
      (o : Option Value) → AreAmong kept k.rows
      → begin_row (keeps p) p r left (option_map (with_running k) o) ≢ Fault
      → Follows kept k.rows
      (begin_row (keeps p) p r left (option_map (with_running (having kept k)) o))
      (begin_row (keeps p) p r left (option_map (with_running k) o))
  passes_alike r left k kept None among fine = absurd (fine refl)
  passes_alike r left k kept (Some v) among fine =
      begins_alike r left (with_running k v) kept among fine

  judged_alike : (r : Row) (left : List Row) (k : Kept Gathered) (kept : List (List Value))
      (o : Option Bool) → AreAmong kept k.rows → judged (keeps p) p r left k o ≢ Fault
      → Follows kept k.rows (judged (keeps p) p r left (having kept k) o)
      (judged (keeps p) p r left k o)
  judged_alike r left k kept None among fine = absurd (fine refl)
  judged_alike r left k kept (Some true) among fine =
      passes_alike r left k kept ((keeps p).running_on k.running r) among fine
  judged_alike r left k kept (Some false) among fine =
      as_it_was kept k.rows (begin_filter p left (having kept k)) (begin_filter p left k)
      (filter_stays left k kept among fine)

  -- ---- a step of each section

  in_filter_alike : (r : Row) (left : List Row) (k : Kept Gathered) (kept : List (List Value))
      (o : Outcome) → AreAmong kept k.rows → in_filter (keeps p) p r left k o ≢ Fault
      → Follows kept k.rows (in_filter (keeps p) p r left (having kept k) o)
      (in_filter (keeps p) p r left k o)
  in_filter_alike r left k kept Stopped among fine = absurd (fine refl)
  in_filter_alike r left k kept (Standing q s) among fine =
      by (nat_eq q (length p.code.filter)) (judged_alike r left k kept (one_truth s.stack) among)
      fine
    where
      by : (b : Bool)
          → (judged (keeps p) p r left k (one_truth s.stack) ≢ Fault
          → Follows kept k.rows (judged (keeps p) p r left (having kept k) (one_truth s.stack))
          (judged (keeps p) p r left k (one_truth s.stack)))
          → cond b (judged (keeps p) p r left k (one_truth s.stack)) (InFilter r left k q s) ≢ Fault
          → Follows kept k.rows
          (cond b (judged (keeps p) p r left (having kept k) (one_truth s.stack))
          (InFilter r left (having kept k) q s))
          (cond b (judged (keeps p) p r left k (one_truth s.stack)) (InFilter r left k q s))
      by true ends fine = ends fine
      by false ends fine =
          as_it_was kept k.rows (InFilter r left (having kept k) q s) (InFilter r left k q s)
          (refl, refl)

  in_row_alike : (r : Row) (left : List Row) (k : Kept Gathered) (kept : List (List Value))
      (o : Outcome) → AreAmong kept k.rows → in_row (keeps p) p r left k o ≢ Fault
      → Follows kept k.rows (in_row (keeps p) p r left (having kept k) o)
      (in_row (keeps p) p r left k o)
  in_row_alike r left k kept Stopped among fine = absurd (fine refl)
  in_row_alike r left k kept (Standing q s) among fine =
      by (nat_eq q (length p.code.row)) (row_follows left k kept s.stack among) fine
    where
      by : (b : Bool)
          → (end_row (keeps p) p left k s.stack ≢ Fault
          → Follows kept k.rows (end_row (keeps p) p left (having kept k) s.stack)
          (end_row (keeps p) p left k s.stack))
          → cond b (end_row (keeps p) p left k s.stack) (InRow r left k q s) ≢ Fault
          → Follows kept k.rows
          (cond b (end_row (keeps p) p left (having kept k) s.stack)
          (InRow r left (having kept k) q s))
          (cond b (end_row (keeps p) p left k s.stack) (InRow r left k q s))
      by true ends fine = ends fine
      by false ends fine =
          as_it_was kept k.rows (InRow r left (having kept k) q s) (InRow r left k q s)
          (refl, refl)

  last_follows : (rest : List (Group Gathered)) (kept rows : List (List Value))
      (o : Option (List Value)) → AreAmong kept rows → go_on_last p rest rows o ≢ Fault
      → Follows kept rows (go_on_last p rest kept o) (go_on_last p rest rows o)
  last_follows rest kept rows None among fine = absurd (fine refl)
  last_follows rest kept rows (Some row) among fine = record {
    new = row ∷ [];
    few = omega arith;
    stays = last_stays rest (kept ++ row ∷ []) (rows ++ row ∷ [])
        (among_behind kept rows (row ∷ []) among) fine;
  }

  in_last_alike : (g : Group Gathered) (rest : List (Group Gathered)) (kept rows : List (List Value))
      (o : Outcome) → AreAmong kept rows → in_last (keeps p) p g rest rows o ≢ Fault
      → Follows kept rows (in_last (keeps p) p g rest kept o) (in_last (keeps p) p g rest rows o)
  in_last_alike g rest kept rows Stopped among fine = absurd (fine refl)
  in_last_alike g rest kept rows (Standing q s) among fine =
      by (nat_eq q (length p.code.last)) (last_follows rest kept rows (row_of p.output s.stack) among)
      fine
    where
      by : (b : Bool)
          → (end_last p rest rows s.stack ≢ Fault
          → Follows kept rows (end_last p rest kept s.stack) (end_last p rest rows s.stack))
          → cond b (end_last p rest rows s.stack) (InLast g rest rows q s) ≢ Fault
          → Follows kept rows (cond b (end_last p rest kept s.stack) (InLast g rest kept q s))
          (cond b (end_last p rest rows s.stack) (InLast g rest rows q s))
      by true ends fine = ends fine
      by false ends fine =
          as_it_was kept rows (InLast g rest kept q s) (InLast g rest rows q s) (refl, refl)

  step_follows : (s : Stand Gathered) (kept : List (List Value)) → AreAmong kept (rows_given s)
      → step (keeps p) p s ≢ Fault
      → Follows kept (rows_given s) (step (keeps p) p (with_rows kept s)) (step (keeps p) p s)
  step_follows (InFilter r left k q s) kept among fine =
      in_filter_alike r left k kept (one_step p.code.filter (filter_acts p r) (Standing q s)) among
      fine
  step_follows (InRow r left k q s) kept among fine =
      in_row_alike r left k kept (one_step p.code.row (row_acts p k.running r) (Standing q s)) among
      fine
  step_follows (InLast g rest rows q s) kept among fine =
      in_last_alike g rest kept rows
      (one_step p.code.last (last_acts (keeps p) p g) (Standing q s)) among fine
  step_follows (Done rows) kept among fine =
      as_it_was kept rows (Done kept) (Done rows) (refl, refl)
  step_follows Fault kept among fine = absurd (fine refl)

  -- ---- many steps

  pub goes_trimmed : (dropped : ℕ) (t s : Stand Gathered)
      → ((n : ℕ) → steps (keeps p) p n s ≢ Fault) → IsTrimmed p dropped t s → (n : ℕ)
      → IsTrimmed p dropped (steps (keeps p) p n t) (steps (keeps p) p n s)
  goes_trimmed dropped t s fine trimmed zero = trimmed
  goes_trimmed dropped t s fine trimmed (suc n) =
      let before = goes_trimmed dropped t s fine trimmed n in
      let f =
      step_follows (steps (keeps p) p n s) before.rows before.enough.among (fine (suc n)) in
      let given = rows_given (steps (keeps p) p n s) in
      let count = before.count in
      let kept_long = length-append before.rows f.new in
      let long = ap (λ l. length l) f.stays.0 ∙ length-append given f.new in record {
        rows = before.rows ++ f.new;
        is = ap (step (keeps p) p) before.is ∙ f.stays.1;
        enough = subst (AreEnough p.output (before.rows ++ f.new)) (sym f.stays.0)
            (enough_behind p.output before.rows given f.new before.enough);
        count = omega (arith, count, kept_long, long);
      }

  none_given : (rows : List Row) → run_after p rows 0 ≢ Fault → rows_given (run_after p rows 0) ≡ []
  none_given rows fine = (filter_stays rows nothing_kept [] (λ holds e. e) fine).0

  -- each step gives at most one row
  pub few_given : (rows : List Row) → ((n : ℕ) → run_after p rows n ≢ Fault) → (n : ℕ)
      → length (rows_given (run_after p rows n)) ≤ n
  few_given rows fine zero =
      let none = ap (λ l. length l) (none_given rows (fine 0)) in omega (arith, none)
  few_given rows fine (suc n) =
      let s = run_after p rows n in
      let f = step_follows s (rows_given s) (λ holds e. e) (fine (suc n)) in
      let before = few_given rows fine n in
      let few = f.few in
      let long = ap (λ l. length l) f.stays.0 ∙ length-append (rows_given s) f.new in
      omega (arith, before, few, long)

  -- ---- what a stand has in common with a trimmed one

  pub goes_alike : (kept : List (List Value)) (s : Stand Gathered)
      → is_going (with_rows kept s) ≡ is_going s
  goes_alike kept (InFilter r rest k q s) = refl
  goes_alike kept (InRow r rest k q s) = refl
  goes_alike kept (InLast g rest rows q s) = refl
  goes_alike kept (Done rows) = refl
  goes_alike kept Fault = refl

  outcome_alike : (kept : List (List Value)) (s : Stand Gathered)
      → outcome_of (keeps p) p (with_rows kept s) ≡ outcome_of (keeps p) p s
  outcome_alike kept (InFilter r rest k q s) = refl
  outcome_alike kept (InRow r rest k q s) = refl
  outcome_alike kept (InLast g rest rows q s) = refl
  outcome_alike kept (Done rows) = refl
  outcome_alike kept Fault = refl

  ready_alike : (kept : List (List Value)) (s : Stand Gathered) → is_ready p s
      → is_ready p (with_rows kept s)
  ready_alike kept (InFilter r rest k q s) ready = ready
  ready_alike kept (InRow r rest k q s) ready = ready
  ready_alike kept (InLast g rest rows q s) ready = ready
  ready_alike kept (Done rows) ready = tt
  ready_alike kept Fault ready = tt

  fault_alike : (kept : List (List Value)) (s : Stand Gathered) → with_rows kept s ≡ Fault
      → s ≡ Fault
  fault_alike kept (InFilter r rest k q s) e = absurd cc
  fault_alike kept (InRow r rest k q s) e = absurd cc
  fault_alike kept (InLast g rest rows q s) e = absurd cc
  fault_alike kept (Done rows) e = absurd cc
  fault_alike kept Fault e = refl

  -- at its end it has the rows that were kept
  pub ended_alike : (kept rows : List (List Value)) (s : Stand Gathered)
      → with_rows kept s ≡ Done rows → (s ≡ Done (rows_given s)) × (kept ≡ rows)
  ended_alike kept rows (InFilter r rest k q s) e = absurd cc
  ended_alike kept rows (InRow r rest k q s) e = absurd cc
  ended_alike kept rows (InLast g rest out q s) e = absurd cc
  ended_alike kept rows (Done out) e = (refl, cc)
  ended_alike kept rows Fault e = absurd cc

  pub trimmed_safe : (room dropped : ℕ) (t s : Stand Gathered) → IsSafe p s room
      → IsTrimmed p dropped t s → IsSafe p t room
  trimmed_safe room dropped t s safe trimmed = record {
    ready = subst (is_ready p) (sym trimmed.is) (ready_alike trimmed.rows s safe.ready);
    never_faults = λ n fault.
        let there = goes_trimmed dropped t s safe.never_faults trimmed n in
        safe.never_faults n
        (fault_alike there.rows (steps (keeps p) p n s) (sym there.is ∙ fault));
    stays_within = λ n.
        let there = goes_trimmed dropped t s safe.never_faults trimmed n in
        subst (λ o. length (values_in o) ≤ room)
        (sym (ap (outcome_of (keeps p) p) there.is
        ∙ outcome_alike there.rows (steps (keeps p) p n s)))
        (safe.stays_within n);
  }

  pub not_trimmed : (s : Stand Gathered) → IsTrimmed p 0 s s
  not_trimmed s = record {
    rows = rows_given s;
    is = sym (own s);
    enough = all_enough p.output (rows_given s);
    count = omega arith;
  }
    where
      own : (s : Stand Gathered) → with_rows (rows_given s) s ≡ s
      own (InFilter r rest k q s) = refl
      own (InRow r rest k q s) = refl
      own (InLast g rest rows q s) = refl
      own (Done rows) = refl
      own Fault = refl

  -- ---- a run that lets go of rows

  with_others : (few kept : List (List Value)) (s : Stand Gathered)
      → with_rows few (with_rows kept s) ≡ with_rows few s
  with_others few kept (InFilter r rest k q s) = refl
  with_others few kept (InRow r rest k q s) = refl
  with_others few kept (InLast g rest rows q s) = refl
  with_others few kept (Done rows) = refl
  with_others few kept Fault = refl

  given_with : (kept : List (List Value)) (s : Stand Gathered) → s ≢ Fault
      → rows_given (with_rows kept s) ≡ kept
  given_with kept (InFilter r rest k q s) fine = refl
  given_with kept (InRow r rest k q s) fine = refl
  given_with kept (InLast g rest rows q s) fine = refl
  given_with kept (Done rows) fine = refl
  given_with kept Fault fine = absurd (fine refl)

  module _ (rows : List Row) (r : Run) where
    given_in : stand_of rows r ≢ Fault → rows_given (stand_of rows r) ≡ r.rows
    given_in = by r.stage
      where
        filter : (left : List Row) → in_filter_at left r ≢ Fault
            → rows_given (in_filter_at left r) ≡ r.rows
        filter [] fine = absurd (fine refl)
        filter (x ∷ rest) fine = refl

        row : (left : List Row) → in_row_at left r ≢ Fault
            → rows_given (in_row_at left r) ≡ r.rows
        row [] fine = absurd (fine refl)
        row (x ∷ rest) fine = refl

        last : (left : List (Group Gathered)) → in_last_at left r ≢ Fault
            → rows_given (in_last_at left r) ≡ r.rows
        last [] fine = absurd (fine refl)
        last (g ∷ rest) fine = refl

        by : (s : Stage) → by_stage s rows r ≢ Fault
            → rows_given (by_stage s rows r) ≡ r.rows
        by stage.Filter fine = filter (drop r.row rows) fine
        by stage.Row fine = row (drop r.row rows) fine
        by stage.Last fine = last (drop r.group r.groups) fine
        by stage.Done fine = refl

    -- the rows of a trimmed stand are those that its run has
    pub kept_are : (dropped : ℕ) (s : Stand Gathered) → s ≢ Fault
        → (trimmed : IsTrimmed p dropped (stand_of rows r) s) → trimmed.rows ≡ r.rows
    kept_are dropped s fine trimmed =
        sym (given_with trimmed.rows s fine) ∙ ap rows_given (sym trimmed.is)
        ∙ given_in (λ fault. fine (fault_alike trimmed.rows s (sym trimmed.is ∙ fault)))

    module _ (few : List (List Value)) where
      abbrev pub run_with : Run
      run_with = record {
        stage = r.stage;
        row = r.row;
        group = r.group;
        frame = r.frame;
        finders = r.finders;
        running = r.running;
        groups = r.groups;
        rows = few;
      }

      stands_with : stand_of rows run_with ≡ with_rows few (stand_of rows r)
      stands_with = by r.stage
        where
          filter : (left : List Row)
              → in_filter_at left run_with ≡ with_rows few (in_filter_at left r)
          filter [] = refl
          filter (x ∷ rest) = refl

          row : (left : List Row)
              → in_row_at left run_with ≡ with_rows few (in_row_at left r)
          row [] = refl
          row (x ∷ rest) = refl

          last : (left : List (Group Gathered))
              → in_last_at left run_with ≡ with_rows few (in_last_at left r)
          last [] = refl
          last (g ∷ rest) = refl

          by : (s : Stage) → by_stage s rows run_with ≡ with_rows few (by_stage s rows r)
          by stage.Filter = filter (drop r.row rows)
          by stage.Row = row (drop r.row rows)
          by stage.Last = last (drop r.group r.groups)
          by stage.Done = refl

      pub trims_more : (dropped more : ℕ) (s : Stand Gathered) → s ≢ Fault
          → IsTrimmed p dropped (stand_of rows r) s → AreEnough p.output few r.rows
          → dropped + length r.rows ≡ more + length few
          → IsTrimmed p more (stand_of rows run_with) s
      trims_more dropped more s fine trimmed enough same =
          let kept = kept_are dropped s fine trimmed in
          let count = trimmed.count in
          let long = ap (λ l. length l) kept in record {
            rows = few;
            is = stands_with ∙ ap (with_rows few) trimmed.is
                ∙ with_others few trimmed.rows s;
            enough = enough_of_enough p.output few r.rows (rows_given s) enough
                (subst (λ l. AreEnough p.output l (rows_given s)) kept trimmed.enough);
            count = omega (arith, count, long, same);
          }
