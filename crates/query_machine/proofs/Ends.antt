-- Where a run stands behind a turn, and what it answers at its end.
use Rattle.std.proofs.Common.{◌≡◌, ◌≢◌, ℕ, ◌+◌, ◌-◌, ◌<◌, ◌≤◌, ◌^◌, List, [], ◌∷◌, length, drop}
use Rattle.std.proofs.Common.{true, false, refl, sym, ap, subst, ◌∙◌, arith, inl, inr}
use Rattle.std.proofs.lemmas.List.{append-nil}
use Rattle.final_rows.specs.Enough.{AreEnough}
use Rattle.std.proofs.lemmas.Bool.{cases_lt}
use Rattle.plain_machine.specs.Finishing.{ComesOut}
use Rattle.plain_machine.specs.Gathering.{Group}
use Rattle.plain_machine.specs.PlainMachine.{Done, Fault, stand_after, steps}
use Rattle.plain_machine.specs.WholeRun.{is_going}
use Rattle.query_answer.specs.declared.answer.Answer.{Answer}
use Rattle.query_code.specs.declared.program.Parts.{Parts}
use Rattle.query_machine.proofs.Bounds.{few_steps}
use Rattle.query_machine.proofs.Trimming.{ended_alike, few_given, goes_alike, goes_trimmed, kept_are}
use Rattle.query_machine.proofs.Trimming.{run_with, trimmed_safe, trims_more}
use Rattle.query_machine.specs.Progress.{IsUnderWay}
use Rattle.query_machine.specs.Run.{At, Ended, Failed, Place}
use Rattle.query_machine.specs.RunOf.{IsRunOf}
use Rattle.query_machine.specs.Trimmed.{IsTrimmed, rows_given}
use Rattle.query_machine.specs.Turns.{HasEnded, StandsAfter}
use Rattle.query_machine.specs.declared.progress.Standing.{Standing}
use Rattle.query_rows.specs.Row.{Row}
use Rattle.query_runs.proofs.SafeRuns.{ends_as_plain, goes_as_plain}
use Rattle.query_runs.proofs.Turning.{safe_further, steps_add}
use Rattle.query_runs.specs.Stands.{Gathered, by_stage, in_filter_at, in_last_at, in_row_at, keeps}
use Rattle.query_runs.specs.Stands.{run_after, stand_of}
use Rattle.query_runs.specs.Turns.{GoesOn, IsSafe, is_at_end}
use Rattle.query_values.specs.declared.value.Value.{Value}
use Rattle.query_runs.specs.declared.run.Run as runs
use Rattle.query_runs.specs.declared.run.Stage.{Stage}
use Rattle.query_runs.specs.declared.run.Stage.TheVariants as stage

-- ---- the end

module _ (rows : List Row) (r : runs.Run) where
  pub stands_ended : is_at_end r.stage ≡ true → stand_of rows r ≡ Done r.rows
  stands_ended = by r.stage
    where
      by : (s : Stage) → is_at_end s ≡ true → by_stage s rows r ≡ Done r.rows
      by stage.Filter e = absurd cc
      by stage.Row e = absurd cc
      by stage.Last e = absurd cc
      by stage.Done e = refl

  pub stands_going : is_at_end r.stage ≡ false → stand_of rows r ≢ Fault
      → is_going (stand_of rows r) ≡ true
  stands_going = by r.stage
    where
      filter : (left : List Row) → in_filter_at left r ≢ Fault
          → is_going (in_filter_at left r) ≡ true
      filter [] fine = absurd (fine refl)
      filter (x ∷ rest) fine = refl

      row : (left : List Row) → in_row_at left r ≢ Fault → is_going (in_row_at left r) ≡ true
      row [] fine = absurd (fine refl)
      row (x ∷ rest) fine = refl

      last : (left : List (Group Gathered)) → in_last_at left r ≢ Fault
          → is_going (in_last_at left r) ≡ true
      last [] fine = absurd (fine refl)
      last (g ∷ rest) fine = refl

      by : (s : Stage) → is_at_end s ≡ false → by_stage s rows r ≢ Fault
          → is_going (by_stage s rows r) ≡ true
      by stage.Filter e fine = filter (drop r.row rows) fine
      by stage.Row e fine = row (drop r.row rows) fine
      by stage.Last e fine = last (drop r.group r.groups) fine
      by stage.Done e fine = absurd cc

-- ---- what it comes to

-- what has ended after some steps has done so after more
pub later_end : (p : Parts) (rows : List Row) (n m : ℕ) (place : Place) → n ≤ m → HasEnded place
    → StandsAfter p rows n place → StandsAfter p rows m place
later_end p rows n m (At steps) more ended stands = absurd ended
later_end p rows n m (Ended answer) more ended stands =
    let few = stands.1 in (stands.0, omega (arith, few, more))
later_end p rows n m Failed more ended stands = tt

-- ---- where it stands

module _ (p : Parts) (rows : List Row) (s : Standing) (under : IsUnderWay p rows s) where
  pub safe_here : IsSafe p (stand_of rows s.run) s.run.frame.stack.room
  safe_here =
      trimmed_safe p s.run.frame.stack.room s.dropped (stand_of rows s.run)
      (run_after p rows s.steps)
      (safe_further p s.run.frame.stack.room s.steps (run_after p rows 0)
      (run_after p rows s.steps) under.safe refl) under.stands

  kept_is : under.stands.rows ≡ s.run.rows
  kept_is =
      kept_are p rows s.run s.dropped (run_after p rows s.steps) (under.safe.never_faults s.steps)
      under.stands

  pub still_going : is_at_end s.run.stage ≡ false → is_going (stand_after p rows s.steps) ≡ true
  still_going inside =
      goes_as_plain p rows under.never s.steps
      ∙ sym (goes_alike p under.stands.rows (run_after p rows s.steps))
      ∙ ap is_going (sym under.stands.is)
      ∙ stands_going rows s.run inside (safe_here.never_faults 0)

  -- there are no more rows than steps
  pub rows_counted : s.dropped + length s.run.rows < 2 ^ 64
  rows_counted =
      let few = few_given p rows under.safe.never_faults s.steps in
      let steps_few = few_steps p rows under.never s.steps under.going in
      let brief = under.brief in
      let count = under.stands.count in
      let long = ap (λ l. length l) kept_is in
      omega (arith, few, steps_few, brief, count, long)

  pub run_of : (answer : Answer) → is_at_end s.run.stage ≡ true
      → answer.headers ≡ p.output.targets → ComesOut p.output s.run.rows answer.rows
      → answer.steps ≡ s.steps → answer.groups ≡ s.dropped + length s.run.rows
      → IsRunOf p rows answer
  run_of answer ended headers comes_out made groups = record {
    plain = record { steps = s.steps; rows = given; final = answer.rows };
    answers = record {
      done = ends_as_plain p rows under.never s.steps given
          (ended_alike p under.stands.rows s.run.rows (run_after p rows s.steps)
          (sym under.stands.is ∙ stands_ended rows s.run ended)).0;
      going = λ k lt. goes_as_plain p rows under.never k ∙ under.going k lt;
      comes_out = subst (λ l. ComesOut p.output l answer.rows) (append-nil given)
          (under.stands.enough.alike [] answer.rows
          (subst (λ l. ComesOut p.output l answer.rows)
          (sym (append-nil under.stands.rows ∙ kept_is)) comes_out));
    };
    headers = headers;
    rows = refl;
    steps = made;
    groups = groups ∙ ap (λ l. s.dropped + length l) (sym kept_is) ∙ under.stands.count;
  }
    where
      given : List (List Value)
      given = rows_given (run_after p rows s.steps)

  -- with fewer rows
  pub drops : (few : List (List Value)) (dropped : ℕ)
      → AreEnough p.output few s.run.rows
      → s.dropped + length s.run.rows ≡ dropped + length few
      → IsUnderWay p rows
      (record { run = run_with p rows s.run few; steps = s.steps; dropped = dropped })
  drops few dropped enough same = record {
    safe = under.safe;
    never = under.never;
    built = under.built;
    brief = under.brief;
    stands = trims_more p rows s.run few s.dropped dropped (run_after p rows s.steps)
        (under.safe.never_faults s.steps) under.stands enough same;
    going = under.going;
  }

-- ---- behind a stretch of steps

module _ (p : Parts) (rows : List Row) (s : Standing) (under : IsUnderWay p rows s) (made : ℕ)
    (new : runs.Run) (goes : GoesOn p made (stand_of rows s.run) (stand_of rows new)) where
  trimmed_on : (n : ℕ) → IsTrimmed p s.dropped (steps (keeps p) p n (stand_of rows s.run))
      (steps (keeps p) p n (run_after p rows s.steps))
  trimmed_on =
      goes_trimmed p s.dropped (stand_of rows s.run) (run_after p rows s.steps)
      (λ n fault. under.safe.never_faults (s.steps + n)
      (steps_add p s.steps n (run_after p rows 0) ∙ fault)) under.stands

  comes : IsTrimmed p s.dropped (stand_of rows new) (run_after p rows (s.steps + made))
  comes =
      subst (λ t. IsTrimmed p s.dropped t (run_after p rows (s.steps + made))) (sym goes.comes)
      (subst (IsTrimmed p s.dropped (steps (keeps p) p made (stand_of rows s.run)))
      (sym (steps_add p s.steps made (run_after p rows 0))) (trimmed_on made))

  goes_further : (k : ℕ) → k < s.steps + made → is_going (run_after p rows k) ≡ true
  goes_further k lt =
      elim (cases_lt k s.steps) [
        | inl less ↦ under.going k less
        | inr past ↦
            let there = trimmed_on (k - s.steps) in
            ap is_going (ap (run_after p rows) (split past)
            ∙ steps_add p s.steps (k - s.steps) (run_after p rows 0))
            ∙ sym (goes_alike p there.rows (steps (keeps p) p (k - s.steps) (run_after p rows s.steps)))
            ∙ ap is_going (sym there.is)
            ∙ goes.going (k - s.steps) (omega arith)
      ]
    where
      split : s.steps ≤ k → k ≡ s.steps + (k - s.steps)
      split le = omega arith

  pub counted : s.steps + made < 2 ^ 64
  counted =
      let few = few_steps p rows under.never (s.steps + made) goes_further in
      let brief = under.brief in
      omega (arith, few, brief)

  pub still_under_way : (t : Standing) → t.run ≡ new → t.steps ≡ s.steps + made
      → t.dropped ≡ s.dropped → new.finders ≡ s.run.finders
      → new.frame.stack.room ≡ s.run.frame.stack.room → IsUnderWay p rows t
  still_under_way t run_is steps_is dropped_is finders room = record {
    safe = subst (IsSafe p (run_after p rows 0))
        (sym (ap (λ (r : runs.Run). r.frame.stack.room) run_is ∙ room)) under.safe;
    never = under.never;
    built = ap (λ (r : runs.Run). r.finders) run_is ∙ finders ∙ under.built;
    brief = under.brief;
    stands = subst (λ d. IsTrimmed p d (stand_of rows t.run) (run_after p rows t.steps))
        (sym dropped_is)
        (subst (λ n. IsTrimmed p s.dropped (stand_of rows t.run) (run_after p rows n)) (sym steps_is)
        (subst (λ r. IsTrimmed p s.dropped (stand_of rows r) (run_after p rows (s.steps + made)))
        (sym run_is) comes));
    going = λ k lt. goes_further k (omega (arith, lt, steps_is));
  }
