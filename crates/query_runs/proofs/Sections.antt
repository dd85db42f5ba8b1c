-- The steps of one section are steps of the whole machine.
use Rattle.std.proofs.Common.{◌≡◌, ◌≢◌, ℕ, zero, suc, ◌+◌, ◌<◌, ◌≤◌, List, length, true, refl, sym, ap}
use Rattle.std.proofs.Common.{subst, ◌∙◌, arith, inl, inr, ◌⊎◌, add-suc}
use Rattle.std.proofs.lemmas.Bool.{cases_lt}
use Rattle.std.proofs.lemmas.Option.{slice_get_past}
use Rattle.plain_machine.specs.Depth.{outcome_of, values_in}
use Rattle.plain_machine.specs.PlainMachine.{Stand, Fault, step, steps}
use Rattle.plain_machine.specs.SectionRun.{Acts, Outcome, Standing, State, Stopped, after_steps}
use Rattle.plain_machine.specs.SectionRun.{one_step, stepped}
use Rattle.plain_machine.specs.WholeRun.{is_going}
use Rattle.query_code.specs.declared.instruction.Instruction.{Instruction}
use Rattle.query_code.specs.declared.program.Parts.{Parts}
use Rattle.query_sections.specs.Room.{AreInside, GoesSafely, IsInside, OutcomeHasRoom}
use Rattle.query_values.specs.declared.value.Value.{Value}
use Rattle.query_runs.specs.Stands.{Gathered, keeps}
use Rattle.query_runs.proofs.Turning.{AreGoing}
use Rattle.query_runs.specs.Turns.{IsSafe}

-- what a section's outcome is to the whole machine
pub record IsSection (p : Parts) (code : List Instruction) (m : Acts Value)
    (lift : Outcome → Stand Gathered) (at : ℕ → State Value → Stand Gathered) : Type 0 where
  pub stops : lift Stopped ≡ Fault
  pub inside : (q : ℕ) (s : State Value) → q < length code → lift (Standing q s) ≡ at q s
  pub steps : (q : ℕ) (s : State Value)
      → step (keeps p) p (at q s) ≡ lift (one_step code m (Standing q s))
  pub shows : (q : ℕ) (s : State Value)
      → outcome_of (keeps p) p (at q s) ≡ one_step code m (Standing q s)
  pub goes : (q : ℕ) (s : State Value) → is_going (at q s) ≡ true

module _ (p : Parts) (from : Stand Gathered) (code : List Instruction) (m : Acts Value)
    (lift : Outcome → Stand Gathered) (at : ℕ → State Value → Stand Gathered)
    (is : IsSection p code m lift at) where
  step_on : (o : Outcome) → IsInside code o → step (keeps p) p (lift o) ≡ lift (one_step code m o)
  step_on Stopped h = absurd h
  step_on (Standing q s) h = ap (step (keeps p) p) (is.inside q s h) ∙ is.steps q s

  shown_on : (o : Outcome) → IsInside code o
      → outcome_of (keeps p) p (lift o) ≡ one_step code m o
  shown_on Stopped h = absurd h
  shown_on (Standing q s) h = ap (outcome_of (keeps p) p) (is.inside q s h) ∙ is.shows q s

  goes_on : (o : Outcome) → IsInside code o → is_going (lift o) ≡ true
  goes_on Stopped h = absurd h
  goes_on (Standing q s) h = ap is_going (is.inside q s h) ∙ is.goes q s

  module _ (before : ℕ) (o : Outcome) (here : steps (keeps p) p before from ≡ lift o) where
    pub reached : (n : ℕ) → AreInside code m n o
        → steps (keeps p) p (before + n) from ≡ lift (after_steps code m n o)
    reached zero are = ap (λ n. steps (keeps p) p n from) (none before) ∙ here
      where
        none : (n : ℕ) → n + 0 ≡ n
        none n = omega arith
    reached (suc n) are =
        ap (λ n. steps (keeps p) p n from) (add-suc before n)
        ∙ ap (step (keeps p) p) (reached n (λ k lt. are k (omega arith)))
        ∙ step_on (after_steps code m n o) (are n (omega arith))

    pub going : (n : ℕ) → AreInside code m n o → AreGoing p from before n
    going n are = record {
      each = λ k lt.
          ap is_going (reached k (λ i less. are i (omega arith)))
          ∙ goes_on (after_steps code m k o) (are k lt);
    }

    -- ---- no fault

    module _ (room : ℕ) (safe : IsSafe p from room) (within : IsInside code o) where
      has_room : (x : Outcome) → length (values_in x) ≤ room → x ≢ Stopped → OutcomeHasRoom room x
      has_room Stopped few there = there refl
      has_room (Standing q s) few there = few

      room_next : (n : ℕ) → AreInside code m (suc n) o
          → OutcomeHasRoom room (after_steps code m (suc n) o)
      room_next n are =
          has_room (after_steps code m (suc n) o)
          (subst (λ x. length (values_in x) ≤ room)
          (ap (outcome_of (keeps p) p) (reached n (λ k lt. are k (omega arith)))
          ∙ shown_on (after_steps code m n o) (are n (omega arith)))
          (safe.stays_within (before + n)))
          (λ stopped. safe.never_faults (before + suc n)
          (reached (suc n) are ∙ ap lift stopped ∙ is.stops))

      -- all of them are inside, or the end was reached and is left no more
      record Ended (n : ℕ) : Type 0 where
        fits : OutcomeHasRoom room (after_steps code m n o)
        rests : one_step code m (after_steps code m n o) ≡ after_steps code m n o

      here_or_ended : (n : ℕ) (x : Outcome) → x ≡ after_steps code m (suc n) o
          → AreInside code m (suc n) o → OutcomeHasRoom room x
          → AreInside code m (suc (suc n)) o ⊎ Ended (suc n)
      here_or_ended n Stopped e are fits = absurd fits
      here_or_ended n (Standing q s) e are fits =
          elim (cases_lt q (length code)) [
            | inl less ↦ inl (λ k lt. elim (cases_lt k (suc n)) [
              | inl below ↦ are k below
              | inr past ↦ subst (IsInside code)
                  (e ∙ ap (λ i. after_steps code m i o) (same k past lt)) less
            ])
            | inr past ↦ inr (record {
              fits = subst (OutcomeHasRoom room) e fits;
              rests = subst (λ y. one_step code m y ≡ y) e
                  (ap (λ i. stepped (length code) m i q s) (slice_get_past code q past));
            })
          ]
        where
          same : (k : ℕ) → suc n ≤ k → k < suc (suc n) → suc n ≡ k
          same k h lt = omega arith

      run_on : (n : ℕ) → AreInside code m (suc n) o ⊎ Ended n
      run_on zero = inl (λ k lt. subst (λ i. IsInside code (after_steps code m i o)) (none k lt) within)
        where
          none : (k : ℕ) → k < 1 → 0 ≡ k
          none k lt = omega arith
      run_on (suc n) =
          elim (run_on n) [
            | inl are ↦ here_or_ended n (after_steps code m (suc n) o) refl are (room_next n are)
            | inr ended ↦ inr (record {
              fits = subst (OutcomeHasRoom room) (sym ended.rests) ended.fits;
              rests = ap (one_step code m) ended.rests;
            })
          ]

      pub goes_safely : GoesSafely room code m o
      goes_safely n =
          elim (run_on n) [
            | inl are ↦ room_next n are
            | inr ended ↦ subst (OutcomeHasRoom room) (sym ended.rests) ended.fits
          ]
