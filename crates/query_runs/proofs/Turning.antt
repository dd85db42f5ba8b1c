-- Steps of a run that are counted from where it stands.
use Rattle.std.proofs.Common.{◌≡◌, ℕ, zero, suc, ◌+◌, ◌-◌, ◌<◌, ◌≤◌, length, true, sym, ap, subst, ◌∙◌}
use Rattle.std.proofs.Common.{arith, inl, inr, add-suc}
use Rattle.std.proofs.lemmas.Bool.{cases_lt}
use Rattle.plain_machine.specs.Depth.{outcome_of, values_in}
use Rattle.plain_machine.specs.PlainMachine.{Stand, step, steps}
use Rattle.plain_machine.specs.WholeRun.{is_going}
use Rattle.query_code.specs.declared.program.Parts.{Parts}
use Rattle.query_runs.specs.Stands.{Gathered, keeps}
use Rattle.query_runs.proofs.Readiness.{stays_ready}
use Rattle.query_runs.specs.Turns.{GoesOn, IsSafe, is_ready}

-- each of so many steps led on from before an instruction
pub record AreGoing (p : Parts) (from : Stand Gathered) (before made : ℕ) : Type 0 where
  pub each : (k : ℕ) → k < made → is_going (steps (keeps p) p (before + k) from) ≡ true

module _ (p : Parts) where
  -- steps add up
  pub steps_add : (before made : ℕ) (s : Stand Gathered)
      → steps (keeps p) p (before + made) s
      ≡ steps (keeps p) p made (steps (keeps p) p before s)
  steps_add before zero s = ap (λ n. steps (keeps p) p n s) (none before)
    where
      none : (n : ℕ) → n + 0 ≡ n
      none n = omega arith
  steps_add before (suc made) s =
      ap (λ n. steps (keeps p) p n s) (add-suc before made)
      ∙ ap (step (keeps p) p) (steps_add before made s)

  pub goes_nowhere : (s t : Stand Gathered) → t ≡ s → GoesOn p 0 s t
  goes_nowhere s t same = record { comes = same; going = λ k lt. absurd (omega arith) }

  -- and so do the stretches of a run
  pub goes_further : (m n total : ℕ) (s t u : Stand Gathered) → total ≡ m + n → GoesOn p m s t
      → GoesOn p n t u → GoesOn p total s u
  goes_further m n total s t u sum first more = record {
    comes = more.comes ∙ ap (steps (keeps p) p n) first.comes ∙ sym (steps_add m n s)
        ∙ ap (λ k. steps (keeps p) p k s) (sym sum);
    going = λ k lt. elim (cases_lt k m) [
      | inl less ↦ first.going k less
      | inr past ↦
          ap is_going (ap (λ i. steps (keeps p) p i s) (split k past) ∙ steps_add m (k - m) s
          ∙ ap (steps (keeps p) p (k - m)) (sym first.comes))
          ∙ more.going (k - m) (omega arith)
    ];
  }
    where
      split : (k : ℕ) → m ≤ k → k ≡ m + (k - m)
      split k le = omega arith

  pub goes_on_from : (from : Stand Gathered) (before made : ℕ) (s t : Stand Gathered)
      → s ≡ steps (keeps p) p before from → t ≡ steps (keeps p) p (before + made) from
      → AreGoing p from before made → GoesOn p made s t
  goes_on_from from before made s t here there are = record {
    comes = there ∙ steps_add before made from ∙ ap (steps (keeps p) p made) (sym here);
    going = λ k lt. ap is_going (ap (steps (keeps p) p k) here ∙ sym (steps_add before k from))
        ∙ are.each k lt;
  }

  -- what is safe from one stand is so from where its steps lead
  pub safe_further : (room made : ℕ) (s t : Stand Gathered) → IsSafe p s room
      → t ≡ steps (keeps p) p made s → IsSafe p t room
  safe_further room made s t safe comes = record {
    ready = subst (is_ready p) (sym comes) (stays_ready p s safe.ready made);
    never_faults = λ n fault. safe.never_faults (made + n) (further n ∙ fault);
    stays_within = λ n.
        subst (λ u. length (values_in (outcome_of (keeps p) p u)) ≤ room) (further n)
        (safe.stays_within (made + n));
  }
    where
      further : (n : ℕ) → steps (keeps p) p (made + n) s ≡ steps (keeps p) p n t
      further n = steps_add made n s ∙ ap (steps (keeps p) p n) (sym comes)
