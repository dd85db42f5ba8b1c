-- One run behind the other.
use Rattle.std.proofs.Common.{◌≡◌, ℕ, zero, suc, ◌+◌, ◌-◌, ◌<◌, ◌≤◌, List, length, Option, Some}
use Rattle.std.proofs.Common.{None, true, refl, sym, ap, ◌∙◌, subst, ⊎_elim, arith, zero-add}
use Rattle.std.proofs.Math.Nat.{suc-add}
use Rattle.std.proofs.lemmas.Bool.{cases_lt}
use Rattle.std.proofs.lemmas.Option.{slice_get_past}
use Rattle.query_values.specs.declared.value.Value.{Value}
use Rattle.query_code.specs.declared.instruction.Instruction.{Instruction}
use Rattle.query_code.specs.declared.program.Parts.{Parts}
use Rattle.plain_machine.specs.Gathering.{Keeping}
use Rattle.plain_machine.specs.PlainMachine.{Stand, step, steps}
use Rattle.plain_machine.specs.SectionRun.{Acts, State, start, Outcome, Standing, Stopped, stepped}
use Rattle.plain_machine.specs.SectionRun.{one_step, after_steps, begun, left_by}
use Rattle.plain_machine.specs.WholeRun.{Reaches, is_going}
use Rattle.plain_machine.proofs.SectionFacts.{far_after, at_end}

module _ {X : Type 0} (keep : Keeping X) (p : Parts) where
  pub add_steps : (a b : ℕ) (s : Stand X)
      → steps keep p (a + b) s ≡ steps keep p a (steps keep p b s)
  add_steps zero b s = ap (λ n. steps keep p n s) (zero-add b)
  add_steps (suc a) b s =
      ap (λ n. steps keep p n s) (suc-add a b) ∙ ap (step keep p) (add_steps a b s)

  pub reach_here : (n : ℕ) (s t : Stand X) → s ≡ t → Reaches keep p n s t
  reach_here n s t e =
      record {
        count = 0;
        within = omega arith;
        comes = e;
        going =
            λ k h. absurd (omega (arith, h));
      }

  pub reach_on : (n m : ℕ) (s t u : Stand X) → Reaches keep p n s t → Reaches keep p m t u
      → Reaches keep p (n + m) s u
  reach_on n m s t u a b = record {
    count = b.count + a.count;
    within = sum_within;
    comes = add_steps b.count a.count s ∙ ap (steps keep p b.count) a.comes ∙ b.comes;
    going = λ k h. ⊎_elim (λ less. a.going k less) (λ more. later k h more) (cases_lt k a.count);
  }
    where
      sum_within : b.count + a.count ≤ n + m
      sum_within = let x = a.within in let y = b.within in omega (arith, x, y)

      later : (k : ℕ) → k < b.count + a.count → a.count ≤ k → is_going (steps keep p k s) ≡ true
      later k h more =
          let split : k ≡ (k - a.count) + a.count = omega (arith, more) in
          ap (λ n. is_going (steps keep p n s)) split
          ∙ ap is_going (add_steps (k - a.count) a.count s
          ∙ ap (steps keep p (k - a.count)) a.comes)
          ∙ b.going (k - a.count) (omega (arith, h, more))

  pub reach_less : (n m : ℕ) (s t : Stand X) → n ≤ m → Reaches keep p n s t → Reaches keep p m s t
  reach_less n m s t h a =
      record {
        count = a.count;
        within = (let x = a.within in omega (arith, h, x));
        comes =
            a.comes;
        going = a.going;
      }

  -- a section is run step by step
  module _ (code : List Instruction) (m : Acts Value) (lift : Outcome → Stand X)
      (on : (q : ℕ) (s : State Value) → q < length code
      → step keep p (lift (Standing q s)) ≡ lift (one_step code m (Standing q s)))
      (before : (q : ℕ) (s : State Value) → q < length code
      → is_going (lift (Standing q s)) ≡ true) where
    abbrev first : Stand X
    first = lift (Standing 0 start)

    more_by_one : (n : ℕ) (q : ℕ) (s : State Value) → q < length code
        → Reaches keep p n first (lift (Standing q s))
        → Reaches keep p (suc n) first (lift (one_step code m (Standing q s)))
    more_by_one n q s less a = record {
      count = suc a.count;
      within = (let x = a.within in omega (arith, x));
      comes = ap (step keep p) a.comes ∙ on q s less;
      going = λ k h. ⊎_elim (λ earlier. a.going k earlier) (λ late. here k h late)
          (cases_lt k a.count);
    }
      where
        here : (k : ℕ) → k < suc a.count → a.count ≤ k → is_going (steps keep p k first) ≡ true
        here k h late =
            let same : k ≡ a.count = omega (arith, h, late) in
            ap (λ n. is_going (steps keep p n first)) same ∙ ap is_going a.comes ∙ before q s less

    section_on : (n : ℕ) (o : Outcome) → Reaches keep p n first (lift o)
        → Reaches keep p (suc n) first (lift (one_step code m o))
    section_on n Stopped a = reach_less n (suc n) first (lift Stopped) (omega arith) a
    section_on n (Standing q s) a =
        ⊎_elim
        (λ less. more_by_one n q s less a)
        (λ more. reach_less n (suc n) first (lift (one_step code m (Standing q s))) (omega arith)
        (subst (λ (i : Option Instruction).
        Reaches keep p n first (lift (stepped (length code) m i q s)))
        (sym (slice_get_past code q more)) a))
        (cases_lt q (length code))

    section_made : (n : ℕ) → Reaches keep p n first (lift (after_steps code m n begun))
    section_made zero = reach_here 0 first first refl
    section_made (suc n) = section_on n (after_steps code m n begun) (section_made n)

    pub section_ends : (end : Option (List Value) → Stand X) → lift Stopped ≡ end None
        → ((s : State Value) → lift (Standing (length code) s) ≡ end (Some s.stack))
        → Reaches keep p (length code) first (end (left_by code m))
    section_ends end none some =
        subst (λ t. Reaches keep p (length code) first t)
        (at_end code lift end none some (after_steps code m (length code) begun)
        (far_after code m (length code))) (section_made (length code))
