-- What single instructions make of a section that stands somewhere, and how runs follow each other.
use Rattle.std.proofs.Common.{◌≡◌, ◌⊎◌, ℕ, zero, suc, ◌+◌, ◌-◌, ◌≤◌, Bool, true, false, cond, List}
use Rattle.std.proofs.Common.{◌∷◌, length, replicate, Option, Some, None, refl, ap, ◌∙◌, subst}
use Rattle.std.proofs.Common.{inl, inr, arith, zero-add}
use Rattle.std.proofs.Math.Nat.{suc-add}
use Rattle.std.specs.Prelude.{slice_get, nat_lt, option_and_then}
use Rattle.std.proofs.lemmas.Option.{slice_get_past}
use Rattle.limits.specs.declared.counts.TheConstants.{MOST_VALUES, SLOTS}
use Rattle.plain_machine.specs.SectionRun.{Acts, State, Outcome, Standing, Stopped, after_steps}
use Rattle.plain_machine.specs.SectionRun.{begun, effect, leads_on, left_by, moved, next_place}
use Rattle.plain_machine.specs.SectionRun.{one_step, stack_in, stepped, with_slots, with_top}
use Rattle.query_code.specs.declared.instruction.Instruction.{Instruction}
use Rattle.query_code.specs.declared.instruction.Instruction.TheVariants.{Push, Unary, Binary, Jump}
use Rattle.query_code.specs.declared.instruction.Instruction.TheVariants.{JumpIfFalse}
use Rattle.query_code.specs.declared.instruction.Push as pushes
use Rattle.query_code.specs.declared.instruction.Unary as unaries
use Rattle.query_values.specs.Operation.{is_true}
use Rattle.query_values.specs.declared.operation.Binary as binaries
use Rattle.query_values.specs.declared.value.Value.{Value}

-- no slot is set
abbrev pub standing : List Value → State Value
standing st = record { stack = st; slots = replicate SLOTS None }

-- a value more on the stack, if there is one
abbrev pub reached : ℕ → List Value → Option Value → Outcome
reached q st None = Stopped
reached q st (Some v) = Standing q (standing (v ∷ st))

-- at the end of a section, with what it leaves
abbrev pub at_end : ℕ → Option (List Value) → Outcome
at_end len None = Stopped
at_end len (Some st) = Standing len (standing st)

module _ (section : List Instruction) (m : Acts Value) where
  -- from one outcome to another in at most so many steps
  pub record Goes (k : ℕ) (from to : Outcome) : Type 0 where
    pub count : ℕ
    pub within : count ≤ k
    pub comes : after_steps section m count from ≡ to

  -- or to a fault
  abbrev pub Gives : ℕ → Outcome → Outcome → Type 0
  Gives k from to = Goes k from Stopped ⊎ Goes k from to

  add_steps : (a b : ℕ) (o : Outcome)
      → after_steps section m (a + b) o ≡ after_steps section m a (after_steps section m b o)
  add_steps zero b o = ap (λ n. after_steps section m n o) (zero-add b)
  add_steps (suc a) b o =
      ap (λ n. after_steps section m n o) (suc-add a b) ∙ ap (one_step section m) (add_steps a b o)

  pub goes_here : (k : ℕ) (o : Outcome) → Goes k o o
  goes_here k o = record { count = 0; within = omega arith; comes = refl }

  pub gives_here : (k : ℕ) (o : Outcome) → Gives k o o
  gives_here k o = inr (goes_here k o)

  goes_then : {k l : ℕ} {a b c : Outcome} → Goes k a b → Goes l b c → Goes (k + l) a c
  goes_then {k} {l} {a} {b} {c} g h = record {
    count = h.count + g.count;
    within = omega (arith, g.within, h.within);
    comes =
        add_steps h.count g.count a ∙ ap (after_steps section m h.count) g.comes ∙ h.comes;
  }

  goes_longer : {k l : ℕ} {a b : Outcome} → k ≤ l → Goes k a b → Goes l a b
  goes_longer {k} {l} {a} {b} h g =
      record { count = g.count; within = omega (arith, g.within, h); comes = g.comes }

  pub gives_longer : {k l : ℕ} {a b : Outcome} → k ≤ l → Gives k a b → Gives l a b
  gives_longer h (inl g) = inl (goes_longer h g)
  gives_longer h (inr g) = inr (goes_longer h g)

  -- what is at a fault gives whatever is asked
  pub gives_fault : {k l : ℕ} {a b : Outcome} → k ≤ l → Gives k a Stopped → Gives l a b
  gives_fault h (inl g) = inl (goes_longer h g)
  gives_fault h (inr g) = inl (goes_longer h g)

  pub gives_then : {k l : ℕ} {a b c : Outcome} → Gives k a b → Gives l b c → Gives (k + l) a c
  gives_then (inl g) h = inl (goes_longer (omega arith) g)
  gives_then (inr g) (inl h) = inl (goes_then g h)
  gives_then (inr g) (inr h) = inr (goes_then g h)

  -- under other names
  pub gives_as : (k l : ℕ) (a : Outcome) (q r : ℕ) (st : List Value) (o : Option Value) → k ≤ l
      → q ≡ r → Gives k a (reached q st o) → Gives l a (reached r st o)
  gives_as k l a q r st o h e g =
      subst (λ n. Gives l a (reached n st o)) e (gives_longer h g)

  -- ---- one instruction

  pub one : (p : ℕ) (i : Instruction) (s : State Value) → slice_get section p ≡ Some i
      → leads_on (length section) p i ≡ true
      → Goes 1 (Standing p s) (moved (next_place i p s.stack) (effect m i s))
  one p i s there leads = record {
    count = 1;
    within = omega arith;
    comes =
        ap (λ i. stepped (length section) m i p s) there
        ∙ ap (λ b. cond b (moved (next_place i p s.stack) (effect m i s)) Stopped) leads;
  }

  -- a value on top, where it has room
  topped : (k q : ℕ) (from : Outcome) (st : List Value) (o : Option Value)
      → Goes k from (moved q (with_slots (replicate SLOTS None) (with_top o st)))
      → Gives k from (reached q st o)
  topped k q from st None g = inr g
  topped k q from st (Some v) g = by (nat_lt (length st) MOST_VALUES) g
    where
      by : (b : Bool)
          → Goes k from (moved q (with_slots (replicate SLOTS None) (cond b (Some (v ∷ st)) None)))
          → Gives k from (reached q st (Some v))
      by true g = inr g
      by false g = inl g

  pub push_gives : (op : pushes.Push) (p : ℕ) (st : List Value)
      → slice_get section p ≡ Some (Push op)
      → Gives 1 (Standing p (standing st)) (reached (p + 1) st (m.push op))
  push_gives op p st there =
      topped 1 (p + 1) (Standing p (standing st)) st (m.push op)
      (one p (Push op) (standing st) there refl)

  pub unary_gives : (op : unaries.Unary) (p : ℕ) (st : List Value) (o : Option Value)
      → slice_get section p ≡ Some (Unary op)
      → Gives 1 (reached p st o) (reached (p + 1) st (option_and_then (m.unary op) o))
  unary_gives op p st None there = gives_here 1 Stopped
  unary_gives op p st (Some a) there =
      topped 1 (p + 1) (Standing p (standing (a ∷ st))) st (m.unary op a)
      (one p (Unary op) (standing (a ∷ st)) there refl)

  pub binary_gives : (op : binaries.Binary) (p : ℕ) (a : Value) (st : List Value)
      (o : Option Value) → slice_get section p ≡ Some (Binary op)
      → Gives 1 (reached p (a ∷ st) o)
      (reached (p + 1) st (option_and_then (m.binary op a) o))
  binary_gives op p a st None there = gives_here 1 Stopped
  binary_gives op p a st (Some c) there =
      topped 1 (p + 1) (Standing p (standing (c ∷ a ∷ st))) st (m.binary op a c)
      (one p (Binary op) (standing (c ∷ a ∷ st)) there refl)

  pub jump_goes : (p to : ℕ) (s : State Value) → slice_get section p ≡ Some (Jump to)
      → leads_on (length section) p (Jump to) ≡ true → Goes 1 (Standing p s) (Standing to s)
  jump_goes p to s there leads = one p (Jump to) s there leads

  -- where a test leads: on where it holds, and else to a place
  abbrev pub tested_at : ℕ → ℕ → List Value → Bool → Bool → Outcome
  tested_at p to st is holds =
      cond is (Standing (cond holds (p + 1) to) (standing st)) Stopped

  pub test_goes : (p to : ℕ) (a : Value) (st : List Value)
      → slice_get section p ≡ Some (JumpIfFalse to)
      → leads_on (length section) p (JumpIfFalse to) ≡ true
      → Goes 1 (Standing p (standing (a ∷ st))) (tested_at p to st (m.is_test a) (is_true a))
  test_goes p to a st there leads =
      subst (Goes 1 (Standing p (standing (a ∷ st))))
      (by (m.is_test a) (cond (is_true a) (p + 1) to))
      (one p (JumpIfFalse to) (standing (a ∷ st)) there leads)
    where
      by : (b : Bool) (q : ℕ)
          → moved q (cond b (Some (standing st)) None) ≡ cond b (Standing q (standing st)) Stopped
      by true q = refl
      by false q = refl

  -- ---- a whole section

  stays : (o : Outcome) → one_step section m o ≡ o → (n : ℕ) → after_steps section m n o ≡ o
  stays o e zero = refl
  stays o e (suc n) = ap (one_step section m) (stays o e n) ∙ e

  ended : (o : Outcome) → one_step section m o ≡ o → Goes (length section) begun o
      → left_by section m ≡ stack_in o
  ended o e g =
      let split : length section ≡ (length section - g.count) + g.count = omega (arith, g.within) in
      ap (λ n. stack_in (after_steps section m n begun)) split
      ∙ ap stack_in (add_steps (length section - g.count) g.count begun
      ∙ ap (after_steps section m (length section - g.count)) g.comes
      ∙ stays o e (length section - g.count))

  stays_at_end : (s : State Value)
      → one_step section m (Standing (length section) s) ≡ Standing (length section) s
  stays_at_end s =
      ap (λ i. stepped (length section) m i (length section) s)
      (slice_get_past section (length section) (omega arith))

  -- it leaves nothing, or what stands at its end
  pub leaves : (o : Option (List Value))
      → Gives (length section) begun (at_end (length section) o)
      → (left_by section m ≡ None) ⊎ (left_by section m ≡ o)
  leaves o (inl g) = inl (ended Stopped refl g)
  leaves None (inr g) = inl (ended Stopped refl g)
  leaves (Some st) (inr g) =
      inr (ended (Standing (length section) (standing st)) (stays_at_end (standing st)) g)
