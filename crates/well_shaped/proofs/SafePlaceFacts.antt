-- A section that runs on values stays in the state shapes of its places.
use Rattle.std.proofs.Common.{◌≡◌, ℕ, zero, suc, ◌+◌, ◌<◌, ◌≤◌, List, [], ◌∷◌, ◌++◌, length, reverse}
use Rattle.std.proofs.Common.{replicate, Option, Some, None, Bool, true, false, cond, refl, sym, ap}
use Rattle.std.proofs.Common.{◌∙◌, subst, inl, inr, arith, leb, ltb}
use Rattle.std.specs.Prelude.{slice_get, ◌&&◌, nat_eq}
use Rattle.std.proofs.lemmas.Bool.{and_parts, eqb-false, leb-true}
use Rattle.std.proofs.lemmas.Grind.{reverse_onto}
use Rattle.limits.specs.declared.counts.TheConstants.{SLOTS}
use Rattle.query_values.specs.declared.value.Value.{Value}
use Rattle.query_rows.proofs.OrderFacts.{keeps}
use Rattle.query_rows.specs.Shape.{IsBelow, LiesIn}
use Rattle.query_rows.specs.declared.shape.Shape.{Shape}
use Rattle.query_code.specs.declared.instruction.Instruction.{Instruction}
use Rattle.query_code.specs.declared.instruction.Instruction.TheVariants.{Push, Unary, Binary}
use Rattle.query_code.specs.declared.instruction.Instruction.TheVariants.{LoadSlot, StoreSlot, Jump}
use Rattle.query_code.specs.declared.instruction.Instruction.TheVariants.{JumpIfFalse}
use Rattle.plain_machine.specs.SectionRun.{Acts, State, start, effect, leads_on, has_true_top}
use Rattle.plain_machine.specs.SectionRun.{next_place, Outcome, Standing, Stopped, moved, stepped}
use Rattle.plain_machine.specs.SectionRun.{one_step}
use Rattle.well_shaped.proofs.FrameFacts.{effect_kept, states_then}
use Rattle.well_shaped.specs.Places.{LeadsTo, Works, Leaves}
use Rattle.well_shaped.specs.StateShape.{AreActs, AreEach, IfSet, StateLiesIn}

-- ---- two lists of which each two are related

module _ {A B : Type 0} (R : A → B → Type 0) where
  joined : (xs us : List A) (ys vs : List B) → AreEach R xs ys → AreEach R us vs
      → AreEach R (xs ++ us) (ys ++ vs)
  joined [] us [] vs each more = more
  joined [] us (y ∷ ys) vs each more = absurd each
  joined (x ∷ xs) us [] vs each more = absurd each
  joined (x ∷ xs) us (y ∷ ys) vs each more = (each.0, joined xs us ys vs each.1 more)

  pub reversed : (xs : List A) (ys : List B) → AreEach R xs ys → AreEach R (reverse xs) (reverse ys)
  reversed [] [] each = tt
  reversed [] (y ∷ ys) each = absurd each
  reversed (x ∷ xs) [] each = absurd each
  reversed (x ∷ xs) (y ∷ ys) each =
      subst (λ l. AreEach R l (reverse (y ∷ ys))) (sym (reverse_onto xs x []))
      (subst (λ l. AreEach R (reverse xs ++ x ∷ []) l) (sym (reverse_onto ys y []))
      (joined (reverse xs) (x ∷ []) (reverse ys) (y ∷ []) (reversed xs ys each.1) (each.0, tt)))

-- ---- the next instruction

pub instruction_at : (code : List Instruction) (q : ℕ) → q < length code
    → (i : Instruction) × (slice_get code q ≡ Some i)
instruction_at [] q less = absurd (omega (arith, less))
instruction_at (i ∷ code) zero less = (i, refl)
instruction_at (i ∷ code) (suc q) less = instruction_at code q (omega (arith, less))

leads_there : (i : Instruction) (q : ℕ) (stack : List Value) → LeadsTo i q (next_place i q stack)
leads_there (Push op) q stack = refl
leads_there (Unary op) q stack = refl
leads_there (Binary op) q stack = refl
leads_there (LoadSlot k) q stack = refl
leads_there (StoreSlot k) q stack = refl
leads_there (Jump to) q stack = refl
leads_there (JumpIfFalse to) q stack = by (has_true_top stack)
  where
    by : (b : Bool) → LeadsTo (JumpIfFalse to) q (cond b (q + 1) to)
    by true = inl refl
    by false = inr refl

jumps_within : (len q to : ℕ) → (ltb q to && leb to len) ≡ true → to ≤ len
jumps_within len q to e = leb-true to len (and_parts (ltb q to) (leb to len) e).1

stays_within : (len q : ℕ) (i : Instruction) (stack : List Value) → q < len
    → leads_on len q i ≡ true → next_place i q stack ≤ len
stays_within len q (Push op) stack less on = omega (arith, less)
stays_within len q (Unary op) stack less on = omega (arith, less)
stays_within len q (Binary op) stack less on = omega (arith, less)
stays_within len q (LoadSlot k) stack less on = omega (arith, less)
stays_within len q (StoreSlot k) stack less on = omega (arith, less)
stays_within len q (Jump to) stack less on = jumps_within len q to on
stays_within len q (JumpIfFalse to) stack less on = by (has_true_top stack)
  where
    by : (b : Bool) → cond b (q + 1) to ≤ len
    by true = omega (arith, less)
    by false = jumps_within len q to on

unset : (n : ℕ) → AreEach (IfSet LiesIn) (replicate n None) (replicate n None)
unset zero = tt
unset (suc n) = (tt, unset n)

pub before_end : (q n : ℕ) → q ≤ n → nat_eq q n ≡ false → q < n
before_end q n low e = let apart = eqb-false q n e in omega (arith, low, apart)

pub not_empty : (n : ℕ) → nat_eq n 0 ≡ false → 0 < n
not_empty zero e = absurd (eqb-false 0 0 e refl)
not_empty (suc n) e = omega arith

-- ---- a section

module _ {n : Acts Shape} {code : List Instruction} {values : List Shape}
    (w : Leaves n code values) where
  -- before an instruction, with a state of the place's state shape
  pub record StandsAt (q : ℕ) (s : State Value) : Type 0 where
    pub before : q < length code
    pub lies : StateLiesIn s (w.at q)

  -- at a place, which may be the end
  pub record ComesTo (o : Outcome) : Type 0 where
    pub place : ℕ
    pub state : State Value
    pub is : o ≡ Standing place state
    pub within : place ≤ length code
    pub lies : StateLiesIn state (w.at place)

  begun : StateLiesIn start (w.at 0)
  begun =
      states_then LiesIn IsBelow LiesIn keeps start start (w.at 0)
      (record { stacks = tt; slots = unset SLOTS }) w.given.begins

  pub begins : 0 < length code → StandsAt 0 start
  begins some = record { before = some; lies = begun }

  -- the values that are left, the first one first
  pub left_values : (s : State Value) → StateLiesIn s (w.at (length code))
      → AreEach LiesIn (reverse s.stack) values
  left_values s lies =
      subst (λ ss. AreEach LiesIn (reverse s.stack) ss) w.left
      (reversed LiesIn s.stack (w.at (length code)).stack lies.stacks)

  -- a section without instructions leaves none
  pub left_by_none : length code ≡ 0 → AreEach LiesIn [] values
  left_by_none e = left_values start (subst (λ k. StateLiesIn start (w.at k)) (sym e) begun)

  pub goes_on : (m : Acts Value) → AreActs LiesIn m n → (q : ℕ) (s : State Value) → StandsAt q s
      → ComesTo (one_step code m (Standing q s))
  goes_on m acts q s stands = at_instruction (instruction_at code q stands.before)
    where
      at_instruction : (i : Instruction) × (slice_get code q ≡ Some i)
          → ComesTo (one_step code m (Standing q s))
      at_instruction (i, there) =
          by (effect m i s) refl
          (subst (λ o. IfSet StateLiesIn (effect m i s) o) works.applies
          (effect_kept LiesIn m n acts i s (w.at q) stands.lies))
        where
          works : Works n (length code) w.at q i
          works = w.given.works q i there

          to : ℕ
          to = next_place i q s.stack

          by : (o : Option (State Value)) → effect m i s ≡ o
              → IfSet StateLiesIn o (Some works.gives)
              → ComesTo (one_step code m (Standing q s))
          by None e lies = absurd lies
          by (Some t) e lies = record {
            place = to;
            state = t;
            is = ap (λ x. stepped (length code) m x q s) there
                ∙ ap (λ b. cond b (moved to (effect m i s)) Stopped) works.leads_on
                ∙ ap (moved to) e;
            within = stays_within (length code) q i s.stack stands.before works.leads_on;
            lies =
                states_then LiesIn IsBelow LiesIn keeps t works.gives (w.at to) lies
                (works.covered to (leads_there i q s.stack));
          }
