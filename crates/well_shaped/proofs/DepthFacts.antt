-- How many values stand on the stack behind an instruction, and at the places of a section.
use Rattle.std.proofs.Common.{◌≡◌, ℕ, suc, ◌+◌, ◌-◌, ◌≤◌, List, [], ◌∷◌, length, set, Option}
use Rattle.std.proofs.Common.{Some, None, Bool, true, false, cond, ltb, refl, sym, ap, ◌∙◌}
use Rattle.std.proofs.Common.{⊎_elim, inl, inr, arith}
use Rattle.std.specs.Prelude.{slice_get}
use Rattle.std.proofs.lemmas.Bool.{ltb-true}
use Rattle.std.proofs.lemmas.List.{length-set}
use Rattle.limits.specs.declared.counts.TheConstants.{MOST_VALUES, SLOTS}
use Rattle.query_rows.specs.Shape.{IsBelow}
use Rattle.query_rows.specs.declared.shape.Shape.{Shape}
use Rattle.query_code.specs.declared.instruction.Instruction.{Instruction}
use Rattle.query_code.specs.declared.instruction.Instruction.TheVariants.{Push, Unary, Binary}
use Rattle.query_code.specs.declared.instruction.Instruction.TheVariants.{LoadSlot, StoreSlot, Jump}
use Rattle.query_code.specs.declared.instruction.Instruction.TheVariants.{JumpIfFalse}
use Rattle.query_code.specs.declared.program.Mode.{Mode}
use Rattle.query_code.specs.declared.program.Mode.TheVariants.{Plain, Grouped}
use Rattle.query_code.specs.declared.program.Parts.{Parts}
use Rattle.plain_machine.specs.SectionRun.{Acts, State, start, with_top, one_operand, two_operands}
use Rattle.plain_machine.specs.SectionRun.{with_slots, slot_at, stored, tested, effect}
use Rattle.well_shaped.specs.Places.{LeadsTo, AreGiven, Leaves, HasDepth}
use Rattle.well_shaped.specs.Program.{EndsWell, HasDepthInLast, HasDepthSomewhere, IsDepth}
use Rattle.well_shaped.specs.Program.{IsWellShaped}
use Rattle.well_shaped.specs.StateShape.{IsStateBelow}
use Rattle.well_shaped.proofs.FrameFacts.{as_many, slots_as_many}
use Rattle.well_shaped.proofs.PlaceFacts.{everywhere}

pub none_some : {A : Type 0} (x : A) → None ≡ Some x → ⊥
none_some x e = cc

some_same : {A : Type 0} (x y : A) → Some x ≡ Some y → x ≡ y
some_same x y e = cc

-- ---- behind one instruction

-- how many there are behind an instruction, where there were n
abbrev behind : Instruction → ℕ → ℕ
behind (Push op) n = n + 1
behind (Unary op) n = n
behind (Binary op) n = n - 1
behind (LoadSlot k) n = n + 1
behind (StoreSlot k) n = n - 1
behind (Jump to) n = n
behind (JumpIfFalse to) n = n - 1

module _ {A : Type 0} where
  -- so many values, and no more than the most
  abbrev AreFew : ℕ → List A → Type 0
  AreFew n xs = (length xs ≡ n) × (length xs ≤ MOST_VALUES)

  with_one : (o : Option A) (xs ys : List A) → with_top o xs ≡ Some ys → AreFew (length xs + 1) ys
  with_one None xs ys e = absurd (none_some ys e)
  with_one (Some x) xs ys e = by (ltb (length xs) MOST_VALUES) refl e
    where
      by : (b : Bool) → ltb (length xs) MOST_VALUES ≡ b → cond b (Some (x ∷ xs)) None ≡ Some ys
          → AreFew (length xs + 1) ys
      by false is e = absurd (none_some ys e)
      by true is e =
          let same : length ys ≡ suc (length xs) = sym (ap length (some_same (x ∷ xs) ys e)) in
          let less = ltb-true (length xs) MOST_VALUES is in
          (omega (arith, same), omega (arith, same, less))

  for_one : (f : A → Option A) (xs ys : List A) → one_operand f xs ≡ Some ys
      → AreFew (length xs) ys
  for_one f [] ys e = absurd (none_some ys e)
  for_one f (x ∷ xs) ys e =
      let few = with_one (f x) xs ys e in
      (let a = few.0 in omega (arith, a), few.1)

  for_two : (f : A → A → Option A) (xs ys : List A) → two_operands f xs ≡ Some ys
      → AreFew (length xs - 1) ys
  for_two f [] ys e = absurd (none_some ys e)
  for_two f (x ∷ []) ys e = absurd (none_some ys e)
  for_two f (y ∷ x ∷ xs) ys e =
      let few = with_one (f x y) xs ys e in
      (let a = few.0 in omega (arith, a), few.1)

  -- what an instruction changes
  pub record Changed (i : Instruction) (s t : State A) : Type 0 where
    pub depth : length t.stack ≡ behind i (length s.stack)
    pub few : length s.stack ≤ MOST_VALUES → length t.stack ≤ MOST_VALUES
    pub slots : length t.slots ≡ length s.slots

  -- the stack alone, and few values on it
  stack_changed : (i : Instruction) (s t : State A) (o : Option (List A))
      → ((ys : List A) → o ≡ Some ys → AreFew (behind i (length s.stack)) ys)
      → with_slots s.slots o ≡ Some t → Changed i s t
  stack_changed i s t None few e = absurd (none_some t e)
  stack_changed i s t (Some xs) few e =
      let same = some_same (record { stack = xs; slots = s.slots }) t e in
      let these = few t.stack (ap (λ (u : State A). Some u.stack) same) in
      record {
        depth = these.0;
        few = λ h. these.1;
        slots = sym (ap (λ (u : State A). length u.slots) same);
      }

  less_by_one : (i : Instruction) (x : A) (xs : List A) (slots : List (Option A)) (t u : State A)
      → behind i (suc (length xs)) ≡ length xs → u ≡ t → length u.stack ≡ length xs
      → length u.slots ≡ length slots
      → Changed i (record { stack = x ∷ xs; slots = slots }) t
  less_by_one i x xs slots t u one same stack all = record {
    depth = sym (ap (λ (v : State A). length v.stack) same) ∙ stack ∙ sym one;
    few = λ h.
        let a : length t.stack ≡ length xs =
        sym (ap (λ (v : State A). length v.stack) same) ∙ stack in
        omega (arith, a, h);
    slots = sym (ap (λ (v : State A). length v.slots) same) ∙ all;
  }

  stored_changed : (k : ℕ) (xs : List A) (slots : List (Option A)) (t : State A)
      → stored k xs slots ≡ Some t
      → Changed (StoreSlot k) (record { stack = xs; slots = slots }) t
  stored_changed k [] slots t e = absurd (none_some t e)
  stored_changed k (x ∷ xs) slots t e = by (ltb k (length slots)) e
    where
      put : State A
      put = record { stack = xs; slots = set slots k (Some x) }

      by : (b : Bool) → cond b (Some put) None ≡ Some t
          → Changed (StoreSlot k) (record { stack = x ∷ xs; slots = slots }) t
      by false e = absurd (none_some t e)
      by true e =
          less_by_one (StoreSlot k) x xs slots t put (omega arith) (some_same put t e) refl
          (length-set slots k (Some x))

  tested_changed : (to : ℕ) (f : A → Bool) (xs : List A) (slots : List (Option A)) (t : State A)
      → tested f xs slots ≡ Some t
      → Changed (JumpIfFalse to) (record { stack = xs; slots = slots }) t
  tested_changed to f [] slots t e = absurd (none_some t e)
  tested_changed to f (x ∷ xs) slots t e = by (f x) e
    where
      rest : State A
      rest = record { stack = xs; slots = slots }

      by : (b : Bool) → cond b (Some rest) None ≡ Some t
          → Changed (JumpIfFalse to) (record { stack = x ∷ xs; slots = slots }) t
      by false e = absurd (none_some t e)
      by true e =
          less_by_one (JumpIfFalse to) x xs slots t rest (omega arith) (some_same rest t e) refl
          refl

  pub changed : (m : Acts A) (i : Instruction) (s t : State A) → effect m i s ≡ Some t
      → Changed i s t
  changed m (Push op) s t e =
      stack_changed (Push op) s t (with_top (m.push op) s.stack) (with_one (m.push op) s.stack) e
  changed m (Unary op) s t e =
      stack_changed (Unary op) s t (one_operand (m.unary op) s.stack) (for_one (m.unary op) s.stack)
      e
  changed m (Binary op) s t e =
      stack_changed (Binary op) s t (two_operands (m.binary op) s.stack)
      (for_two (m.binary op) s.stack) e
  changed m (LoadSlot k) s t e =
      stack_changed (LoadSlot k) s t (with_top (slot_at s.slots k) s.stack)
      (with_one (slot_at s.slots k) s.stack) e
  changed m (StoreSlot k) s t e = stored_changed k s.stack s.slots t e
  changed m (Jump to) s t e =
      let same = some_same s t e in
      record {
        depth = sym (ap (λ (u : State A). length u.stack) same);
        few = λ h. let a = ap (λ (u : State A). length u.stack) same in omega (arith, a, h);
        slots = sym (ap (λ (u : State A). length u.slots) same);
      }
  changed m (JumpIfFalse to) s t e = tested_changed to m.is_test s.stack s.slots t e

-- ---- at the places of a section

deep_alike : (s t : State Shape) → IsStateBelow s t → length s.stack ≡ length t.stack
deep_alike s t h = as_many IsBelow s.stack t.stack h.stacks

slots_alike : (s t : State Shape) → IsStateBelow s t → length s.slots ≡ length t.slots
slots_alike s t h = slots_as_many IsBelow s.slots t.slots h.slots

module _ (m : Acts Shape) (code : List Instruction) (at : ℕ → State Shape)
    (given : AreGiven m code at) where
  first_slots : length (at 0).slots ≡ SLOTS
  first_slots = sym (slots_alike start (at 0) given.begins)

  first_few : length (at 0).stack ≤ MOST_VALUES
  first_few = let a = deep_alike start (at 0) given.begins in omega (arith, a)

  next_slots : (p q : ℕ) (i : Instruction) → slice_get code p ≡ Some i → LeadsTo i p q
      → length (at p).slots ≡ SLOTS → length (at q).slots ≡ SLOTS
  next_slots p q i stands leads h =
      let w = given.works p i stands in
      sym (slots_alike w.gives (at q) (w.covered q leads))
      ∙ (changed m i (at p) w.gives w.applies).slots ∙ h

  next_few : (p q : ℕ) (i : Instruction) → slice_get code p ≡ Some i → LeadsTo i p q
      → length (at p).stack ≤ MOST_VALUES → length (at q).stack ≤ MOST_VALUES
  next_few p q i stands leads h =
      let w = given.works p i stands in
      let same = deep_alike w.gives (at q) (w.covered q leads) in
      let few = (changed m i (at p) w.gives w.applies).few h in
      omega (arith, same, few)

  pub all_slots : (q : ℕ) → q ≤ length code → length (at q).slots ≡ SLOTS
  all_slots = everywhere m code at given (λ q. length (at q).slots ≡ SLOTS) first_slots next_slots

  pub few_values : (q : ℕ) → q ≤ length code → length (at q).stack ≤ MOST_VALUES
  few_values =
      everywhere m code at given (λ q. length (at q).stack ≤ MOST_VALUES) first_few next_few

-- whatever may be loaded, and whichever state shapes are given
module _ (m n : Acts Shape) (code : List Instruction) (at to : ℕ → State Shape)
    (given : AreGiven m code at) (also : AreGiven n code to) where
  next_alike : (p q : ℕ) (i : Instruction) → slice_get code p ≡ Some i → LeadsTo i p q
      → length (at p).stack ≡ length (to p).stack → length (at q).stack ≡ length (to q).stack
  next_alike p q i stands leads h =
      let w = given.works p i stands in
      let v = also.works p i stands in
      sym (deep_alike w.gives (at q) (w.covered q leads))
      ∙ (changed m i (at p) w.gives w.applies).depth ∙ ap (behind i) h
      ∙ sym (changed n i (to p) v.gives v.applies).depth
      ∙ deep_alike v.gives (to q) (v.covered q leads)

  pub depths_alike : (q : ℕ) → q ≤ length code → length (at q).stack ≡ length (to q).stack
  depths_alike =
      everywhere m code at given (λ q. length (at q).stack ≡ length (to q).stack)
      (sym (deep_alike start (at 0) given.begins) ∙ deep_alike start (to 0) also.begins) next_alike

pub one_at_places : (m n : Acts Shape) (code : List Instruction) (values others : List Shape)
    (a : Leaves m code values) (b : Leaves n code others) (q : ℕ) → q ≤ length code
    → length (a.at q).stack ≡ length (b.at q).stack
one_at_places m n code values others a b = depths_alike m n code a.at b.at a.given b.given

-- ---- in programs

carried : {m n : Acts Shape} {code : List Instruction} {values others : List Shape}
    (a : Leaves m code values) (b : Leaves n code others) (d : ℕ) → HasDepth a d → HasDepth b d
carried {m} {n} {code} {values} {others} a b d has = record {
  place = has.place;
  within = has.within;
  deep = sym (one_at_places m n code values others a b has.place has.within) ∙ has.deep;
}

carried_in_last : (mode : Mode) (p : Parts) (values others : List Shape)
    (a : EndsWell mode p values)
    (b : EndsWell mode p others) (d : ℕ) → HasDepthInLast mode p values a d
    → HasDepthInLast mode p others b d
carried_in_last Plain p values others a b d has = absurd has
carried_in_last Grouped p values others a b d has = carried a.last b.last d has

carried_somewhere : (p : Parts) (a b : IsWellShaped p) (d : ℕ) → HasDepthSomewhere a d
    → HasDepthSomewhere b d
carried_somewhere p a b d has =
    ⊎_elim (λ filter. inl (carried a.filter b.filter d filter))
    (λ other. inr (⊎_elim (λ row. inl (carried a.row b.row d row))
    (λ last. inr (carried_in_last p.mode p a.values b.values a.ends b.ends d last)) other))
    has

pub one_in_programs : (p : Parts) (d e : ℕ) → IsDepth p d → IsDepth p e → d ≡ e
one_in_programs p d e a b =
    let up = b.greatest d (carried_somewhere p a.shaped b.shaped d a.met) in
    let down = a.greatest e (carried_somewhere p b.shaped a.shaped e b.met) in
    omega (arith, up, down)

few_in : {m : Acts Shape} {code : List Instruction} {values : List Shape} (a : Leaves m code values)
    (d : ℕ) → HasDepth a d → d ≤ MOST_VALUES
few_in {m} {code} {values} a d has =
    let few = few_values m code a.at a.given has.place has.within in
    let deep = has.deep in
    omega (arith, few, deep)

few_in_last : (mode : Mode) (p : Parts) (values : List Shape) (a : EndsWell mode p values) (d : ℕ)
    → HasDepthInLast mode p values a d → d ≤ MOST_VALUES
few_in_last Plain p values a d has = absurd has
few_in_last Grouped p values a d has = few_in a.last d has

pub few_in_programs : (p : Parts) (d : ℕ) → IsDepth p d → d ≤ MOST_VALUES
few_in_programs p d a =
    ⊎_elim (few_in a.shaped.filter d)
    (λ other. ⊎_elim (few_in a.shaped.row d)
    (few_in_last p.mode p a.shaped.values a.shaped.ends d) other)
    a.met
