-- One instruction, and many: what isn't a fault, and what comes of it.
use Rattle.std.proofs.Common.{◌≡◌, ◌≢◌, ℕ, ◌+◌, ◌<◌, ◌≤◌, ◌&&◌, Bool, true, false}
use Rattle.std.proofs.Common.{List, ◌∷◌, length, get_or, inl, inr, Option, Some, None, refl, sym, ap}
use Rattle.std.proofs.Common.{subst, ◌∙◌, arith, add-one, nat_lt, nat_le, if◌then◌else◌}
use Rattle.std.proofs.Common.{Result, Ok, Err}
use Rattle.std.specs.Prelude.{OnOk}
use Rattle.std.proofs.lemmas.Bool.{cases_lt}
use Rattle.std.proofs.lemmas.Option.{slice_get-get_or}
use Rattle.std.proofs.lemmas.Bool.Decides.{nat_tests}
use Rattle.query_code.specs.declared.instruction.Instruction.{Instruction}
use Rattle.query_code.specs.declared.instruction.Push as push
use Rattle.query_code.specs.declared.instruction.Unary as unary
use Rattle.query_values.specs.declared.operation.Binary as binary
use Rattle.query_code.specs.declared.instruction.Instruction.TheVariants.{Push, Unary, Binary}
use Rattle.query_code.specs.declared.instruction.Instruction.TheVariants.{LoadSlot, StoreSlot, Jump}
use Rattle.query_code.specs.declared.instruction.Instruction.TheVariants.{JumpIfFalse}
use Rattle.query_values.specs.declared.value.Value.{Value}
use Rattle.plain_machine.specs.SectionRun.{Acts, State, Outcome, Standing, Stopped, after_steps}
use Rattle.plain_machine.specs.SectionRun.{effect, has_true_top, leads_on, next_place, one_step}
use Rattle.plain_machine.specs.SectionRun.{stepped, moved, with_slots, stored, tested, with_top}
use Rattle.plain_machine.specs.SectionRun.{one_operand, two_operands, slot_at}
use Rattle.query_sections.specs.Room.{AreInside, GoesSafely, HasRoom, IsInside, OutcomeHasRoom}
use Rattle.query_sections.specs.Room.{StateHasRoom}

-- ---- a value more

-- what is put on top, where it has room
pub top_there : (room : ℕ) (x : Option Value) (xs : List Value) → HasRoom room (with_top x xs)
    → x ≢ None
top_there room None xs h e = h
top_there room (Some v) xs h e = absurd cc

pub room_for_top : (room : ℕ) (x : Option Value) (xs : List Value) → HasRoom room (with_top x xs)
    → length xs < room
room_for_top room None xs h = absurd h
room_for_top room (Some v) xs h = by (nat_lt (length xs) 256) h
  where
    by : (b : Bool) → HasRoom room (if b then Some (v ∷ xs) else None) → length xs < room
    by true h = h
    by false h = absurd h

pub with_top_is : (room : ℕ) (x : Option Value) (xs : List Value) (v : Value)
    → HasRoom room (with_top x xs) → x ≡ Some v → with_top x xs ≡ Some (v ∷ xs)
with_top_is room x xs v h is = ap (λ y. with_top y xs) is ∙ by (nat_lt (length xs) 256) kept
  where
    kept : HasRoom room (with_top (Some v) xs)
    kept = subst (λ y. HasRoom room (with_top y xs)) is h

    by : (b : Bool) → HasRoom room (if b then Some (v ∷ xs) else None)
        → (if b then Some (v ∷ xs) else None) ≡ Some (v ∷ xs)
    by true h = refl
    by false h = absurd h

-- ---- stack and slots

pub stack_room : (room : ℕ) (slots : List (Option Value)) (xs : Option (List Value))
    → StateHasRoom room (with_slots slots xs) → HasRoom room xs
stack_room room slots None h = h
stack_room room slots (Some xs) h = h

pub with_slots_is : (slots : List (Option Value)) (o : Option (List Value)) (xs : List Value)
    → o ≡ Some xs → with_slots slots o ≡ Some (record { stack = xs; slots = slots })
with_slots_is slots o xs is = ap (with_slots slots) is

-- ---- what an instruction changes

no_fault : (room : ℕ) (o : Option (State Value)) → StateHasRoom room o → o ≢ None
no_fault room None h e = h
no_fault room (Some s) h e = absurd cc

module _ (room : ℕ) (m : Acts Value) (i : Instruction) (s : State Value)
    (fine : StateHasRoom room (effect m i s)) where
  fine_at : (j : Instruction) → i ≡ j → StateHasRoom room (effect m j s)
  fine_at j is = subst (λ j. StateHasRoom room (effect m j s)) is fine

  pub push_room : (op : push.Push) → i ≡ Push op → HasRoom room (with_top (m.push op) s.stack)
  push_room op is = stack_room room s.slots (with_top (m.push op) s.stack) (fine_at (Push op) is)

  pub unary_room : (op : unary.Unary) → i ≡ Unary op
      → HasRoom room (one_operand (m.unary op) s.stack)
  unary_room op is =
      stack_room room s.slots (one_operand (m.unary op) s.stack) (fine_at (Unary op) is)

  pub binary_room : (op : binary.Binary) → i ≡ Binary op
      → HasRoom room (two_operands (m.binary op) s.stack)
  binary_room op is =
      stack_room room s.slots (two_operands (m.binary op) s.stack) (fine_at (Binary op) is)

  pub slot_room : (k : ℕ) → i ≡ LoadSlot k → HasRoom room (with_top (slot_at s.slots k) s.stack)
  slot_room k is =
      stack_room room s.slots (with_top (slot_at s.slots k) s.stack) (fine_at (LoadSlot k) is)

  pub store_there : (k : ℕ) → i ≡ StoreSlot k → stored k s.stack s.slots ≢ None
  store_there k is = no_fault room (stored k s.stack s.slots) (fine_at (StoreSlot k) is)

  pub test_there : (to : ℕ) → i ≡ JumpIfFalse to → tested m.is_test s.stack s.slots ≢ None
  test_there to is = no_fault room (tested m.is_test s.stack s.slots) (fine_at (JumpIfFalse to) is)

module _ (m : Acts Value) (i : Instruction) (s : State Value) where
  pub push_is : (op : push.Push) (xs : List Value) → i ≡ Push op
      → with_top (m.push op) s.stack ≡ Some xs
      → effect m i s ≡ Some (record { stack = xs; slots = s.slots })
  push_is op xs is gives = ap (λ j. effect m j s) is ∙ ap (with_slots s.slots) gives

  pub unary_is : (op : unary.Unary) (xs : List Value) → i ≡ Unary op
      → one_operand (m.unary op) s.stack ≡ Some xs
      → effect m i s ≡ Some (record { stack = xs; slots = s.slots })
  unary_is op xs is gives = ap (λ j. effect m j s) is ∙ ap (with_slots s.slots) gives

  pub binary_is : (op : binary.Binary) (xs : List Value) → i ≡ Binary op
      → two_operands (m.binary op) s.stack ≡ Some xs
      → effect m i s ≡ Some (record { stack = xs; slots = s.slots })
  binary_is op xs is gives = ap (λ j. effect m j s) is ∙ ap (with_slots s.slots) gives

  pub slot_is : (k : ℕ) (xs : List Value) (slots : List (Option Value)) → i ≡ LoadSlot k
      → with_top (slot_at s.slots k) s.stack ≡ Some xs → slots ≡ s.slots
      → effect m i s ≡ Some (record { stack = xs; slots = slots })
  slot_is k xs slots is gives same =
      ap (λ j. effect m j s) is ∙ ap (with_slots s.slots) gives
      ∙ ap (λ l. Some (record { stack = xs; slots = l })) (sym same)

  pub store_is : (k : ℕ) (t : State Value) → i ≡ StoreSlot k → stored k s.stack s.slots ≡ Some t
      → effect m i s ≡ Some t
  store_is k t is gives = ap (λ j. effect m j s) is ∙ gives

  pub jump_is : (to : ℕ) → i ≡ Jump to → effect m i s ≡ Some s
  jump_is to is = ap (λ j. effect m j s) is

  pub test_is : (to : ℕ) (t : State Value) → i ≡ JumpIfFalse to
      → tested m.is_test s.stack s.slots ≡ Some t → effect m i s ≡ Some t
  test_is to t is gives = ap (λ j. effect m j s) is ∙ gives

-- ---- one instruction

module _ (code : List Instruction) (m : Acts Value) (i : Instruction) (p : ℕ) (s : State Value) where
  pub leads : (room : ℕ) → OutcomeHasRoom room (stepped (length code) m (Some i) p s)
      → leads_on (length code) p i ≡ true
  leads room h = by (leads_on (length code) p i) h
    where
      by : (b : Bool)
          → OutcomeHasRoom room (if b then moved (next_place i p s.stack) (effect m i s) else Stopped)
          → b ≡ true
      by true h = refl
      by false h = absurd h

  moved_room : (room next : ℕ) (o : Option (State Value)) → OutcomeHasRoom room (moved next o)
      → StateHasRoom room o
  moved_room room next None h = h
  moved_room room next (Some t) h = h

  pub effect_room : (room : ℕ) → OutcomeHasRoom room (stepped (length code) m (Some i) p s)
      → StateHasRoom room (effect m i s)
  effect_room room h = by (leads_on (length code) p i) h
    where
      by : (b : Bool)
          → OutcomeHasRoom room (if b then moved (next_place i p s.stack) (effect m i s) else Stopped)
          → StateHasRoom room (effect m i s)
      by true h = moved_room room (next_place i p s.stack) (effect m i s) h
      by false h = absurd h

  pub stepped_is : (next : ℕ) (t : State Value) → leads_on (length code) p i ≡ true
      → effect m i s ≡ Some t → next ≡ next_place i p s.stack
      → Standing next t ≡ stepped (length code) m (Some i) p s
  stepped_is next t on is at =
      ap (λ n. Standing n t) at
      ∙ ap (moved (next_place i p s.stack)) (sym is)
      ∙ ap (λ b. if b then moved (next_place i p s.stack) (effect m i s) else Stopped) (sym on)

both_hold : (a b : Bool) → (a && b) ≡ true → (a ≡ true) × (b ≡ true)
both_hold true b h = (refl, h)
both_hold false b h = absurd cc

pub next_within : (len p : ℕ) (i : Instruction) (xs : List Value) → leads_on len p i ≡ true → p < len
    → next_place i p xs ≤ len
next_within len p (Push op) xs on h = omega arith
next_within len p (Unary op) xs on h = omega arith
next_within len p (Binary op) xs on h = omega arith
next_within len p (LoadSlot k) xs on h = omega arith
next_within len p (StoreSlot k) xs on h = omega arith
next_within len p (Jump to) xs on h =
    let t = both_hold (nat_lt p to) (nat_le to len) on in grind (arith, nat_tests)
next_within len p (JumpIfFalse to) xs on h = by (has_true_top xs)
  where
    by : (b : Bool) → (if b then p + 1 else to) ≤ len
    by true = omega arith
    by false = let t = both_hold (nat_lt p to) (nat_le to len) on in grind (arith, nat_tests)

-- ---- many instructions

module _ (code : List Instruction) (m : Acts Value) (start : Outcome) where
  pub one_more : (made : ℕ) (o : Outcome) → o ≡ one_step code m (after_steps code m made start)
      → o ≡ after_steps code m (made + 1) start
  one_more made o is = rw add-one is

  pub room_more : (room made : ℕ) (o : Outcome) → GoesSafely room code m start
      → o ≡ after_steps code m made start → OutcomeHasRoom room (one_step code m o)
  room_more room made o safe is =
      subst (λ x. OutcomeHasRoom room (one_step code m x)) (sym is) (safe made)

  pub inside_more : (made : ℕ) (o : Outcome) → AreInside code m made start
      → o ≡ after_steps code m made start → IsInside code o → AreInside code m (made + 1) start
  inside_more made o inside is here k lt =
      elim (cases_lt k made) [
        | inl less ↦ inside k less
        | inr le ↦ subst (IsInside code) (is ∙ ap (λ n. after_steps code m n start) (same k le lt))
            here
      ]
    where
      same : (k : ℕ) → made ≤ k → k < made + 1 → made ≡ k
      same k le lt = omega arith

  pub none_inside : AreInside code m 0 start
  none_inside k lt = absurd (omega arith)

pub on_both : {T E P Q R : Type 0} (r : Result T E) → OnOk r P → OnOk r Q → (P → Q → R) → OnOk r R
on_both (Ok x) p q f = f p q
on_both (Err e) p q f = tt

-- ---- the instruction at a place

module _ (code : List Instruction) (m : Acts Value) (p : ℕ) (s : State Value) (d : Instruction)
    (room : ℕ) (inside : p < length code)
    (fine : OutcomeHasRoom room (one_step code m (Standing p s))) where
  fine_here : OutcomeHasRoom room (stepped (length code) m (Some (get_or code p d)) p s)
  fine_here =
      subst (λ o. OutcomeHasRoom room (stepped (length code) m o p s))
      (slice_get-get_or code p d inside) fine

  pub room_at : StateHasRoom room (effect m (get_or code p d) s)
  room_at = effect_room code m (get_or code p d) p s room fine_here

  pub stands_at : (next : ℕ) (t : State Value) → effect m (get_or code p d) s ≡ Some t
      → next ≡ next_place (get_or code p d) p s.stack
      → Standing next t ≡ one_step code m (Standing p s)
  stands_at next t is at =
      stepped_is code m (get_or code p d) p s next t
      (leads code m (get_or code p d) p s room fine_here) is at
      ∙ ap (λ o. stepped (length code) m o p s) (sym (slice_get-get_or code p d inside))

  pub within_at : (next : ℕ) → next ≡ next_place (get_or code p d) p s.stack
      → next ≤ length code
  within_at next at =
      subst (λ n. n ≤ length code) (sym at)
      (next_within (length code) p (get_or code p d) s.stack
      (leads code m (get_or code p d) p s room fine_here) inside)
