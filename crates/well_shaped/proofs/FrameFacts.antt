-- What instructions keep, for any relation between what stands on two stacks and in slots.
use Rattle.std.proofs.Common.{◌≡◌, ℕ, zero, suc, List, [], ◌∷◌, Option, Some, None, length, set}
use Rattle.std.proofs.Common.{Bool}
use Rattle.std.proofs.Common.{true, false, cond, ltb, refl, sym, ap, ◌∙◌, subst}
use Rattle.std.specs.Prelude.{slice_get}
use Rattle.limits.specs.declared.counts.TheConstants.{MOST_VALUES}
use Rattle.query_code.specs.declared.instruction.Instruction.{Instruction}
use Rattle.query_code.specs.declared.instruction.Instruction.TheVariants.{Push, Unary, Binary}
use Rattle.query_code.specs.declared.instruction.Instruction.TheVariants.{LoadSlot, StoreSlot, Jump}
use Rattle.query_code.specs.declared.instruction.Instruction.TheVariants.{JumpIfFalse}
use Rattle.plain_machine.specs.SectionRun.{Acts, State, with_top, one_operand, two_operands}
use Rattle.plain_machine.specs.SectionRun.{with_slots, slot_at, stored, tested, effect}
use Rattle.well_shaped.specs.StateShape.{IfSet, AreEach, AreStates, AreActs}

module _ {A B : Type 0} (R : A → B → Type 0) where
  pub as_many : (xs : List A) (ys : List B) → AreEach R xs ys → length xs ≡ length ys
  as_many [] [] each = refl
  as_many [] (y ∷ ys) each = absurd each
  as_many (x ∷ xs) [] each = absurd each
  as_many (x ∷ xs) (y ∷ ys) each = ap suc (as_many xs ys each.1)

  pub each_at : (xs : List A) (ys : List B) (k : ℕ) → AreEach R xs ys
      → IfSet R (slice_get xs k) (slice_get ys k)
  each_at xs [] k each = tt
  each_at [] (y ∷ ys) k each = absurd each
  each_at (x ∷ xs) (y ∷ ys) zero each = each.0
  each_at (x ∷ xs) (y ∷ ys) (suc k) each = each_at xs ys k each.1

  same_test : {X Y : Type 0} (Q : X → Y → Type 0) (s t : Bool) (x : X) (y : Y)
      → (t ≡ true → s ≡ true) → Q x y → IfSet Q (cond s (Some x) None) (cond t (Some y) None)
  same_test Q s false x y e q = tt
  same_test Q s true x y e q =
      subst (λ b. IfSet Q (cond b (Some x) None) (Some y)) (sym (e refl)) q

  top_kept : (o : Option A) (p : Option B) (xs : List A) (ys : List B) → IfSet R o p
      → AreEach R xs ys → IfSet (AreEach R) (with_top o xs) (with_top p ys)
  top_kept o None xs ys h each = tt
  top_kept None (Some y) xs ys h each = absurd h
  top_kept (Some x) (Some y) xs ys h each =
      same_test (AreEach R) (ltb (length xs) MOST_VALUES) (ltb (length ys) MOST_VALUES) (x ∷ xs)
      (y ∷ ys) (λ e. ap (λ n. ltb n MOST_VALUES) (as_many xs ys each) ∙ e) (h, each)

  one_kept : (f : A → Option A) (g : B → Option B)
      → ((x : A) (y : B) → R x y → IfSet R (f x) (g y)) → (xs : List A) (ys : List B)
      → AreEach R xs ys → IfSet (AreEach R) (one_operand f xs) (one_operand g ys)
  one_kept f g h xs [] each = tt
  one_kept f g h [] (y ∷ ys) each = absurd each
  one_kept f g h (x ∷ xs) (y ∷ ys) each = top_kept (f x) (g y) xs ys (h x y each.0) each.1

  two_kept : (f : A → A → Option A) (g : B → B → Option B)
      → ((x u : A) (y v : B) → R x y → R u v → IfSet R (f x u) (g y v))
      → (xs : List A) (ys : List B) → AreEach R xs ys
      → IfSet (AreEach R) (two_operands f xs) (two_operands g ys)
  two_kept f g h xs [] each = tt
  two_kept f g h xs (v ∷ []) each = tt
  two_kept f g h [] (v ∷ y ∷ ys) each = absurd each
  two_kept f g h (u ∷ []) (v ∷ y ∷ ys) each = absurd each.1
  two_kept f g h (u ∷ x ∷ xs) (v ∷ y ∷ ys) each =
      top_kept (f x u) (g y v) xs ys (h x u y v each.1.0 each.0) each.1.1

  slots_kept : (o : Option (List A)) (p : Option (List B)) (s : List (Option A))
      (t : List (Option B)) → IfSet (AreEach R) o p → AreEach (IfSet R) s t
      → IfSet (AreStates R) (with_slots s o) (with_slots t p)
  slots_kept o None s t h each = tt
  slots_kept None (Some ys) s t h each = absurd h
  slots_kept (Some xs) (Some ys) s t h each = record { stacks = h; slots = each }

  slot_kept : (s : List (Option A)) (t : List (Option B)) (k : ℕ) → AreEach (IfSet R) s t
      → IfSet R (slot_at s k) (slot_at t k)
  slot_kept s [] k each = tt
  slot_kept [] (y ∷ t) k each = absurd each
  slot_kept (x ∷ s) (y ∷ t) zero each = each.0
  slot_kept (x ∷ s) (y ∷ t) (suc k) each = slot_kept s t k each.1

  set_kept : (s : List (Option A)) (t : List (Option B)) (k : ℕ) (x : Option A) (y : Option B)
      → IfSet R x y → AreEach (IfSet R) s t → AreEach (IfSet R) (set s k x) (set t k y)
  set_kept [] [] k x y h each = tt
  set_kept [] (v ∷ t) k x y h each = absurd each
  set_kept (u ∷ s) [] k x y h each = absurd each
  set_kept (u ∷ s) (v ∷ t) zero x y h each = (h, each.1)
  set_kept (u ∷ s) (v ∷ t) (suc k) x y h each = (each.0, set_kept s t k x y h each.1)

  pub slots_as_many : (s : List (Option A)) (t : List (Option B)) → AreEach (IfSet R) s t
      → length s ≡ length t
  slots_as_many [] [] each = refl
  slots_as_many [] (v ∷ t) each = absurd each
  slots_as_many (u ∷ s) [] each = absurd each
  slots_as_many (u ∷ s) (v ∷ t) each = ap suc (slots_as_many s t each.1)

  stored_kept : (k : ℕ) (xs : List A) (ys : List B) (s : List (Option A)) (t : List (Option B))
      → AreEach R xs ys → AreEach (IfSet R) s t
      → IfSet (AreStates R) (stored k xs s) (stored k ys t)
  stored_kept k xs [] s t each slots = tt
  stored_kept k [] (y ∷ ys) s t each slots = absurd each
  stored_kept k (x ∷ xs) (y ∷ ys) s t each slots =
      same_test (AreStates R) (ltb k (length s)) (ltb k (length t))
      (record { stack = xs; slots = set s k (Some x) })
      (record { stack = ys; slots = set t k (Some y) })
      (λ e. ap (λ n. ltb k n) (slots_as_many s t slots) ∙ e)
      (record { stacks = each.1; slots = set_kept s t k (Some x) (Some y) each.0 slots })

  tested_kept : (f : A → Bool) (g : B → Bool)
      → ((x : A) (y : B) → R x y → g y ≡ true → f x ≡ true) → (xs : List A) (ys : List B)
      (s : List (Option A)) (t : List (Option B)) → AreEach R xs ys → AreEach (IfSet R) s t
      → IfSet (AreStates R) (tested f xs s) (tested g ys t)
  tested_kept f g h xs [] s t each slots = tt
  tested_kept f g h [] (y ∷ ys) s t each slots = absurd each
  tested_kept f g h (x ∷ xs) (y ∷ ys) s t each slots =
      same_test (AreStates R) (f x) (g y) (record { stack = xs; slots = s })
      (record { stack = ys; slots = t }) (h x y each.0) (record { stacks = each.1; slots = slots })

  pub effect_kept : (m : Acts A) (n : Acts B) → AreActs R m n → (i : Instruction) (s : State A)
      (t : State B) → AreStates R s t → IfSet (AreStates R) (effect m i s) (effect n i t)
  effect_kept m n acts (Push op) s t are =
      slots_kept (with_top (m.push op) s.stack) (with_top (n.push op) t.stack) s.slots t.slots
      (top_kept (m.push op) (n.push op) s.stack t.stack (acts.push op) are.stacks) are.slots
  effect_kept m n acts (Unary op) s t are =
      slots_kept (one_operand (m.unary op) s.stack) (one_operand (n.unary op) t.stack) s.slots
      t.slots (one_kept (m.unary op) (n.unary op) (acts.unary op) s.stack t.stack are.stacks)
      are.slots
  effect_kept m n acts (Binary op) s t are =
      slots_kept (two_operands (m.binary op) s.stack) (two_operands (n.binary op) t.stack) s.slots
      t.slots (two_kept (m.binary op) (n.binary op) (acts.binary op) s.stack t.stack are.stacks)
      are.slots
  effect_kept m n acts (LoadSlot k) s t are =
      slots_kept (with_top (slot_at s.slots k) s.stack) (with_top (slot_at t.slots k) t.stack)
      s.slots t.slots
      (top_kept (slot_at s.slots k) (slot_at t.slots k) s.stack t.stack
      (slot_kept s.slots t.slots k are.slots) are.stacks) are.slots
  effect_kept m n acts (StoreSlot k) s t are =
      stored_kept k s.stack t.stack s.slots t.slots are.stacks are.slots
  effect_kept m n acts (Jump to) s t are = are
  effect_kept m n acts (JumpIfFalse to) s t are =
      tested_kept m.is_test n.is_test acts.test s.stack t.stack s.slots t.slots are.stacks are.slots

-- ---- one relation behind another

pub if_set_then : {A B C : Type 0} (R : A → B → Type 0) (Q : B → C → Type 0) (P : A → C → Type 0)
    → ((x : A) (y : B) (z : C) → R x y → Q y z → P x z) → (x : Option A) (y : Option B)
    (z : Option C) → IfSet R x y → IfSet Q y z → IfSet P x z
if_set_then R Q P h x y None r q = tt
if_set_then R Q P h x None (Some z) r q = absurd q
if_set_then R Q P h None (Some y) (Some z) r q = absurd r
if_set_then R Q P h (Some x) (Some y) (Some z) r q = h x y z r q

pub each_then : {A B C : Type 0} (R : A → B → Type 0) (Q : B → C → Type 0) (P : A → C → Type 0)
    → ((x : A) (y : B) (z : C) → R x y → Q y z → P x z) → (xs : List A) (ys : List B) (zs : List C)
    → AreEach R xs ys → AreEach Q ys zs → AreEach P xs zs
each_then R Q P h [] [] [] r q = tt
each_then R Q P h [] [] (z ∷ zs) r q = absurd q
each_then R Q P h [] (y ∷ ys) zs r q = absurd r
each_then R Q P h (x ∷ xs) [] zs r q = absurd r
each_then R Q P h (x ∷ xs) (y ∷ ys) [] r q = absurd q
each_then R Q P h (x ∷ xs) (y ∷ ys) (z ∷ zs) r q =
    (h x y z r.0 q.0, each_then R Q P h xs ys zs r.1 q.1)

pub states_then : {A B C : Type 0} (R : A → B → Type 0) (Q : B → C → Type 0) (P : A → C → Type 0)
    → ((x : A) (y : B) (z : C) → R x y → Q y z → P x z) → (s : State A) (t : State B) (u : State C)
    → AreStates R s t → AreStates Q t u → AreStates P s u
states_then R Q P h s t u r q = record {
  stacks = each_then R Q P h s.stack t.stack u.stack r.stacks q.stacks;
  slots =
      each_then (IfSet R) (IfSet Q) (IfSet P) (if_set_then R Q P h) s.slots t.slots u.slots r.slots
      q.slots;
}

pub if_set_itself : {A : Type 0} (R : A → A → Type 0) → ((x : A) → R x x) → (x : Option A)
    → IfSet R x x
if_set_itself R h None = tt
if_set_itself R h (Some x) = h x

pub each_itself : {A : Type 0} (R : A → A → Type 0) → ((x : A) → R x x) → (xs : List A)
    → AreEach R xs xs
each_itself R h [] = tt
each_itself R h (x ∷ xs) = (h x, each_itself R h xs)

pub states_themselves : {A : Type 0} (R : A → A → Type 0) → ((x : A) → R x x) → (s : State A)
    → AreStates R s s
states_themselves R h s = record {
  stacks = each_itself R h s.stack;
  slots = each_itself (IfSet R) (if_set_itself R h) s.slots;
}
