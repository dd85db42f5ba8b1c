-- How far a section comes in so many steps.
use Rattle.std.proofs.Common.{◌≡◌, ℕ, zero, suc, ◌+◌, ◌<◌, ◌≤◌, List, [], ◌∷◌, length, Option, Some}
use Rattle.std.proofs.Common.{None, Bool, true, false, cond, leb, ltb, refl, sym, ap, ◌∙◌, subst}
use Rattle.std.proofs.Common.{⊎_elim, arith, min, true≢false}
use Rattle.std.specs.Prelude.{slice_get, nat_eq, ◌&&◌}
use Rattle.std.proofs.lemmas.Bool.{cases_lt, eqb-false, eqb-true, eq-eqb, ne_eqb, ltb-true}
use Rattle.std.proofs.lemmas.Bool.{leb-true}
use Rattle.std.proofs.lemmas.Option.{slice_get_past}
use Rattle.query_values.specs.declared.value.Value.{Value}
use Rattle.query_code.specs.declared.instruction.Instruction.{Instruction}
use Rattle.query_code.specs.declared.instruction.Instruction.TheVariants.{Push, Unary, Binary}
use Rattle.query_code.specs.declared.instruction.Instruction.TheVariants.{LoadSlot, StoreSlot, Jump}
use Rattle.query_code.specs.declared.instruction.Instruction.TheVariants.{JumpIfFalse}
use Rattle.plain_machine.specs.SectionRun.{Acts, State, effect, leads_on, has_true_top, next_place}
use Rattle.plain_machine.specs.SectionRun.{Outcome, Standing, Stopped, moved, stepped, one_step}
use Rattle.plain_machine.specs.SectionRun.{after_steps, begun, stack_in, left_by}

pub above_zero : (n : ℕ) → nat_eq n 0 ≡ false → 0 < n
above_zero zero h = absurd (eqb-false 0 0 h refl)
above_zero (suc n) h = omega arith

pub less_apart : (q n : ℕ) → q < n → nat_eq q n ≡ false
less_apart q n h = ne_eqb q n (λ e. omega (arith, e, h))

pub same_number : (n : ℕ) → nat_eq n n ≡ true
same_number n = eq-eqb n n refl

suc_above_zero : (n : ℕ) → nat_eq (suc n) 0 ≡ true → ⊥
suc_above_zero n e = let f : suc n ≡ 0 = eqb-true (suc n) 0 e in omega (arith, f)

pub empty_leaves : (code : List Instruction) (m : Acts Value) → nat_eq (length code) 0 ≡ true
    → left_by code m ≡ Some []
empty_leaves [] m e = refl
empty_leaves (i ∷ code) m e = absurd (suc_above_zero (length code) e)

both_true : (a b : Bool) → (a && b) ≡ true → (a ≡ true) × (b ≡ true)
both_true true b e = (refl, e)
both_true false b e = absurd (true≢false (sym e))

-- between its place and the end, that left out
abbrev IsAhead : ℕ → ℕ → ℕ → Type 0
IsAhead len p q = (p < q) × (q ≤ len)

target_ahead : (len p to : ℕ) → (ltb p to && leb to len) ≡ true → IsAhead len p to
target_ahead len p to e = let h = both_true (ltb p to) (leb to len) e in
    (ltb-true p to h.0, leb-true to len h.1)

one_ahead : (len p : ℕ) → p < len → IsAhead len p (p + 1)
one_ahead len p less = (omega arith, omega (arith, less))

next_ahead : (len p : ℕ) (i : Instruction) (stack : List Value) → p < len → leads_on len p i ≡ true
    → IsAhead len p (next_place i p stack)
next_ahead len p (Push op) stack less e = one_ahead len p less
next_ahead len p (Unary op) stack less e = one_ahead len p less
next_ahead len p (Binary op) stack less e = one_ahead len p less
next_ahead len p (LoadSlot k) stack less e = one_ahead len p less
next_ahead len p (StoreSlot k) stack less e = one_ahead len p less
next_ahead len p (Jump to) stack less e = target_ahead len p to e
next_ahead len p (JumpIfFalse to) stack less e = by (has_true_top stack)
  where
    by : (b : Bool) → IsAhead len p (cond b (p + 1) to)
    by true = one_ahead len p less
    by false = target_ahead len p to e

-- a place as far as so many steps, and never past the end
pub record Far (code : List Instruction) (n : ℕ) (q : ℕ) : Type 0 where
  pub inside : q ≤ length code
  pub far : min n (length code) ≤ q

abbrev pub IsFar : List Instruction → ℕ → Outcome → Type 0
IsFar code n Stopped = Unit {0}
IsFar code n (Standing q s) = Far code n q

far_moved : (code : List Instruction) (n p q : ℕ) (o : Option (State Value)) → Far code n p
    → IsAhead (length code) p q → IsFar code (suc n) (moved q o)
far_moved code n p q None f ahead = tt
far_moved code n p q (Some s) f ahead = let far = f.far in let after = ahead.0 in
    record { inside = ahead.1; far = omega (arith, far, after) }

far_on : (code : List Instruction) (m : Acts Value) (n p : ℕ) (i : Instruction) (s : State Value)
    → Far code n p → p < length code → IsFar code (suc n) (stepped (length code) m (Some i) p s)
far_on code m n p i s f less = by (leads_on (length code) p i) refl
  where
    by : (b : Bool) → leads_on (length code) p i ≡ b
        → IsFar code (suc n) (cond b (moved (next_place i p s.stack) (effect m i s)) Stopped)
    by true e =
        far_moved code n p (next_place i p s.stack) (effect m i s) f
        (next_ahead (length code) p i s.stack less e)
    by false e = tt

missing : (code : List Instruction) (p : ℕ) → p < length code → slice_get code p ≡ None → ⊥
missing [] p h e = omega arith
missing (i ∷ code) zero h e = cc
missing (i ∷ code) (suc p) h e = missing code p (omega arith) e

far_step : (code : List Instruction) (m : Acts Value) (n : ℕ) (o : Outcome) → IsFar code n o
    → IsFar code (suc n) (one_step code m o)
far_step code m n Stopped f = tt
far_step code m n (Standing p s) f =
    ⊎_elim (λ less. on (slice_get code p) refl less)
    (λ more. subst (λ i. IsFar code (suc n) (stepped (length code) m i p s))
    (sym (slice_get_past code p more)) (stays more)) (cases_lt p (length code))
  where
    stays : length code ≤ p → Far code (suc n) p
    stays more = record { inside = f.inside; far = omega (arith, more) }

    on : (i : Option Instruction) → slice_get code p ≡ i → p < length code
        → IsFar code (suc n) (stepped (length code) m i p s)
    on None e less = absurd (missing code p less e)
    on (Some i) e less = far_on code m n p i s f less

pub far_after : (code : List Instruction) (m : Acts Value) (n : ℕ)
    → IsFar code n (after_steps code m n begun)
far_after code m zero = record { inside = omega arith; far = omega arith }
far_after code m (suc n) =
    far_step code m n (after_steps code m n begun) (far_after code m n)

-- where a section ends, and how
pub at_end :
    {T : Type 0} (code : List Instruction) (lift : Outcome → T) (end : Option (List Value) → T)
    → lift Stopped ≡ end None
    → ((s : State Value) → lift (Standing (length code) s) ≡ end (Some s.stack)) → (o : Outcome)
    → IsFar code (length code) o → lift o ≡ end (stack_in o)
at_end code lift end none some Stopped f = none
at_end code lift end none some (Standing q s) f =
    let inside = f.inside in
    let far = f.far in
    let e : q ≡ length code = omega (arith, inside, far) in
    ap (λ n. lift (Standing n s)) e ∙ some s
