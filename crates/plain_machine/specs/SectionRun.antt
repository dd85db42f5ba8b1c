-- The instructions of a section, one after the other, on a stack and slots.
use Rattle.std.specs.Prelude.{ℕ, zero, suc, ◌+◌, nat_le, nat_lt, Bool, true, false, ◌&&◌, List, []}
use Rattle.std.specs.Prelude.{◌∷◌, length, replicate, slice_get, slice_set, Option, Some, None}
use Rattle.std.specs.Prelude.{option_map, if◌then◌else◌}
use Rattle.limits.specs.declared.counts.TheConstants.{MOST_VALUES, SLOTS}
use Rattle.query_values.specs.Operation.{is_true}
use Rattle.query_values.specs.declared.operation.Binary as binary
use Rattle.query_values.specs.declared.value.Value.{Value}
use Rattle.query_code.specs.declared.instruction.Push as push
use Rattle.query_code.specs.declared.instruction.Unary as unary
use Rattle.query_code.specs.declared.instruction.Instruction.{Instruction}
use Rattle.query_code.specs.declared.instruction.Instruction.TheVariants.{Push, Unary, Binary}
use Rattle.query_code.specs.declared.instruction.Instruction.TheVariants.{LoadSlot, StoreSlot, Jump}
use Rattle.query_code.specs.declared.instruction.Instruction.TheVariants.{JumpIfFalse}

-- What instructions do with values, or with what is known of values: none is a fault.
pub record Acts (A : Type 0) : Type 0 where
  pub push : push.Push → Option A
  pub unary : unary.Unary → A → Option A
  pub binary : binary.Binary → A → A → Option A
  pub is_test : A → Bool

-- a stack, its top first, and slots
pub record State (A : Type 0) : Type 0 where
  pub stack : List A
  pub slots : List (Option A)

abbrev pub start : {A : Type 0} → State A
start = record { stack = []; slots = replicate SLOTS None }

-- a value more, where it has room
abbrev pub with_top : {A : Type 0} → Option A → List A → Option (List A)
with_top None xs = None
with_top (Some x) xs = if nat_lt (length xs) MOST_VALUES then Some (x ∷ xs) else None

-- in place of the operands on top, of which the last is the top
abbrev pub one_operand : {A : Type 0} → (A → Option A) → List A → Option (List A)
one_operand f [] = None
one_operand f (x ∷ xs) = with_top (f x) xs

abbrev pub two_operands : {A : Type 0} → (A → A → Option A) → List A → Option (List A)
two_operands f [] = None
two_operands f (y ∷ []) = None
two_operands f (y ∷ x ∷ xs) = with_top (f x y) xs

abbrev pub with_slots : {A : Type 0} → List (Option A) → Option (List A) → Option (State A)
with_slots slots stack = option_map (λ xs. record { stack = xs; slots = slots }) stack

-- what a slot holds; none where it is unset, and where there is no such slot
abbrev pub set_in : {A : Type 0} → Option (Option A) → Option A
set_in None = None
set_in (Some x) = x

abbrev pub slot_at : {A : Type 0} → List (Option A) → ℕ → Option A
slot_at slots k = set_in (slice_get slots k)

-- the top goes into a slot
abbrev pub stored : {A : Type 0} → ℕ → List A → List (Option A) → Option (State A)
stored k [] slots = None
stored k (x ∷ xs) slots =
    if nat_lt k (length slots) then Some (record { stack = xs; slots = slice_set slots k (Some x) })
    else None

-- the top is taken, where it is a truth value
abbrev pub tested : {A : Type 0} → (A → Bool) → List A → List (Option A) → Option (State A)
tested is_test [] slots = None
tested is_test (x ∷ xs) slots =
    if is_test x then Some (record { stack = xs; slots = slots }) else None

-- what an instruction makes of stack and slots
abbrev pub effect : {A : Type 0} → Acts A → Instruction → State A → Option (State A)
effect m (Push op) s = with_slots s.slots (with_top (m.push op) s.stack)
effect m (Unary op) s = with_slots s.slots (one_operand (m.unary op) s.stack)
effect m (Binary op) s = with_slots s.slots (two_operands (m.binary op) s.stack)
effect m (LoadSlot k) s = with_slots s.slots (with_top (slot_at s.slots k) s.stack)
effect m (StoreSlot k) s = stored k s.stack s.slots
effect m (Jump to) s = Some s
effect m (JumpIfFalse to) s = tested m.is_test s.stack s.slots

-- a jump leads behind its own place, at most to the end, whether or not it is taken
abbrev pub leads_on : ℕ → ℕ → Instruction → Bool
leads_on len p (Jump to) = nat_lt p to && nat_le to len
leads_on len p (JumpIfFalse to) = nat_lt p to && nat_le to len
leads_on len p i = true

-- null is not true
abbrev pub has_true_top : List Value → Bool
has_true_top [] = false
has_true_top (x ∷ xs) = is_true x

abbrev pub next_place : Instruction → ℕ → List Value → ℕ
next_place (Jump to) p stack = to
next_place (JumpIfFalse to) p stack = if has_true_top stack then p + 1 else to
next_place i p stack = p + 1

-- where a section stands: at a place, or stopped by a fault
pub data Outcome : Type 0 where
  Standing : (place : ℕ) → State Value → Outcome
  Stopped : Outcome

abbrev pub moved : ℕ → Option (State Value) → Outcome
moved p None = Stopped
moved p (Some s) = Standing p s

-- at the end it stays
abbrev pub stepped : ℕ → Acts Value → Option Instruction → ℕ → State Value → Outcome
stepped len m None p s = Standing p s
stepped len m (Some i) p s =
    if leads_on len p i then moved (next_place i p s.stack) (effect m i s) else Stopped

abbrev pub one_step : List Instruction → Acts Value → Outcome → Outcome
one_step code m Stopped = Stopped
one_step code m (Standing p s) = stepped (length code) m (slice_get code p) p s

-- after n instructions more
abbrev pub after_steps : List Instruction → Acts Value → ℕ → Outcome → Outcome
after_steps code m zero o = o
after_steps code m (suc n) o = one_step code m (after_steps code m n o)

-- before the first instruction
abbrev pub begun : Outcome
begun = Standing 0 start

-- the stack that a section leaves; none where it stops
abbrev pub stack_in : Outcome → Option (List Value)
stack_in Stopped = None
stack_in (Standing p s) = Some s.stack

abbrev pub left_by : List Instruction → Acts Value → Option (List Value)
left_by code m = stack_in (after_steps code m (length code) begun)
