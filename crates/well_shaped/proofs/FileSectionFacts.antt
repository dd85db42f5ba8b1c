-- The instructions of a well shaped section have room for their operands.
use Rattle.std.proofs.Common.{◌≡◌, ℕ, zero, suc, ◌^◌, ◌<◌, ◌≤◌, Bool, true, false, cond, ◌&&◌, List}
use Rattle.std.proofs.Common.{[], ◌∷◌, length, Option, Some, None, Ok, Err, refl, subst}
use Rattle.std.proofs.Common.{arith, leb, ltb}
use Rattle.std.proofs.lemmas.Bool.{and_parts, leb-true, ltb-true}
use Rattle.std.specs.Prelude.{option_and_then, option_map, slice_get}
use Rattle.std.specs.List.{AllByRecursion}
use Rattle.limits.specs.declared.counts.TheConstants.{LONGEST_SECTION, MOST_ITEMS}
use Rattle.limits.specs.declared.counts.TheConstants.{MOST_PLACES, SLOTS}
use Rattle.plain_machine.specs.Pool.{key_at}
use Rattle.plain_machine.specs.SectionRun.{State, effect, leads_on, one_operand, with_slots}
use Rattle.plain_machine.specs.SectionRun.{with_top}
use Rattle.query_code.specs.ByteForm.{AllFit}
use Rattle.query_code.specs.InstructionForm.{at_least_one, instruction}
use Rattle.query_code.specs.declared.instruction.Instruction.{Instruction}
use Rattle.query_code.specs.declared.instruction.Instruction.TheVariants.{Push, Unary, Binary}
use Rattle.query_code.specs.declared.instruction.Instruction.TheVariants.{LoadSlot, StoreSlot, Jump}
use Rattle.query_code.specs.declared.instruction.Instruction.TheVariants.{JumpIfFalse}
use Rattle.query_code.specs.declared.instruction.Push.TheVariants as push
use Rattle.query_code.specs.declared.instruction.Unary.TheVariants as unary
use Rattle.query_code.specs.declared.program.Constant.{Constant}
use Rattle.query_terms.specs.Column.{numbered}
use Rattle.query_terms.specs.declared.column.TheConstants.{COLUMNS}
use Rattle.query_rows.specs.Rules as machine
use Rattle.query_rows.specs.Rules.{Ruled}
use Rattle.query_rows.specs.Shape.{fitting, is_held, is_most}
use Rattle.query_rows.specs.declared.shape.Misfit.TheVariants.{Kind, TooWide}
use Rattle.query_rows.specs.declared.shape.Shape.{Shape}
use Rattle.query_rows.specs.declared.shape.Shape.TheVariants as shape
use Rattle.query_values.specs.Unary as operation
use Rattle.well_shaped.proofs.NamedFacts.{are_there}
use Rattle.well_shaped.specs.Laws.{is_some, is_there}
use Rattle.well_shaped.specs.Places.{AreGiven}
use Rattle.well_shaped.specs.Sections.{Loads, given, shape_acts}
use Rattle.well_shaped.specs.Files.{IsShortSection, TakesFew}
use Rattle.well_shaped.proofs.FileInstructionFacts.{HasRoom, instruction_fits}

-- ---- what is there stands below the length

within : {A : Type 0} (xs : List A) (i : ℕ) → is_some (slice_get xs i) ≡ true → i < length xs
within [] i e = absurd cc
within (x ∷ xs) zero e = omega arith
within (x ∷ xs) (suc i) e = let less = within xs i e in omega (arith, less)

of_then : {A B : Type 0} (f : A → Option B) (o : Option A)
    → is_some (option_and_then f o) ≡ true → is_some o ≡ true
of_then f None e = e
of_then f (Some x) e = refl

of_map : {A B : Type 0} (f : A → B) (o : Option A) → is_some (option_map f o) ≡ true
    → is_some o ≡ true
of_map f None e = e
of_map f (Some x) e = refl

some_root : (n : ℕ) → is_some (cond (at_least_one n) (Some (operation.Root n)) None) ≡ true
    → at_least_one n ≡ true
some_root n e = by (at_least_one n) e
  where
    by : (is : Bool) → is_some (cond is (Some (operation.Root n)) None) ≡ true → is ≡ true
    by true e = refl
    by false e = e

-- ---- decimals

fitting_held : (s t : Shape) → fitting s ≡ Ok t → is_held s ≡ true
fitting_held s t e = by (is_held s) e
  where
    by : (is : Bool) → cond is (Ok s) (Err TooWide) ≡ Ok t → is ≡ true
    by true e = refl
    by false e = absurd cc

pub narrow_number : (p m : ℕ) (t : Shape) → fitting (shape.Number p m) ≡ Ok t → p ≤ MOST_PLACES
narrow_number p m t e =
    leb-true p MOST_PLACES
    (and_parts (leb p MOST_PLACES) (is_most m) (fitting_held (shape.Number p m) t e)).0

pub narrow_inventory : (p u v : ℕ) (t : Shape) → fitting (shape.Inventory p u v) ≡ Ok t
    → p ≤ MOST_PLACES
narrow_inventory p u v t e =
    leb-true p MOST_PLACES
    (and_parts (leb p MOST_PLACES) (is_most u && is_most v)
    (fitting_held (shape.Inventory p u v) t e)).0

if_so : (is : Bool) (r : Ruled) (t : Shape) → cond is r (Err Kind) ≡ Ok t
    → (is ≡ true) × (r ≡ Ok t)
if_so true r t e = (refl, e)
if_so false r t e = absurd cc

aligned_narrow : (q : ℕ) (s t : Shape) → machine.aligned q s ≡ Ok t → q ≤ MOST_PLACES
aligned_narrow q (shape.Number p m) t e =
    narrow_number q _ t (if_so (leb p q) (fitting (shape.Number q _)) t e).1
aligned_narrow q s t e = absurd cc

align_narrow : (q : ℕ) (xs : List Shape) (slots : List (Option Shape)) (t : State Shape)
    → with_slots slots (one_operand (λ s. given (machine.aligned q s)) xs) ≡ Some t
    → q ≤ MOST_PLACES
align_narrow q [] slots t e = absurd cc
align_narrow q (x ∷ xs) slots t e = by (machine.aligned q x) refl e
  where
    by : (r : Ruled) → machine.aligned q x ≡ r
        → with_slots slots (with_top (given r) xs) ≡ Some t → q ≤ MOST_PLACES
    by (Ok s) is e = aligned_narrow q x s is
    by (Err f) is e = absurd cc

-- ---- an instruction

lands : (to p len : ℕ) → (ltb p to && leb to len) ≡ true → to ≤ len
lands to p len e = leb-true to len (and_parts (ltb p to) (leb to len) e).1

module _ (pool : List Constant) (l : Loads) (len : ℕ) (pool_short : length pool ≤ LONGEST_SECTION)
    (few_keys : length l.keys ≤ MOST_ITEMS) (few_aggregates : length l.aggregates ≤ MOST_ITEMS)
    (short : len ≤ LONGEST_SECTION) where
  in_pool : (i : ℕ) → is_some (slice_get pool i) ≡ true → i < 2 ^ 16
  in_pool i e = let less = within pool i e in omega (arith, less, pool_short)

  key_room : (i : ℕ) → is_some (key_at pool i) ≡ true → i < 2 ^ 16
  key_room i e = in_pool i (of_then _ (slice_get pool i) e)

  push_room : (p : ℕ) (op : _) → is_there pool l (Push op) ≡ true → HasRoom (Push op)
  push_room p push.True e = tt
  push_room p push.False e = tt
  push_room p (push.Const x) e = in_pool x (of_then _ (slice_get pool x) e)
  push_room p (push.LoadColumn x) e =
      let less = within COLUMNS x (of_then _ (numbered x) e) in omega (arith, less)
  push_room p (push.LoadKey x) e =
      let less = within l.keys x e in omega (arith, less, few_keys)
  push_room p (push.LoadAggregate x) e =
      let less = within l.aggregates x e in omega (arith, less, few_aggregates)
  push_room p (push.Meta x) e = key_room x (of_then _ (key_at pool x) e)
  push_room p (push.EntryMeta x) e = key_room x (of_then _ (key_at pool x) e)
  push_room p (push.AnyMeta x) e = key_room x (of_then _ (key_at pool x) e)

  unary_room : (op : _) (s t : State Shape) → is_there pool l (Unary op) ≡ true
      → effect (shape_acts pool l) (Unary op) s ≡ Some t → TakesFew (Unary op)
      → HasRoom (Unary op)
  unary_room (unary.Align q) s t e works few =
      let narrow = align_narrow q s.stack s.slots t works in omega (arith, narrow)
  unary_room (unary.Match i) s t e works few =
      in_pool i (of_then _ (slice_get pool i) (of_map _ _ e))
  unary_room (unary.MatchAny i) s t e works few =
      in_pool i (of_then _ (slice_get pool i) (of_map _ _ e))
  unary_room (unary.InList i) s t e works few =
      in_pool i (of_then _ (slice_get pool i) (of_map _ _ e))
  unary_room (unary.Root n) s t e works few = (omega (arith, few), some_root n e)
  unary_room op s t e works few = tt

  has_room : (p : ℕ) (i : Instruction) (s t : State Shape) → is_there pool l i ≡ true
      → effect (shape_acts pool l) i s ≡ Some t → leads_on len p i ≡ true → TakesFew i
      → HasRoom i
  has_room p (Push op) s t e works leads few = push_room p op e
  has_room p (Unary op) s t e works leads few = unary_room op s t e works few
  has_room p (Binary op) s t e works leads few = tt
  has_room p (LoadSlot k) s t e works leads few =
      let less = ltb-true k SLOTS e in omega (arith, less)
  has_room p (StoreSlot k) s t e works leads few =
      let less = ltb-true k SLOTS e in omega (arith, less)
  has_room p (Jump to) s t e works leads few =
      let at = lands to p len leads in omega (arith, at, short)
  has_room p (JumpIfFalse to) s t e works leads few =
      let at = lands to p len leads in omega (arith, at, short)

-- ---- a section

all_at : (P : Instruction → Type 0) (is : List Instruction) → AllByRecursion P is → (p : ℕ)
    (i : Instruction) → slice_get is p ≡ Some i → P i
all_at P [] h p i e = absurd cc
all_at P (x ∷ is) h zero i e = subst P (is_it x i e) h.0
  where
    is_it : (x i : Instruction) → Some x ≡ Some i → x ≡ i
    is_it x i e = cc
all_at P (x ∷ is) h (suc p) i e = all_at P is h.1 p i e

all_fit : (is : List Instruction)
    → ((p : ℕ) (i : Instruction) → slice_get is p ≡ Some i → instruction.fits i)
    → AllFit instruction is
all_fit [] h = tt
all_fit (i ∷ is) h = (h 0 i refl, all_fit is (λ p j e. h (suc p) j e))

pub section_fits : (pool : List Constant) (l : Loads) (code : List Instruction)
    (at : ℕ → State Shape) → AreGiven (shape_acts pool l) code at
    → length pool ≤ LONGEST_SECTION → length l.keys ≤ MOST_ITEMS
    → length l.aggregates ≤ MOST_ITEMS → IsShortSection code → AllFit instruction code
section_fits pool l code at fit pool_short few_keys few_aggregates short =
    all_fit code
    (λ p i stands. let w = fit.works p i stands in
    instruction_fits i
    (has_room pool l (length code) pool_short few_keys few_aggregates short.short p i (at p) w.gives
    (are_there pool l code at p i fit stands) w.applies w.leads_on
    (all_at TakesFew code short.roots p i stands)))
