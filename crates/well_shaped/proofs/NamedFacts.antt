-- What the instructions of a section name is there.
use Rattle.std.proofs.Common.{◌≡◌, ℕ, List, [], ◌∷◌, length, set, Option, Some, None, Bool}
use Rattle.std.proofs.Common.{true, false}
use Rattle.std.proofs.Common.{cond, ltb, refl, sym, ap, ◌∙◌, subst, ⊎_elim, arith}
use Rattle.std.specs.Prelude.{slice_get, option_and_then}
use Rattle.std.proofs.lemmas.Bool.{cases_lt, lt-ltb}
use Rattle.std.proofs.lemmas.Option.{slice_get_past, slice_get_within}
use Rattle.limits.specs.declared.counts.TheConstants.{SLOTS}
use Rattle.query_values.specs.Unary as operation
use Rattle.query_rows.specs.Rules.{unary_shape}
use Rattle.query_rows.specs.Shape.{fitting}
use Rattle.query_rows.specs.declared.shape.Shape.{Shape}
use Rattle.query_code.specs.declared.instruction.Instruction.{Instruction}
use Rattle.query_code.specs.declared.instruction.Instruction.TheVariants.{Push, Unary, Binary}
use Rattle.query_code.specs.declared.instruction.Instruction.TheVariants.{LoadSlot, StoreSlot, Jump}
use Rattle.query_code.specs.declared.instruction.Instruction.TheVariants.{JumpIfFalse}
use Rattle.query_code.specs.declared.program.Constant.{Constant}
use Rattle.plain_machine.specs.Pool.{operation_of}
use Rattle.plain_machine.specs.SectionRun.{State, with_top, one_operand, with_slots, slot_at}
use Rattle.plain_machine.specs.SectionRun.{set_in}
use Rattle.plain_machine.specs.SectionRun.{stored, effect}
use Rattle.well_shaped.specs.Laws.{is_some, is_there}
use Rattle.well_shaped.specs.Places.{AreGiven}
use Rattle.well_shaped.specs.Sections.{Loads, given, loaded, push_of, unary_of, shape_acts}
use Rattle.well_shaped.proofs.DepthFacts.{none_some, all_slots}

-- a stack stands there only where there is one
stack_is : (slots : List (Option Shape)) (o : Option (List Shape)) (t : State Shape)
    → with_slots slots o ≡ Some t → is_some o ≡ true
stack_is slots None t e = absurd (none_some t e)
stack_is slots (Some xs) t e = refl

top_is : (o : Option Shape) (xs : List Shape) → is_some (with_top o xs) ≡ true → is_some o ≡ true
top_is None xs e = e
top_is (Some x) xs e = refl

behind_is : (f : Shape → Option Shape) (o : Option Shape)
    → is_some (option_and_then f o) ≡ true → is_some o ≡ true
behind_is f None e = e
behind_is f (Some x) e = refl

operation_is : (o : Option operation.Unary) (xs : List Shape)
    → is_some (one_operand (λ s. option_and_then (λ op. given (unary_shape op s)) o) xs) ≡ true
    → is_some o ≡ true
operation_is None [] e = e
operation_is None (x ∷ xs) e = e
operation_is (Some op) xs e = refl

set_slot : (slots : List (Option Shape)) (k : ℕ) → is_some (slot_at slots k) ≡ true
    → ltb k (length slots) ≡ true
set_slot slots k e =
    ⊎_elim (λ less. lt-ltb k (length slots) less)
    (λ more. absurd
    (unset (subst (λ o. is_some (set_in o) ≡ true) (slice_get_past slots k more) e)))
    (cases_lt k (length slots))
  where
    unset : false ≡ true → ⊥
    unset e = cc

stored_is : (k : ℕ) (xs : List Shape) (slots : List (Option Shape)) (t : State Shape)
    → stored k xs slots ≡ Some t → ltb k (length slots) ≡ true
stored_is k [] slots t e = absurd (none_some t e)
stored_is k (x ∷ xs) slots t e = by (ltb k (length slots)) e
  where
    by : (b : Bool)
        → cond b (Some (record { stack = xs; slots = set slots k (Some x) })) None ≡ Some t
        → b ≡ true
    by false e = absurd (none_some t e)
    by true e = refl

module _ (pool : List Constant) (l : Loads) where
  there : (i : Instruction) (s t : State Shape) → length s.slots ≡ SLOTS
      → effect (shape_acts pool l) i s ≡ Some t → is_there pool l i ≡ true
  there (Push op) s t all e =
      behind_is (λ v. given (fitting v)) (loaded pool l op)
      (top_is (push_of pool l op) s.stack
      (stack_is s.slots (with_top (push_of pool l op) s.stack) t e))
  there (Unary op) s t all e =
      operation_is (operation_of pool op) s.stack
      (stack_is s.slots (one_operand (unary_of pool op) s.stack) t e)
  there (Binary op) s t all e = refl
  there (LoadSlot k) s t all e =
      ap (ltb k) (sym all)
      ∙ set_slot s.slots k
      (top_is (slot_at s.slots k) s.stack
      (stack_is s.slots (with_top (slot_at s.slots k) s.stack) t e))
  there (StoreSlot k) s t all e = ap (ltb k) (sym all) ∙ stored_is k s.stack s.slots t e
  there (Jump to) s t all e = refl
  there (JumpIfFalse to) s t all e = refl

  pub are_there : (code : List Instruction) (at : ℕ → State Shape) (p : ℕ) (i : Instruction)
      → AreGiven (shape_acts pool l) code at → slice_get code p ≡ Some i → is_there pool l i ≡ true
  are_there code at p i given stands =
      let w = given.works p i stands in
      there i (at p) w.gives (all_slots (shape_acts pool l) code at given p
      (let less = slice_get_within code p i stands in omega (arith, less)))
      w.applies
