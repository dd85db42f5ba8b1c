-- Worked programs that are not well shaped: whatever shapes are given, they don't fit.
use Rattle.std.proofs.Common.{◌≡◌, ℕ, zero, suc, List, [], ◌∷◌, length, replicate, Option}
use Rattle.std.proofs.Common.{Some, None, refl, sym, ap, ◌∙◌, subst, arith, inr, true, false}
use Rattle.std.specs.Prelude.{slice_get}
use Rattle.std.proofs.lemmas.Bool.{leb-true}
use Rattle.std.proofs.lemmas.List.{length-reverse}
use Rattle.limits.specs.declared.bounds.Bounds.{Bounds}
use Rattle.limits.specs.declared.counts.TheConstants.{SLOTS}
use Rattle.limits.specs.declared.bounds.Version.TheVariants.{First}
use Rattle.query_values.specs.declared.operation.Binary.TheVariants as binary
use Rattle.query_rows.specs.Shape.{IsBelow}
use Rattle.query_rows.specs.declared.shape.Shape.{Shape}
use Rattle.query_rows.specs.declared.shape.Shape.TheVariants.{Truth, Amount, Number}
use Rattle.query_rows.specs.ColumnShape.{widest, units_most, value_most}
use Rattle.query_code.specs.declared.instruction.Push.TheVariants as push
use Rattle.query_code.specs.declared.instruction.Unary.TheVariants as unary
use Rattle.query_code.specs.declared.instruction.Instruction.{Instruction}
use Rattle.query_code.specs.declared.instruction.Instruction.TheVariants.{Push, Unary, Binary}
use Rattle.query_code.specs.declared.instruction.Instruction.TheVariants.{LoadSlot, StoreSlot, Jump}
use Rattle.query_code.specs.declared.instruction.Instruction.TheVariants.{JumpIfFalse}
use Rattle.query_code.specs.declared.program.Parts.{Parts}
use Rattle.query_code.proofs.WorkedProgram.{counted}
use Rattle.plain_machine.specs.SectionRun.{State, start, effect}
use Rattle.well_shaped.specs.Places.{LeadsTo}
use Rattle.well_shaped.specs.Program.{IsWellShaped}
use Rattle.well_shaped.specs.Sections.{filter_loads, filter_acts}
use Rattle.well_shaped.specs.StateShape.{IfSet, IsStateBelow}
use Rattle.well_shaped.proofs.BelowFacts.{acts_below, loads_themselves}
use Rattle.well_shaped.proofs.Examples.{IfThere, there}
use Rattle.well_shaped.proofs.FrameFacts.{as_many, effect_kept}
use Rattle.well_shaped.proofs.PlaceFacts.{goes_on}

-- SELECT count(*) with another filter, at these bounds
abbrev filtered_at : Bounds → List Instruction → Parts
filtered_at b filter = record {
  bounds = b;
  mode = counted.mode;
  output = counted.output;
  code = record {
    keys = 0;
    aggregates = counted.code.aggregates;
    pool = [];
    filter = filter;
    row = [];
    last = counted.code.last;
  };
}

abbrev filtered : List Instruction → Parts
filtered = filtered_at widest

abbrev unset : List (Option Shape)
unset = replicate SLOTS None

-- A state that comes to a place of the filter: it is below each that is given there.
abbrev Comes : (filter : List Instruction) → IsWellShaped (filtered filter) → ℕ → State Shape
    → Type 0
Comes filter shaped p s = IsStateBelow s (shaped.filter.at p)

module _ (filter : List Instruction) (shaped : IsWellShaped (filtered filter)) where
  comes_first : Comes filter shaped 0 start
  comes_first = shaped.filter.given.begins

  comes_next : (p q : ℕ) (i : Instruction) (s t : State Shape) → Comes filter shaped p s
      → slice_get filter p ≡ Some i → LeadsTo i p q
      → effect (filter_acts (filtered filter)) i s ≡ Some t → Comes filter shaped q t
  comes_next p q i s t comes stands leads applies =
      let made = goes_on [] (filter_loads widest) (filter_loads widest) filter shaped.filter.at p q
      i s (loads_themselves (filter_loads widest)) shaped.filter.given comes stands leads in
      subst (λ u. IsStateBelow u (shaped.filter.at q))
      (same made.gives t (sym made.applies ∙ applies)) made.below
    where
      same : (s t : State Shape) → Some s ≡ Some t → s ≡ t
      same s t e = cc

  -- it can't be that an instruction stops there
  goes_further : (p : ℕ) (i : Instruction) (s : State Shape) → Comes filter shaped p s
      → slice_get filter p ≡ Some i → effect (filter_acts (filtered filter)) i s ≡ None → ⊥
  goes_further p i s comes stands stops =
      let w = shaped.filter.given.works p i stands in
      subst (λ o. IfSet IsStateBelow o (Some w.gives)) stops
      (subst (λ o. IfSet IsStateBelow (effect (filter_acts (filtered filter)) i s) o) w.applies
      (effect_kept IsBelow (filter_acts (filtered filter)) (filter_acts (filtered filter))
      (acts_below [] (filter_loads widest) (filter_loads widest)
      (loads_themselves (filter_loads widest))) i s (shaped.filter.at p) comes))

  -- a state that comes to the end is of one value
  one_at_end : (s : State Shape) → Comes filter shaped (length filter) s → length s.stack ≡ 1
  one_at_end s comes =
      as_many IsBelow s.stack (shaped.filter.at (length filter)).stack comes.stacks
      ∙ sym (length-reverse (shaped.filter.at (length filter)).stack)
      ∙ ap length shaped.filter.left

-- ---- operands

no_operands : IsWellShaped (filtered (Binary binary.Add ∷ [])) → ⊥
no_operands shaped =
    goes_further (Binary binary.Add ∷ []) shaped 0 (Binary binary.Add) start
    (comes_first (Binary binary.Add ∷ []) shaped) refl refl

-- the pool has no entries
no_entry : IsWellShaped (filtered (Push (push.Const 0) ∷ [])) → ⊥
no_entry shaped =
    goes_further (Push (push.Const 0) ∷ []) shaped 0 (Push (push.Const 0)) start
    (comes_first (Push (push.Const 0) ∷ []) shaped) refl refl

-- number, the number of weight, ADD: they have 8 decimals and 16
abbrev unlike : List Instruction
unlike =
    Push (push.LoadColumn 11) ∷ Push (push.LoadColumn 18) ∷ Unary unary.Number
    ∷ Binary binary.Add ∷ []

other_decimals : IsWellShaped (filtered unlike) → ⊥
other_decimals shaped =
    goes_further unlike shaped 3 (Binary binary.Add) (pair (Number 16 value)) third refl refl
  where
    units : ℕ
    units = units_most widest

    value : ℕ
    value = value_most widest

    one : State Shape
    one = record { stack = Number 8 units ∷ []; slots = unset }

    pair : Shape → State Shape
    pair s = record { stack = s ∷ Number 8 units ∷ []; slots = unset }

    first : Comes unlike shaped 1 one
    first =
        comes_next unlike shaped 0 1 (Push (push.LoadColumn 11)) start one
        (comes_first unlike shaped) refl refl refl

    second : Comes unlike shaped 2 (pair (Amount 16 value))
    second =
        comes_next unlike shaped 1 2 (Push (push.LoadColumn 18)) one (pair (Amount 16 value))
        first refl refl refl

    third : Comes unlike shaped 3 (pair (Number 16 value))
    third =
        comes_next unlike shaped 2 3 (Unary unary.Number) (pair (Amount 16 value))
        (pair (Number 16 value)) second refl refl refl

-- number * number may have 40 digits
abbrev square : List Instruction
square = Push (push.LoadColumn 11) ∷ Push (push.LoadColumn 11) ∷ Binary binary.Mul ∷ []

too_wide : IsWellShaped (filtered square) → ⊥
too_wide shaped = goes_further square shaped 2 (Binary binary.Mul) two second refl refl
  where
    units : ℕ
    units = units_most widest

    one : State Shape
    one = record { stack = Number 8 units ∷ []; slots = unset }

    two : State Shape
    two = record { stack = Number 8 units ∷ Number 8 units ∷ []; slots = unset }

    first : Comes square shaped 1 one
    first =
        comes_next square shaped 0 1 (Push (push.LoadColumn 11)) start one
        (comes_first square shaped) refl refl refl

    second : Comes square shaped 2 two
    second =
        comes_next square shaped 1 2 (Push (push.LoadColumn 11)) one two first refl refl refl

-- the running inventory is no column of a filter
no_balance : IsWellShaped (filtered (Push (push.LoadColumn 19) ∷ [])) → ⊥
no_balance shaped =
    goes_further (Push (push.LoadColumn 19) ∷ []) shaped 0 (Push (push.LoadColumn 19)) start
    (comes_first (Push (push.LoadColumn 19) ∷ []) shaped) refl refl

-- ---- ends

abbrev two_truths : List Instruction
two_truths = Push push.True ∷ Push push.True ∷ []

two_values : IsWellShaped (filtered two_truths) → ⊥
two_values shaped = two (one_at_end two_truths shaped both second)
  where
    one : State Shape
    one = record { stack = Truth ∷ []; slots = unset }

    both : State Shape
    both = record { stack = Truth ∷ Truth ∷ []; slots = unset }

    first : Comes two_truths shaped 1 one
    first =
        comes_next two_truths shaped 0 1 (Push push.True) start one
        (comes_first two_truths shaped) refl refl refl

    second : Comes two_truths shaped 2 both
    second = comes_next two_truths shaped 1 2 (Push push.True) one both first refl refl refl

    two : length both.stack ≡ 1 → ⊥
    two e = omega (arith, e)

no_value : IsWellShaped (filtered []) → ⊥
no_value shaped = none (one_at_end [] shaped start (comes_first [] shaped))
  where
    none : length (start {A = Shape}).stack ≡ 1 → ⊥
    none e = cc

-- ---- jumps

to_itself : IsWellShaped (filtered (Jump 0 ∷ [])) → ⊥
to_itself shaped = no (shaped.filter.given.works 0 (Jump 0) refl).leads_on
  where
    no : false ≡ true → ⊥
    no e = cc

-- JUMP 2, TRUE, TRUE: nothing leads to the first TRUE
abbrev passed_over : List Instruction
passed_over = Jump 2 ∷ Push push.True ∷ Push push.True ∷ []

not_led_to : IsWellShaped (filtered passed_over) → ⊥
not_led_to shaped =
    let led = shaped.filter.given.led_to 1 (leb-true _ _ refl) (leb-true _ _ refl) in
    there (λ i. LeadsTo i led.from 1 → ⊥) (slice_get passed_over led.from) led.instruction
    (none led.from) led.stands led.leads
  where
    none : (p : ℕ) → IfThere (slice_get passed_over p) (λ i. LeadsTo i p 1 → ⊥)
    none zero = λ e. omega (arith, e)
    none (suc zero) = λ e. omega (arith, e)
    none (suc (suc zero)) = λ e. omega (arith, e)
    none (suc (suc (suc p))) = tt

-- ---- slots

-- TRUE, JUMP_IF_FALSE 4, TRUE, STORE_SLOT 0, LOAD_SLOT 0: one of two paths sets the slot
abbrev halfway : List Instruction
halfway = Push push.True ∷ JumpIfFalse 4 ∷ Push push.True ∷ StoreSlot 0 ∷ LoadSlot 0 ∷ []

might_be_unset : IsWellShaped (filtered halfway) → ⊥
might_be_unset shaped = goes_further halfway shaped 4 (LoadSlot 0) start jumped refl refl
  where
    one : State Shape
    one = record { stack = Truth ∷ []; slots = unset }

    first : Comes halfway shaped 1 one
    first =
        comes_next halfway shaped 0 1 (Push push.True) start one
        (comes_first halfway shaped) refl refl refl

    jumped : Comes halfway shaped 4 start
    jumped = comes_next halfway shaped 1 4 (JumpIfFalse 4) one start first refl (inr refl) refl

-- ---- bounds

abbrev of_no_postings : Bounds
of_no_postings = record { schema = First; postings = 0; units_digits = 20; value_digits = 28 }

no_postings : IsWellShaped (filtered_at of_no_postings (Push push.True ∷ [])) → ⊥
no_postings shaped = let e = shaped.bounds.some_postings in omega (arith, e)
