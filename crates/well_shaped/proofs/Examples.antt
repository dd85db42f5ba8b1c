-- Worked programs: some that are well shaped, by shapes that are given, and some that are not.
use Rattle.std.proofs.Common.{◌≡◌, ℕ, zero, suc, ◌≤◌, ◌<◌, List, [], ◌∷◌, length, replicate}
use Rattle.std.proofs.Common.{Option, Some, None, codes, true, false, refl, sym, ap, subst, arith}
use Rattle.std.proofs.Common.{⊎_elim, inl, inr}
use Rattle.std.specs.Prelude.{slice_get, ⊤}
use Rattle.std.proofs.lemmas.Bool.{leb-true}
use Rattle.limits.specs.declared.counts.TheConstants.{SLOTS}
use Rattle.query_rows.specs.declared.shape.Shape.{Shape}
use Rattle.query_rows.specs.declared.shape.Shape.TheVariants.{Truth, Text, Number}
use Rattle.query_rows.specs.ColumnShape.{AreBounds, widest}
use Rattle.query_code.specs.declared.instruction.Push.{Push as Op}
use Rattle.query_code.specs.declared.instruction.Push.TheVariants as push
use Rattle.query_code.specs.declared.instruction.Instruction.{Instruction}
use Rattle.query_code.specs.declared.instruction.Instruction.TheVariants.{Push}
use Rattle.query_code.specs.declared.instruction.Instruction.TheVariants.{LoadSlot, StoreSlot, Jump}
use Rattle.query_code.specs.declared.instruction.Instruction.TheVariants.{JumpIfFalse}
use Rattle.query_code.specs.declared.program.Mode.TheVariants.{Plain}
use Rattle.query_code.specs.declared.program.Parts.{Parts}
use Rattle.query_code.proofs.WorkedProgram.{counted}
use Rattle.plain_machine.specs.SectionRun.{Acts, State, start, effect, leads_on}
use Rattle.plain_machine.specs.SectionRun.{with_slots, with_top}
use Rattle.well_shaped.specs.Places.{LeadsTo, IsLedTo, Works, AreGiven, Leaves, HasDepth}
use Rattle.well_shaped.specs.Program.{IsWellShaped, IsDepth}
use Rattle.well_shaped.specs.Sections.{filter_acts, row_acts, last_acts}
use Rattle.well_shaped.specs.StateShape.{IsStateBelow}
use Rattle.well_shaped.proofs.BelowFacts.{state_reflexive}

-- ---- giving shapes

-- what holds of an instruction, where one stands there
abbrev pub IfThere : Option Instruction → (Instruction → Type 0) → Type 0
IfThere None P = ⊤
IfThere (Some i) P = P i

pub there : (P : Instruction → Type 0) (o : Option Instruction) (i : Instruction) → IfThere o P
    → o ≡ Some i → P i
there P None i h e = absurd (none e)
  where
    none : None ≡ Some i → ⊥
    none e = cc
there P (Some j) i h e = subst P (same e) h
  where
    same : Some j ≡ Some i → j ≡ i
    same e = cc

-- a stack on unset slots
abbrev on_stack : List Shape → State Shape
on_stack stack = record { stack = stack; slots = replicate SLOTS None }

-- a stack on one slot that is set
abbrev with_slot : List Shape → Shape → State Shape
with_slot stack s = record { stack = stack; slots = Some s ∷ replicate 63 None }

module _ (m : Acts Shape) (code : List Instruction) (at : ℕ → State Shape) where
  -- an instruction at a place that leads to one place, where what it gives is given
  goes_to : (p q : ℕ) (i : Instruction) → effect m i (at p) ≡ Some (at q)
      → leads_on (length code) p i ≡ true → ((k : ℕ) → LeadsTo i p k → k ≡ q)
      → Works m (length code) at p i
  goes_to p q i applies on only = record {
    gives = at q;
    applies = applies;
    covered = λ k leads. subst (λ j. IsStateBelow (at q) (at j)) (sym (only k leads))
        (state_reflexive (at q));
    leads_on = on;
  }

  given_so : IsStateBelow start (at 0)
      → ((p : ℕ) → IfThere (slice_get code p) (Works m (length code) at p))
      → ((q : ℕ) → 0 < q → q ≤ length code → IsLedTo code q) → AreGiven m code at
  given_so begins works led = record {
    begins = begins;
    works = λ p i stands. there (Works m (length code) at p) (slice_get code p) i (works p) stands;
    led_to = led;
  }

  -- no instruction: the start is the end
  empty : AreGiven m [] (λ q. start)
  empty = record {
    begins = state_reflexive start;
    works = λ p i stands. absurd (none i stands);
    led_to = λ q more within. absurd (omega (arith, more, within));
  }
    where
      none : (i : Instruction) → None ≡ Some i → ⊥
      none i e = cc

-- ---- the program of SELECT count(*)

bounds : AreBounds widest
bounds = record {
  some_postings = leb-true _ _ refl;
  postings = leb-true _ _ refl;
  some_units = leb-true _ _ refl;
  units = leb-true _ _ refl;
  some_value = leb-true _ _ refl;
  value = leb-true _ _ refl;
}

first_bounds : AreBounds counted.bounds
first_bounds = record {
  some_postings = leb-true _ _ refl;
  postings = leb-true _ _ refl;
  some_units = leb-true _ _ refl;
  units = leb-true _ _ refl;
  some_value = leb-true _ _ refl;
  value = leb-true _ _ refl;
}

-- nothing, and then a value of this shape
abbrev one_more : Shape → ℕ → State Shape
one_more s zero = start
one_more s (suc q) = on_stack (s ∷ [])

-- a section of one instruction that gives a value
one_value : (m : Acts Shape) (op : Op) (s : Shape)
    → m.push op ≡ Some s → Leaves m (Push op ∷ []) (s ∷ [])
one_value m op s is = record {
  at = one_more s;
  given = given_so m (Push op ∷ []) (one_more s) (state_reflexive start) works led;
  left = refl;
}
  where
    works : (p : ℕ) → IfThere (slice_get (Push op ∷ []) p) (Works m 1 (one_more s) p)
    works zero =
        goes_to m (Push op ∷ []) (one_more s) 0 1 (Push op)
        (ap (λ o. with_slots (replicate SLOTS None)
        (with_top o [])) is) refl (λ k leads. leads)
    works (suc p) = tt

    led : (q : ℕ) → 0 < q → q ≤ 1 → IsLedTo (Push op ∷ []) q
    led zero more within = absurd (omega (arith, more))
    led (suc zero) more within = record {
      from = 0;
      instruction = Push op;
      stands = refl;
      leads = refl;
    }
    led (suc (suc q)) more within = absurd (omega (arith, within))

no_values : (m : Acts Shape) → Leaves m [] []
no_values m = record { at = λ q. start; given = empty m [] (λ q. start); left = refl }

-- the count of at most a million rows
abbrev count : Shape
count = Number 0 1000000

counted_is_well_shaped : IsWellShaped counted
counted_is_well_shaped = record {
  bounds = first_bounds;
  filter = one_value (filter_acts counted) push.True Truth refl;
  values = [];
  row = no_values (row_acts counted);
  ends = record {
    keys = [];
    totals = count ∷ [];
    handed = record { inputs = []; are = refl; as_many = refl; gather = refl };
    row = count ∷ [];
    last = one_value (last_acts counted [] (count ∷ [])) (push.LoadAggregate 0) count refl;
    is_row = record { as_many = refl; ordered = refl };
  };
}

counted_has_depth_1 : IsDepth counted 1
unfolding counted_is_well_shaped one_value no_values
counted_has_depth_1 = record {
  shaped = counted_is_well_shaped;
  met = inl (record { place = 1; within = leb-true _ _ refl; deep = refl });
  greatest = λ d somewhere. ⊎_elim (filter d) (λ other. ⊎_elim (row d) (last d) other) somewhere;
}
  where
    few : (s : Shape) (q : ℕ) → length (one_more s q).stack ≤ 1
    few s zero = omega arith
    few s (suc q) = omega arith

    filter : (d : ℕ) → HasDepth counted_is_well_shaped.filter d → d ≤ 1
    filter d has = subst (λ n. n ≤ 1) has.deep (few Truth has.place)

    row : (d : ℕ) → HasDepth counted_is_well_shaped.row d → d ≤ 1
    row d has = subst (λ n. n ≤ 1) has.deep (leb-true 0 1 refl)

    last : (d : ℕ) → HasDepth counted_is_well_shaped.ends.last d → d ≤ 1
    last d has = subst (λ n. n ≤ 1) has.deep (few count has.place)

-- ---- SELECT account

abbrev accounts : Parts
accounts = record {
  bounds = widest;
  mode = Plain;
  output = record {
    is_distinct = false;
    is_descending = false;
    limit = None;
    targets =
        codes "account" ∷ [];
    hidden = 0;
    order = 0 ∷ [];
  };
  code = record {
    keys = 0;
    aggregates = [];
    pool = [];
    filter = Push push.True ∷ [];
    row = Push (push.LoadColumn 9) ∷ [];
    last = [];
  };
}

accounts_are_well_shaped : IsWellShaped accounts
accounts_are_well_shaped = record {
  bounds = bounds;
  filter = one_value (filter_acts accounts) push.True Truth refl;
  values = Text ∷ [];
  row = one_value (row_acts accounts) (push.LoadColumn 9) Text refl;
  ends = record { as_many = refl; ordered = refl };
}

-- ---- a filter with a slot: TRUE, to the slot 0, from there

abbrev through_slot : List Instruction
through_slot = Push push.True ∷ StoreSlot 0 ∷ LoadSlot 0 ∷ []

slot_states : ℕ → State Shape
slot_states zero = start
slot_states (suc zero) = on_stack (Truth ∷ [])
slot_states (suc (suc zero)) = with_slot [] Truth
slot_states (suc (suc (suc q))) = with_slot (Truth ∷ []) Truth

slot_works : (p : ℕ)
    → IfThere (slice_get through_slot p) (Works (filter_acts counted) 3 slot_states p)
unfolding slot_states
slot_works zero =
    goes_to (filter_acts counted) through_slot slot_states 0 1 (Push push.True) refl refl
    (λ k leads. leads)
slot_works (suc zero) =
    goes_to (filter_acts counted) through_slot slot_states 1 2 (StoreSlot 0) refl refl
    (λ k leads. leads)
slot_works (suc (suc zero)) =
    goes_to (filter_acts counted) through_slot slot_states 2 3 (LoadSlot 0) refl refl
    (λ k leads. leads)
slot_works (suc (suc (suc p))) = tt

slot_led : (q : ℕ) → 0 < q → q ≤ 3 → IsLedTo through_slot q
slot_led zero more within = absurd (omega (arith, more))
slot_led (suc zero) more within =
    record { from = 0; instruction = Push push.True; stands = refl; leads = refl }
slot_led (suc (suc zero)) more within =
    record { from = 1; instruction = StoreSlot 0; stands = refl; leads = refl }
slot_led (suc (suc (suc zero))) more within =
    record { from = 2; instruction = LoadSlot 0; stands = refl; leads = refl }
slot_led (suc (suc (suc (suc q)))) more within = absurd (omega (arith, within))

slots_may_be_used : Leaves (filter_acts counted) through_slot (Truth ∷ [])
unfolding slot_states
slots_may_be_used = record {
  at = slot_states;
  given = given_so (filter_acts counted) through_slot slot_states (state_reflexive start) slot_works
      slot_led;
  left = refl;
}

-- ---- TRUE AND FALSE as it is compiled: both ways lead to one truth value

abbrev both : List Instruction
both =
    Push push.True ∷ JumpIfFalse 4 ∷ Push push.False ∷ Jump 5 ∷ Push push.False ∷ []

both_states : ℕ → State Shape
both_states zero = start
both_states (suc zero) = on_stack (Truth ∷ [])
both_states (suc (suc zero)) = start
both_states (suc (suc (suc zero))) = on_stack (Truth ∷ [])
both_states (suc (suc (suc (suc zero)))) = start
both_states (suc (suc (suc (suc (suc q))))) = on_stack (Truth ∷ [])

both_works : (p : ℕ) → IfThere (slice_get both p) (Works (filter_acts counted) 5 both_states p)
unfolding both_states
both_works zero =
    goes_to (filter_acts counted) both both_states 0 1 (Push push.True) refl refl (λ k leads. leads)
both_works (suc zero) = record {
  gives = start;
  applies = refl;
  covered = λ k leads.
      ⊎_elim
      (λ next. subst (λ j. IsStateBelow start (both_states j)) (sym next) (state_reflexive start))
      (λ far. subst (λ j. IsStateBelow start (both_states j)) (sym far) (state_reflexive start))
      leads;
  leads_on = refl;
}
both_works (suc (suc zero)) =
    goes_to (filter_acts counted) both both_states 2 3 (Push push.False) refl refl
    (λ k leads. leads)
both_works (suc (suc (suc zero))) =
    goes_to (filter_acts counted) both both_states 3 5 (Jump 5) refl refl (λ k leads. leads)
both_works (suc (suc (suc (suc zero)))) =
    goes_to (filter_acts counted) both both_states 4 5 (Push push.False) refl refl
    (λ k leads. leads)
both_works (suc (suc (suc (suc (suc p))))) = tt

both_led : (q : ℕ) → 0 < q → q ≤ 5 → IsLedTo both q
both_led zero more within = absurd (omega (arith, more))
both_led (suc zero) more within =
    record { from = 0; instruction = Push push.True; stands = refl; leads = refl }
both_led (suc (suc zero)) more within =
    record { from = 1; instruction = JumpIfFalse 4; stands = refl; leads = inl refl }
both_led (suc (suc (suc zero))) more within =
    record { from = 2; instruction = Push push.False; stands = refl; leads = refl }
both_led (suc (suc (suc (suc zero)))) more within =
    record { from = 1; instruction = JumpIfFalse 4; stands = refl; leads = inr refl }
both_led (suc (suc (suc (suc (suc zero))))) more within =
    record { from = 3; instruction = Jump 5; stands = refl; leads = refl }
both_led (suc (suc (suc (suc (suc (suc q)))))) more within = absurd (omega (arith, within))

paths_may_meet : Leaves (filter_acts counted) both (Truth ∷ [])
unfolding both_states
paths_may_meet = record {
  at = both_states;
  given =
      given_so (filter_acts counted) both both_states (state_reflexive start) both_works both_led;
  left = refl;
}
