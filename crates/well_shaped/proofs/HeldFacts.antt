-- State shapes that fit a section may be chosen so that each value of them can be held.
use Rattle.std.proofs.Common.{◌≡◌, ℕ, zero, suc, ◌+◌, ◌*◌, ◌^◌, ◌-◌, ◌≤◌, min, max, List, []}
use Rattle.std.proofs.Common.{◌∷◌, map, replicate, length, Option, Some, None, Ok, Err, Bool, true}
use Rattle.std.proofs.Common.{false, cond, leb, refl, subst, arith}
use Rattle.std.specs.Prelude.{⊤, slice_get, option_map, option_and_then, nat_eq, ◌&&◌}
use Rattle.std.specs.List.{AllByRecursion, list_all}
use Rattle.std.proofs.lemmas.Bool.{and_parts, and_from, ltb-true, lt-ltb}
use Rattle.std.proofs.lemmas.Option.{slice_get_within}
use Rattle.limits.specs.declared.counts.TheConstants.{COUNT_BOUND, MOST_PLACES, SLOTS}
use Rattle.query_values.specs.Unary as operation
use Rattle.query_values.specs.declared.operation.Binary.{Binary}
use Rattle.query_values.specs.declared.operation.Binary.TheVariants as binary
use Rattle.query_rows.proofs.OrderFacts.{below_cases, transitive}
use Rattle.query_rows.specs.Rules as rule
use Rattle.query_rows.specs.Rules.{Ruled, unary_shape, binary_shape}
use Rattle.query_rows.specs.Shape.{IsBelow, fitting, is_held, is_most}
use Rattle.query_rows.specs.declared.shape.Misfit.TheVariants.{Kind, TooWide}
use Rattle.query_rows.specs.declared.shape.Shape.{Shape}
use Rattle.query_rows.specs.declared.shape.Shape.TheVariants as shape
use Rattle.query_code.specs.declared.instruction.Instruction.{Instruction}
use Rattle.query_code.specs.declared.program.Constant.{Constant}
use Rattle.plain_machine.specs.Pool.{operation_of}
use Rattle.plain_machine.specs.SectionRun.{Acts, State, start, effect}
use Rattle.well_shaped.specs.Laws.{IsHeld, IsHeldIfSet, AreHeld, HeldBelow}
use Rattle.well_shaped.specs.Places.{LeadsTo, Works, AreGiven}
use Rattle.well_shaped.specs.Sections.{Loads, given, loaded, shape_acts}
use Rattle.well_shaped.specs.StateShape.{IfSet, AreEach, AreStates, AreActs, IsStateBelow}
use Rattle.well_shaped.proofs.BelowFacts.{acts_below, loads_themselves}
use Rattle.well_shaped.proofs.FrameFacts.{effect_kept, states_then}
use Rattle.well_shaped.proofs.PlaceFacts.{everywhere}

-- ---- what rules give can be held

abbrev pub HeldIf : Ruled → Type 0
HeldIf (Err e) = ⊤
HeldIf (Ok s) = IsHeld s

pub fits : (s : Shape) → HeldIf (fitting s)
fits s = by (is_held s) refl
  where
    by : (b : Bool) → is_held s ≡ b → HeldIf (cond b (Ok s) (Err TooWide))
    by false e = tt
    by true e = e

if_so : (b : Bool) (r : Ruled) → HeldIf r → HeldIf (cond b r (Err Kind))
if_so false r h = tt
if_so true r h = h

of_truth : (t s : Shape) → IsHeld t → HeldIf (rule.of_truth t s)
of_truth t shape.Truth h = h
of_truth t s h = tt

of_text : (t s : Shape) → IsHeld t → HeldIf (rule.of_text t s)
of_text t shape.Text h = h
of_text t s h = tt

of_set : (t s : Shape) → IsHeld t → HeldIf (rule.of_set t s)
of_set t shape.Set h = h
of_set t s h = tt

of_day : (t s : Shape) → IsHeld t → HeldIf (rule.of_day t s)
of_day t shape.Day h = h
of_day t s h = tt

of_aligned : (q : ℕ) (s : Shape) → HeldIf (rule.aligned q s)
of_aligned q (shape.Number p m) =
    if_so (leb p q) (fitting (shape.Number q (m * 10 ^ (q - p))))
    (fits (shape.Number q (m * 10 ^ (q - p))))
of_aligned q s = tt

of_negated : (s : Shape) → HeldIf (rule.negated s)
of_negated (shape.Number p m) = fits (shape.Number p m)
of_negated (shape.Amount p m) = fits (shape.Amount p m)
of_negated (shape.Position u v) = fits (shape.Position u v)
of_negated (shape.Inventory p u v) = fits (shape.Inventory p u v)
of_negated s = tt

of_magnitude : (s : Shape) → HeldIf (rule.magnitude_of s)
of_magnitude (shape.Number p m) = fits (shape.Number p m)
of_magnitude s = tt

of_length : (s : Shape) → HeldIf (rule.length_of s)
of_length shape.Text = refl
of_length shape.Set = refl
of_length s = tt

of_units : (s : Shape) → HeldIf (rule.units_of s)
of_units (shape.Position u v) = fits (shape.Amount 8 u)
of_units (shape.Inventory p u v) = fits (shape.Inventory p u 0)
of_units s = tt

of_cost : (s : Shape) → HeldIf (rule.cost_of s)
of_cost (shape.Position u v) = fits (shape.Amount 16 (max v (u * 10 ^ 8)))
of_cost (shape.Inventory p u v) = fits (shape.Inventory (p + 8) (v + u * 10 ^ 8) 0)
of_cost s = tt

of_number : (s : Shape) → HeldIf (rule.number_of s)
of_number (shape.Amount p m) = fits (shape.Number p m)
of_number (shape.Position u v) = fits (shape.Number 8 u)
of_number s = tt

of_currency : (s : Shape) → HeldIf (rule.currency_of s)
of_currency (shape.Amount p m) = refl
of_currency (shape.Position u v) = refl
of_currency s = tt

pub of_unary : (op : operation.Unary) (s : Shape) → HeldIf (unary_shape op s)
of_unary (operation.Align places) s = of_aligned places s
of_unary operation.Neg s = of_negated s
of_unary operation.Abs s = of_magnitude s
of_unary operation.Not s = of_truth shape.Truth s refl
of_unary operation.IsNull s = refl
of_unary (operation.Match pattern) s = of_text shape.Truth s refl
of_unary (operation.MatchAny pattern) s = of_set shape.Truth s refl
of_unary (operation.InList ys) s =
    if_so (rule.is_ranked s && list_all (rule.is_like s) ys) (Ok shape.Truth)
    refl
of_unary operation.Year s = of_day (rule.whole 9999) s refl
of_unary operation.Month s = of_day (rule.whole 12) s refl
of_unary operation.Day s = of_day (rule.whole 31) s refl
of_unary (operation.Root n) s = of_text shape.Text s refl
of_unary operation.Parent s = of_text shape.Text s refl
of_unary operation.Leaf s = of_text shape.Text s refl
of_unary operation.Length s = of_length s
of_unary operation.Units s = of_units s
of_unary operation.Cost s = of_cost s
of_unary operation.Number s = of_number s
of_unary operation.Currency s = of_currency s
of_unary operation.RootRank s = of_text (rule.whole 5) s refl

of_sum : (s t : Shape) → HeldIf (rule.sum_of s t)
of_sum (shape.Number p m) (shape.Number q n) =
    if_so (nat_eq p q) (fitting (shape.Number p (m + n)))
    (fits (shape.Number p (m + n)))
of_sum s t = tt

of_product : (s t : Shape) → HeldIf (rule.product_of s t)
of_product (shape.Number p m) (shape.Number q n) = fits (shape.Number (p + q) (m * n))
of_product s t = tt

of_ordered : (s t : Shape) → HeldIf (rule.ordered s t)
of_ordered shape.Text shape.Text = refl
of_ordered shape.Day shape.Day = refl
of_ordered (shape.Number p m) (shape.Number q n) =
    if_so (nat_eq p q) (Ok shape.Truth) refl
of_ordered s t = tt

of_compared : (s t : Shape) → HeldIf (rule.compared s t)
of_compared shape.Truth shape.Truth = refl
of_compared s t = of_ordered s t

of_member : (s t : Shape) → HeldIf (rule.member_of s t)
of_member shape.Text shape.Set = refl
of_member s t = tt

pub of_binary : (op : Binary) (s t : Shape) → HeldIf (binary_shape op s t)
of_binary binary.Add s t = of_sum s t
of_binary binary.Sub s t = of_sum s t
of_binary binary.Mul s t = of_product s t
of_binary binary.Equal s t = of_compared s t
of_binary binary.NotEqual s t = of_compared s t
of_binary binary.Less s t = of_ordered s t
of_binary binary.AtMost s t = of_ordered s t
of_binary binary.Greater s t = of_ordered s t
of_binary binary.AtLeast s t = of_ordered s t
of_binary binary.InSet s t = of_member s t

-- ---- what instructions make of shapes that can be held

-- below, and of values that can be held
abbrev IsLow : Shape → Shape → Type 0
IsLow s t = IsBelow s t × IsHeld s

low_if : (x y : Option Shape) → IfSet IsBelow x y → IsHeldIfSet x → IfSet IsLow x y
low_if x None below held = tt
low_if None (Some t) below held = absurd below
low_if (Some s) (Some t) below held = (below, held)

held_given : (r : Ruled) → HeldIf r → IsHeldIfSet (given r)
held_given (Err e) h = tt
held_given (Ok s) h = h

module _ (pool : List Constant) (l : Loads) where
  abbrev acts : Acts Shape
  acts = shape_acts pool l

  monotone : AreActs IsBelow acts acts
  monotone = acts_below pool l l (loads_themselves l)

  held_push : (o : Option Shape) → IsHeldIfSet (option_and_then (λ s. given (fitting s)) o)
  held_push None = tt
  held_push (Some s) = held_given (fitting s) (fits s)

  held_unary : (o : Option operation.Unary) (s : Shape)
      → IsHeldIfSet (option_and_then (λ op. given (unary_shape op s)) o)
  held_unary None s = tt
  held_unary (Some op) s = held_given (unary_shape op s) (of_unary op s)

  low_acts : AreActs IsLow acts acts
  low_acts = record {
    push = λ op. low_if (acts.push op) (acts.push op) (monotone.push op)
        (held_push (loaded pool l op));
    unary = λ op x y h. low_if (acts.unary op x) (acts.unary op y) (monotone.unary op x y h.0)
        (held_unary (operation_of pool op) x);
    binary = λ op x u y v h k. low_if (acts.binary op x u) (acts.binary op y v)
        (monotone.binary op x u y v h.0 k.0)
        (held_given (binary_shape op x u) (of_binary op x u));
    test = λ x y h. monotone.test x y h.0;
  }

-- ---- the greatest below a shape that can be held

abbrev most : ℕ
most = COUNT_BOUND - 1

abbrev capped : Shape → Shape
capped (shape.Number p m) = shape.Number p (min m most)
capped (shape.Amount p m) = shape.Amount p (min m most)
capped (shape.Position u v) = shape.Position (min u most) (min v most)
capped (shape.Inventory p u v) = shape.Inventory p (min u most) (min v most)
capped s = s

capped_below : (s : Shape) → IsBelow (capped s) s
capped_below shape.Truth = tt
capped_below shape.Text = tt
capped_below shape.Day = tt
capped_below shape.Set = tt
capped_below (shape.Number p m) = (refl, omega arith)
capped_below (shape.Amount p m) = (refl, omega arith)
capped_below (shape.Position u v) = (omega arith, omega arith)
capped_below (shape.Inventory p u v) = (refl, omega arith, omega arith)

-- whatever can be held and is below a shape is below that one, which can be held too
abbrev UnderCap : Shape → Shape → Type 0
UnderCap s t = IsHeld s → IsBelow s (capped t) × IsHeld (capped t)

cap_most : (n : ℕ) → is_most (min n most) ≡ true
cap_most n = lt-ltb (min n most) COUNT_BOUND (omega arith)

few : (m n : ℕ) → m ≤ n → is_most m ≡ true → m ≤ min n most
few m n h e = let small = ltb-true m COUNT_BOUND e in omega (arith, h, small)

under_cap : (s t : Shape) → IsBelow s t → UnderCap s t
under_cap = below_cases UnderCap (record {
  truth = λ e. (tt, refl);
  text = λ e. (tt, refl);
  day = λ e. (tt, refl);
  set = λ e. (tt, refl);
  number = λ p m n h e. let both = and_parts (leb p MOST_PLACES) (is_most m) e in
      ((refl, few m n h both.1), and_from (leb p MOST_PLACES) (is_most (min n most)) both.0 (cap_most n));
  amount = λ p m n h e. let both = and_parts (leb p MOST_PLACES) (is_most m) e in
      ((refl, few m n h both.1), and_from (leb p MOST_PLACES) (is_most (min n most)) both.0 (cap_most n));
  position = λ u v w z h g e. let both = and_parts (is_most u) (is_most v) e in (
    (few u w h both.0, few v z g both.1),
    and_from (is_most (min w most)) (is_most (min z most)) (cap_most w) (cap_most z),
  );
  inventory = λ p u v w z h g e.
      let all = and_parts (leb p MOST_PLACES) (is_most u && is_most v) e in
      let both = and_parts (is_most u) (is_most v) all.1 in (
        (refl, few u w h both.0, few v z g both.1),
        and_from (leb p MOST_PLACES) (is_most (min w most) && is_most (min z most)) all.0
            (and_from (is_most (min w most)) (is_most (min z most)) (cap_most w) (cap_most z)),
      );
})

abbrev capped_state : State Shape → State Shape
capped_state s = record { stack = map capped s.stack; slots = map (option_map capped) s.slots }

-- what is low under a state shape is below its cap, and this is low as well
record UnderState (s t : State Shape) : Type 0 where
  pub below : IsStateBelow s (capped_state t)
  pub low : AreStates IsLow (capped_state t) t

cap_stack_below : (xs ys : List Shape) → AreEach IsLow xs ys → AreEach IsBelow xs (map capped ys)
cap_stack_below [] [] h = tt
cap_stack_below [] (y ∷ ys) h = absurd h
cap_stack_below (x ∷ xs) [] h = absurd h
cap_stack_below (x ∷ xs) (y ∷ ys) h =
    ((under_cap x y h.0.0 h.0.1).0, cap_stack_below xs ys h.1)

cap_stack_low : (xs ys : List Shape) → AreEach IsLow xs ys → AreEach IsLow (map capped ys) ys
cap_stack_low [] [] h = tt
cap_stack_low [] (y ∷ ys) h = absurd h
cap_stack_low (x ∷ xs) [] h = absurd h
cap_stack_low (x ∷ xs) (y ∷ ys) h =
    ((capped_below y, (under_cap x y h.0.0 h.0.1).1), cap_stack_low xs ys h.1)

cap_slot_below : (x y : Option Shape) → IfSet IsLow x y → IfSet IsBelow x (option_map capped y)
cap_slot_below x None h = tt
cap_slot_below None (Some y) h = absurd h
cap_slot_below (Some x) (Some y) h = (under_cap x y h.0 h.1).0

cap_slot_low : (x y : Option Shape) → IfSet IsLow x y → IfSet IsLow (option_map capped y) y
cap_slot_low x None h = tt
cap_slot_low None (Some y) h = absurd h
cap_slot_low (Some x) (Some y) h = (capped_below y, (under_cap x y h.0 h.1).1)

cap_slots_below : (xs ys : List (Option Shape)) → AreEach (IfSet IsLow) xs ys
    → AreEach (IfSet IsBelow) xs (map (option_map capped) ys)
cap_slots_below [] [] h = tt
cap_slots_below [] (y ∷ ys) h = absurd h
cap_slots_below (x ∷ xs) [] h = absurd h
cap_slots_below (x ∷ xs) (y ∷ ys) h = (cap_slot_below x y h.0, cap_slots_below xs ys h.1)

cap_slots_low : (xs ys : List (Option Shape)) → AreEach (IfSet IsLow) xs ys
    → AreEach (IfSet IsLow) (map (option_map capped) ys) ys
cap_slots_low [] [] h = tt
cap_slots_low [] (y ∷ ys) h = absurd h
cap_slots_low (x ∷ xs) [] h = absurd h
cap_slots_low (x ∷ xs) (y ∷ ys) h = (cap_slot_low x y h.0, cap_slots_low xs ys h.1)

under_state : (s t : State Shape) → AreStates IsLow s t → UnderState s t
under_state s t h = record {
  below = record {
    stacks = cap_stack_below s.stack t.stack h.stacks;
    slots = cap_slots_below s.slots t.slots h.slots;
  };
  low = record {
    stacks = cap_stack_low s.stack t.stack h.stacks;
    slots = cap_slots_low s.slots t.slots h.slots;
  };
}

low_then : (s t u : Shape) → IsLow s t → IsBelow t u → IsLow s u
low_then s t u h k = (transitive s t u h.0 k, h.1)

low_states : (s t u : State Shape) → AreStates IsLow s t → IsStateBelow t u → AreStates IsLow s u
low_states = states_then IsLow IsBelow IsLow low_then

each_unset : (n : ℕ) → AreEach (IfSet IsLow) (replicate n None) (replicate n None)
each_unset zero = tt
each_unset (suc n) = (tt, each_unset n)

start_low : AreStates IsLow start start
start_low = record { stacks = tt; slots = each_unset SLOTS }

capped_state_below : (s : State Shape) → IsStateBelow (capped_state s) s
capped_state_below s = record { stacks = stack s.stack; slots = slots s.slots }
  where
    stack : (xs : List Shape) → AreEach IsBelow (map capped xs) xs
    stack [] = tt
    stack (x ∷ xs) = (capped_below x, stack xs)

    slot : (x : Option Shape) → IfSet IsBelow (option_map capped x) x
    slot None = tt
    slot (Some x) = capped_below x

    slots : (xs : List (Option Shape)) → AreEach (IfSet IsBelow) (map (option_map capped) xs) xs
    slots [] = tt
    slots (x ∷ xs) = (slot x, slots xs)

low_held : (s : State Shape) → AreStates IsLow (capped_state s) s → AreHeld (capped_state s)
low_held s h = record { stack = stack s.stack h.stacks; slots = slots s.slots h.slots }
  where
    stack : (xs : List Shape) → AreEach IsLow (map capped xs) xs
        → AllByRecursion IsHeld (map capped xs)
    stack [] h = tt
    stack (x ∷ xs) h = (h.0.1, stack xs h.1)

    slot : (x : Option Shape) → IfSet IsLow (option_map capped x) x
        → IsHeldIfSet (option_map capped x)
    slot None h = tt
    slot (Some x) h = h.1

    slots : (xs : List (Option Shape)) → AreEach (IfSet IsLow) (map (option_map capped) xs) xs
        → AllByRecursion IsHeldIfSet (map (option_map capped) xs)
    slots [] h = tt
    slots (x ∷ xs) h = (slot x h.0, slots xs h.1)

-- ---- in a section

module _ (pool : List Constant) (l : Loads) (code : List Instruction) (at : ℕ → State Shape)
    (fit : AreGiven (shape_acts pool l) code at) where
  abbrev IsFine : ℕ → Type 0
  IsFine q = AreStates IsLow (capped_state (at q)) (at q)

  -- what an instruction makes of the cap of its place
  record Gives (p : ℕ) (i : Instruction) : Type 0 where
    pub gives : State Shape
    pub applies : effect (shape_acts pool l) i (capped_state (at p)) ≡ Some gives
    pub under : (q : ℕ) → LeadsTo i p q → UnderState gives (at q)

  gives_low : (p : ℕ) (i : Instruction) → slice_get code p ≡ Some i → IsFine p → Gives p i
  gives_low p i stands fine =
      by (effect (shape_acts pool l) i (capped_state (at p))) refl
      (subst (λ o. IfSet (AreStates IsLow) (effect (shape_acts pool l) i (capped_state (at p))) o)
      w.applies
      (effect_kept IsLow (shape_acts pool l) (shape_acts pool l) (low_acts pool l) i
      (capped_state (at p)) (at p) fine))
    where
      w : Works (shape_acts pool l) (length code) at p i
      w = fit.works p i stands

      by : (o : Option (State Shape)) → effect (shape_acts pool l) i (capped_state (at p)) ≡ o
          → IfSet (AreStates IsLow) o (Some w.gives) → Gives p i
      by None applies low = absurd low
      by (Some t) applies low = record {
        gives = t;
        applies = applies;
        under = λ q leads. under_state t (at q)
            (low_states t w.gives (at q) low (w.covered q leads));
      }

  first : UnderState start (at 0)
  first = under_state start (at 0) (low_states start start (at 0) start_low fit.begins)

  next : (p q : ℕ) (i : Instruction) → slice_get code p ≡ Some i → LeadsTo i p q → IsFine p
      → IsFine q
  next p q i stands leads fine = ((gives_low p i stands fine).under q leads).low

  fine_at : (q : ℕ) → q ≤ length code → IsFine q
  fine_at = everywhere (shape_acts pool l) code at fit IsFine first.low next

  pub held_below : HeldBelow (shape_acts pool l) code at
  held_below = record {
    low = λ q. capped_state (at q);
    given = record { begins = first.below; works = works; led_to = fit.led_to };
    below = λ q. capped_state_below (at q);
    held = λ q within. low_held (at q) (fine_at q within);
  }
    where
      works : (p : ℕ) (i : Instruction) → slice_get code p ≡ Some i
          → Works (shape_acts pool l) (length code) (λ q. capped_state (at q)) p i
      works p i stands =
          let less = slice_get_within code p i stands in
          let g = gives_low p i stands (fine_at p (omega (arith, less))) in
          record {
            gives = g.gives;
            applies = g.applies;
            covered = λ q leads. (g.under q leads).below;
            leads_on = (fit.works p i stands).leads_on;
          }
