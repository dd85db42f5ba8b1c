-- What holds of state shapes, of sections that have them, and of well shaped programs.
use Rattle.std.specs.Prelude.{◌≡◌, ℕ, ◌≤◌, nat_lt, Bool, true, false, List, [], ◌∷◌, length, Option}
use Rattle.std.specs.Prelude.{Some, None, slice_get, ⊤}
use Rattle.std.specs.List.{AllByRecursion}
use Rattle.limits.specs.declared.counts.TheConstants.{MOST_VALUES, SLOTS}
use Rattle.query_rows.specs.Shape.{IsBelow, is_held}
use Rattle.query_rows.specs.declared.shape.Shape.{Shape}
use Rattle.query_rows.specs.declared.shape.Shape.TheVariants.{Truth}
use Rattle.query_code.specs.declared.instruction.Instruction.{Instruction}
use Rattle.query_code.specs.declared.instruction.Instruction.TheVariants.{Push, Unary}
use Rattle.query_code.specs.declared.instruction.Instruction.TheVariants.{LoadSlot, StoreSlot}
use Rattle.query_code.specs.declared.program.Code.{Code}
use Rattle.query_code.specs.declared.program.Constant.{Constant}
use Rattle.query_code.specs.declared.program.Output.{Output}
use Rattle.query_code.specs.declared.program.Parts.{Parts}
use Rattle.plain_machine.specs.Pool.{operation_of}
use Rattle.plain_machine.specs.SectionRun.{Acts, State, effect}
use Rattle.well_shaped.specs.Ends.{AreRow, HandsOver}
use Rattle.well_shaped.specs.Places.{AreGiven, LeadsTo, Leaves}
use Rattle.well_shaped.specs.Program.{IsDepth}
use Rattle.well_shaped.specs.Sections.{Loads, loaded, shape_acts}
use Rattle.well_shaped.specs.StateShape.{AreActs, AreEach, IfSet, IsStateBelow}

-- ---- lesser shapes

-- being below is an order of state shapes
pub record StatesAreOrdered : Type 0 where
  pub reflexive : (s : State Shape) → IsStateBelow s s
  pub transitive : (s t u : State Shape) → IsStateBelow s t → IsStateBelow t u → IsStateBelow s u

-- what may be loaded is there on both sides, and on the left of lesser shapes
pub record AreLoadsBelow (k l : Loads) : Type 0 where
  pub posting : k.posting ≡ l.posting
  pub balance : IfSet IsBelow k.balance l.balance
  pub keys : AreEach IsBelow k.keys l.keys
  pub aggregates : AreEach IsBelow k.aggregates l.aggregates

-- of lesser shapes instructions make lesser ones
abbrev pub ActsAreMonotone : Type 0
ActsAreMonotone =
    (pool : List Constant) (k l : Loads) → AreLoadsBelow k l
    → AreActs IsBelow (shape_acts pool k) (shape_acts pool l)

-- an instruction makes of a state shape one that is below another
pub record Makes (m : Acts Shape) (i : Instruction) (s t : State Shape) : Type 0 where
  pub gives : State Shape
  pub applies : effect m i s ≡ Some gives
  pub below : IsStateBelow gives t

-- What is made of a state shape below the one that is given to a place is below those that are
-- given to the places behind it, also where less may be loaded. So whoever goes through a section
-- from the start stays below all that can be given to it.
abbrev pub SectionsAreFollowed : Type 0
SectionsAreFollowed =
    (pool : List Constant) (k l : Loads) (code : List Instruction) (at : ℕ → State Shape)
    (p q : ℕ) (i : Instruction) (s : State Shape) → AreLoadsBelow k l
    → AreGiven (shape_acts pool l) code at → IsStateBelow s (at p) → slice_get code p ≡ Some i
    → LeadsTo i p q → Makes (shape_acts pool k) i s (at q)

-- what the row section hands over, where it leaves lesser shapes, is less
pub record HandsOverLess (n : ℕ) (c : Code) (values keys totals : List Shape) : Type 0 where
  pub less_keys : List Shape
  pub less_totals : List Shape
  pub handed : HandsOver n c values less_keys less_totals
  pub keys_below : AreEach IsBelow less_keys keys
  pub totals_below : AreEach IsBelow less_totals totals

-- an end that passes with shapes passes with lesser ones
pub record EndsAreMonotone : Type 0 where
  pub filter : (values : List Shape) → AreEach IsBelow values (Truth ∷ []) → values ≡ Truth ∷ []
  pub row : (o : Output) (values more : List Shape) → AreEach IsBelow values more → AreRow o more
      → AreRow o values
  pub groups : (n : ℕ) (c : Code) (values more keys totals : List Shape)
      → AreEach IsBelow values more → HandsOver n c more keys totals
      → HandsOverLess n c values keys totals

-- ---- what can be held

abbrev pub IsHeld : Shape → Type 0
IsHeld s = is_held s ≡ true

abbrev pub IsHeldIfSet : Option Shape → Type 0
IsHeldIfSet None = ⊤
IsHeldIfSet (Some s) = IsHeld s

-- each value of each of its shapes can be held
pub record AreHeld (s : State Shape) : Type 0 where
  pub stack : AllByRecursion IsHeld s.stack
  pub slots : AllByRecursion IsHeldIfSet s.slots

-- state shapes below others, that fit the section as well and can be held at each of its places
pub record HeldBelow (m : Acts Shape) (code : List Instruction) (at : ℕ → State Shape) :
    Type 0 where
  pub low : ℕ → State Shape
  pub given : AreGiven m code low
  pub below : (q : ℕ) → IsStateBelow (low q) (at q)
  pub held : (q : ℕ) → q ≤ length code → AreHeld (low q)

-- Where state shapes fit a section, there are such that can be held: at most 2^127 - 1 in all
-- counts, and at most 32 decimals.
abbrev pub HeldShapesFit : Type 0
HeldShapesFit =
    (pool : List Constant) (l : Loads) (code : List Instruction) (at : ℕ → State Shape)
    → AreGiven (shape_acts pool l) code at → HeldBelow (shape_acts pool l) code at

-- ---- what stands in sections that are well shaped

abbrev pub is_some : {A : Type 0} → Option A → Bool
is_some None = false
is_some (Some x) = true

-- what an instruction names is there: what it loads, an entry of the pool of the right kind, a slot
abbrev pub is_there : List Constant → Loads → Instruction → Bool
is_there pool l (Push op) = is_some (loaded pool l op)
is_there pool l (Unary op) = is_some (operation_of pool op)
is_there pool l (LoadSlot k) = nat_lt k SLOTS
is_there pool l (StoreSlot k) = nat_lt k SLOTS
is_there pool l i = true

-- At each place there is what the instruction names, the stack has no more than the most values,
-- and there are all slots.
pub record SectionsHaveWhatTheyName : Type 0 where
  pub named : (pool : List Constant) (l : Loads) (code : List Instruction) (at : ℕ → State Shape)
      (p : ℕ) (i : Instruction) → AreGiven (shape_acts pool l) code at → slice_get code p ≡ Some i
      → is_there pool l i ≡ true
  pub stack : (m : Acts Shape) (code : List Instruction) (at : ℕ → State Shape) (q : ℕ)
      → AreGiven m code at → q ≤ length code → length (at q).stack ≤ MOST_VALUES
  pub slots : (m : Acts Shape) (code : List Instruction) (at : ℕ → State Shape) (q : ℕ)
      → AreGiven m code at → q ≤ length code → length (at q).slots ≡ SLOTS

-- ---- how deep the stack becomes

-- The depth at a place of a section is the same in all state shapes that can be given to it,
-- whatever it may load; so a program has one depth at most, which is no more than the most values.
pub record DepthsAreOne : Type 0 where
  pub places : (m n : Acts Shape) (code : List Instruction) (values others : List Shape)
      (a : Leaves m code values) (b : Leaves n code others) (q : ℕ) → q ≤ length code
      → length (a.at q).stack ≡ length (b.at q).stack
  pub programs : (p : Parts) (depth other : ℕ) → IsDepth p depth → IsDepth p other
      → depth ≡ other
  pub few : (p : Parts) (depth : ℕ) → IsDepth p depth → depth ≤ MOST_VALUES
