-- What the pass over a section answers.
use Rattle.std.specs.Prelude.{◌≡◌, ℕ, ◌+◌, ◌<◌, ◌≤◌, max, false, List, length, Result, Ok, Err, Some}
use Rattle.std.specs.Prelude.{slice_get, slice_set, slice_index_or}
use Rattle.refusals.specs.declared.refusal.Refusal.{Refusal}
use Rattle.refusals.specs.declared.refusal.Refusal.TheVariants.{OutOfMemory, Refused}
use Rattle.query_rows.specs.declared.shape.Shape.{Shape}
use Rattle.query_code.specs.declared.instruction.Instruction.{Instruction}
use Rattle.query_code.specs.declared.program.Constant.{Constant}
use Rattle.plain_machine.specs.SectionRun.{State, leads_on}
use Rattle.well_shaped.specs.Laws.{AreLoadsBelow}
use Rattle.well_shaped.specs.Places.{AreGiven, LeadsTo}
use Rattle.well_shaped.specs.Sections.{Loads, shape_acts}
use Rattle.well_shaped.specs.StateShape.{IsStateBelow}
use Rattle.verify_programs.specs.Loading.{has_entry, knows}
use Rattle.verify_programs.specs.declared.cause.CodeCause.{CodeCause}
use Rattle.verify_programs.specs.declared.cause.CodeCause.TheVariants as cause
use Rattle.verify_programs.specs.Pass.{Stands}
use Rattle.verify_programs.specs.declared.passing.Passed.{Passed}
use Rattle.verify_programs.specs.declared.passing.SectionCause.{SectionCause}
use Rattle.verify_programs.specs.declared.waiting.Waiting.{Waiting}
use Rattle.verify_programs.specs.declared.waiting.Waiting.TheVariants.{Nothing, Shaped, Clash}

module _ (pool : List Constant) (l : Loads) (code : List Instruction) where
  -- No state shapes fit the section, whatever more may be loaded.
  abbrev pub HasNone : Type 0
  HasNone =
      (more : Loads) (at : ℕ → State Shape) → AreLoadsBelow l more
      → AreGiven (shape_acts pool more) code at → ⊥

  -- State shapes fit the section that have this one at the end and no more values than so many on
  -- the stack, which are met. They are the least: below all others, whatever more may be loaded.
  pub record IsLeast (end : State Shape) (depth : ℕ) : Type 0 where
    pub at : ℕ → State Shape
    pub given : AreGiven (shape_acts pool l) code at
    pub ends : at (length code) ≡ end
    pub deepest : ℕ
    pub within : deepest ≤ length code
    pub met : length (at deepest).stack ≡ depth
    pub greatest : (q : ℕ) → q ≤ length code → length (at q).stack ≤ depth
    pub least : (more : Loads) (other : ℕ → State Shape) → AreLoadsBelow l more
        → AreGiven (shape_acts pool more) code other → (q : ℕ) → q ≤ length code
        → IsStateBelow (at q) (other q)

  -- ---- causes

  -- what stands at a place, of which something holds
  pub record Standing (n : ℕ) (Holds : Instruction → Type 0) : Type 0 where
    pub instruction : Instruction
    pub stands : slice_get code n ≡ Some instruction
    pub holds : Holds instruction

  -- nothing before the place leads there
  abbrev pub IsUnreached : ℕ → Type 0
  IsUnreached n =
      (p : ℕ) (i : Instruction) → p < n → slice_get code p ≡ Some i → LeadsTo i p n → ⊥

  -- the cause stands at the place, where it is one that can be seen there
  abbrev pub HasCause : CodeCause → ℕ → Type 0
  HasCause cause.Jump n = Standing n (λ i. leads_on (length code) n i ≡ false)
  HasCause cause.Unknown n = Standing n (λ i. knows l i ≡ false)
  HasCause cause.PoolEntry n = Standing n (λ i. has_entry pool i ≡ false)
  HasCause cause.Unreachable n = IsUnreached n
  HasCause cause.Pattern n = ⊥
  HasCause cause.Bounds n = ⊥
  HasCause c n = Unit {0}

  -- ---- answers

  -- the least state shapes, unless memory runs out; else there are none, and why
  abbrev pub Passes : Result Passed (Refusal SectionCause) → Type 0
  Passes (Ok p) = IsLeast p.end p.depth
  Passes (Err OutOfMemory) = Unit {0}
  Passes (Err (Refused c)) = HasNone × HasCause c.cause c.place

  -- one place more
  abbrev pub Advances : {U : Type 0} → ℕ → Result U (Refusal CodeCause) → List Waiting → ℕ → Type 0
  Advances n (Ok u) waiting depth = Stands (shape_acts pool l) code (n + 1) waiting depth
  Advances n (Err OutOfMemory) waiting depth = Unit {0}
  Advances n (Err (Refused c)) waiting depth = HasNone × HasCause c n

-- why nothing is taken from a place
abbrev pub IsWaitingCause : CodeCause → Waiting → Type 0
IsWaitingCause cause.Unreachable w = w ≡ Nothing
IsWaitingCause cause.Operands w = w ≡ Clash
IsWaitingCause c w = ⊥

-- what has come to a place is taken
pub record IsTaken (n : ℕ) (state : State Shape) (old new : List Waiting) (before after : ℕ) :
    Type 0 where
  pub is : slice_index_or old n Nothing ≡ Shaped state
  pub left : new ≡ slice_set old n Nothing
  pub deep : after ≡ max before (length state.stack)

abbrev pub Arrives : ℕ → Result (State Shape) (Refusal CodeCause) → (old new : List Waiting)
    → (before after : ℕ) → Type 0
Arrives n (Ok s) old new before after = IsTaken n s old new before after
Arrives n (Err OutOfMemory) old new before after = Unit {0}
Arrives n (Err (Refused c)) old new before after = IsWaitingCause c (slice_index_or old n Nothing)

-- the same answer, with the place of its cause
abbrev pub IsPlaced : {T : Type 0} → ℕ → Result T (Refusal CodeCause)
    → Result T (Refusal SectionCause) → Type 0
IsPlaced n (Ok x) result = result ≡ Ok x
IsPlaced n (Err OutOfMemory) result = result ≡ Err OutOfMemory
IsPlaced n (Err (Refused c)) result = result ≡ Err (Refused (record { cause = c; place = n }))
