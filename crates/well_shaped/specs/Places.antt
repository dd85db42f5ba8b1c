-- State shapes that are given to the places of a section, its end included.
use Rattle.std.specs.Prelude.{◌≡◌, ℕ, ◌+◌, ◌<◌, ◌≤◌, true, List, length, reverse, Some}
use Rattle.std.specs.Prelude.{slice_get, ◌⊎◌}
use Rattle.query_rows.specs.declared.shape.Shape.{Shape}
use Rattle.query_code.specs.declared.instruction.Instruction.{Instruction}
use Rattle.query_code.specs.declared.instruction.Instruction.TheVariants.{Jump, JumpIfFalse}
use Rattle.plain_machine.specs.SectionRun.{Acts, State, start, effect, leads_on}
use Rattle.well_shaped.specs.StateShape.{IsStateBelow}

-- An instruction at a place leads to the place behind it, if it isn't a jump that is always taken,
-- and to where it jumps.
abbrev pub LeadsTo : Instruction → ℕ → ℕ → Type 0
LeadsTo (Jump to) p q = q ≡ to
LeadsTo (JumpIfFalse to) p q = (q ≡ p + 1) ⊎ (q ≡ to)
LeadsTo i p q = q ≡ p + 1

-- an instruction of the section leads to the place
pub record IsLedTo (code : List Instruction) (q : ℕ) : Type 0 where
  pub from : ℕ
  pub instruction : Instruction
  pub stands : slice_get code from ≡ Some instruction
  pub leads : LeadsTo instruction from q

-- An instruction can do its work at its place; what it gives is below the state shape of each place
-- that it leads to; and where it jumps, it leads on.
pub record Works (m : Acts Shape) (len : ℕ) (at : ℕ → State Shape) (p : ℕ) (i : Instruction) :
    Type 0 where
  pub gives : State Shape
  pub applies : effect m i (at p) ≡ Some gives
  pub covered : (q : ℕ) → LeadsTo i p q → IsStateBelow gives (at q)
  pub leads_on : leads_on len p i ≡ true

-- The state shapes fit the places of a section: empty stack and unset slots are below the first,
-- each instruction works, and each place but the first is led to.
pub record AreGiven (m : Acts Shape) (code : List Instruction) (at : ℕ → State Shape) :
    Type 0 where
  pub begins : IsStateBelow start (at 0)
  pub works : (p : ℕ) (i : Instruction) → slice_get code p ≡ Some i → Works m (length code) at p i
  pub led_to : (q : ℕ) → 0 < q → q ≤ length code → IsLedTo code q

-- State shapes can be given to the places of a section so that it leaves values of these shapes,
-- the first one first.
pub record Leaves (m : Acts Shape) (code : List Instruction) (values : List Shape) : Type 0 where
  pub at : ℕ → State Shape
  pub given : AreGiven m code at
  pub left : reverse (at (length code)).stack ≡ values

-- at some place there are so many values on the stack
pub record HasDepth {m : Acts Shape} {code : List Instruction} {values : List Shape}
    (shaped : Leaves m code values) (depth : ℕ) : Type 0 where
  pub place : ℕ
  pub within : place ≤ length code
  pub deep : length (shaped.at place).stack ≡ depth
