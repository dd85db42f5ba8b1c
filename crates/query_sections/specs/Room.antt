-- What isn't a fault, and doesn't take more room on a stack than there is.
use Rattle.std.specs.Prelude.{ℕ, suc, ◌≤◌, ◌<◌, List, length, Option, Some, None}
use Rattle.query_code.specs.declared.instruction.Instruction.{Instruction}
use Rattle.query_values.specs.declared.value.Value.{Value}
use Rattle.plain_machine.specs.SectionRun.{Acts, State, Outcome, Standing, Stopped, after_steps}

-- a stack that an instruction leaves
abbrev pub HasRoom : ℕ → Option (List Value) → Type 0
HasRoom room None = ⊥
HasRoom room (Some xs) = length xs ≤ room

abbrev pub StateHasRoom : ℕ → Option (State Value) → Type 0
StateHasRoom room None = ⊥
StateHasRoom room (Some s) = length s.stack ≤ room

abbrev pub OutcomeHasRoom : ℕ → Outcome → Type 0
OutcomeHasRoom room Stopped = ⊥
OutcomeHasRoom room (Standing p s) = length s.stack ≤ room

-- whatever is done from there, it is no fault, and there is room for it
abbrev pub GoesSafely : ℕ → List Instruction → Acts Value → Outcome → Type 0
GoesSafely room code m o = (n : ℕ) → OutcomeHasRoom room (after_steps code m (suc n) o)

-- before an instruction
abbrev pub IsInside : List Instruction → Outcome → Type 0
IsInside code Stopped = ⊥
IsInside code (Standing p s) = p < length code

-- so many instructions were done: each of them was there
abbrev pub AreInside : List Instruction → Acts Value → ℕ → Outcome → Type 0
AreInside code m made o = (k : ℕ) → k < made → IsInside code (after_steps code m k o)
