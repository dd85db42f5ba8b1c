-- What has come to each place of a section, after so many of its instructions.
use Rattle.std.specs.Prelude.{◌≡◌, ℕ, zero, suc, ◌+◌, ◌<◌, ◌≤◌, ◌==◌, ◌||◌, Bool, true, max, List}
use Rattle.std.specs.Prelude.{length, Option, Some, None, slice_get, slice_set, slice_index_or}
use Rattle.std.specs.Prelude.{if◌then◌else◌}
use Rattle.query_rows.specs.declared.shape.Shape.{Shape}
use Rattle.query_code.specs.declared.instruction.Instruction.{Instruction}
use Rattle.query_code.specs.declared.instruction.Instruction.TheVariants.{Jump, JumpIfFalse}
use Rattle.plain_machine.specs.SectionRun.{Acts, State, start, effect, leads_on}
use Rattle.verify_programs.specs.Joining.{joined_state}
use Rattle.verify_programs.specs.declared.waiting.Waiting.{Waiting}
use Rattle.verify_programs.specs.declared.waiting.Waiting.TheVariants.{Nothing, Shaped, Clash}

abbrev pub shaped_if : Option (State Shape) → Waiting
shaped_if None = Clash
shaped_if (Some s) = Shaped s

-- what has come, with what comes more
abbrev pub met : Waiting → State Shape → Waiting
met Nothing s = Shaped s
met (Shaped t) s = shaped_if (joined_state t s)
met Clash s = Clash

abbrev pub met_if : Waiting → Option (State Shape) → Waiting
met_if w None = w
met_if w (Some s) = met w s

-- an instruction at p leads to q
abbrev pub leads_to : Instruction → ℕ → ℕ → Bool
leads_to (Jump to) p q = q == to
leads_to (JumpIfFalse to) p q = (q == p + 1) || (q == to)
leads_to i p q = q == p + 1

abbrev pub if_leads : Bool → Option (State Shape) → Option (State Shape)
if_leads b s = if b then s else None

-- what an instruction at p brings to q, where it makes something of what has come to it
abbrev pub brought : Acts Shape → Option Instruction → ℕ → Waiting → ℕ → Option (State Shape)
brought m None p w q = None
brought m (Some i) p Nothing q = None
brought m (Some i) p Clash q = None
brought m (Some i) p (Shaped s) q = if_leads (leads_to i p q) (effect m i s)

abbrev pub first_at : ℕ → Waiting
first_at zero = Shaped start
first_at (suc q) = Nothing

-- what has come to q after the first n instructions
abbrev pub came : Acts Shape → List Instruction → ℕ → ℕ → Waiting
came m code zero q = first_at q
came m code (suc n) q =
    met_if (came m code n q) (brought m (slice_get code n) n (came m code n n) q)

abbrev pub depth_of : Waiting → ℕ
depth_of (Shaped s) = length s.stack
depth_of w = 0

-- the most values on the stack of the first n places
abbrev pub deepest : Acts Shape → List Instruction → ℕ → ℕ
deepest m code zero = 0
deepest m code (suc n) = max (deepest m code n) (depth_of (came m code n n))

-- an instruction did its work with what had come to it
pub record Did (m : Acts Shape) (code : List Instruction) (p : ℕ) (i : Instruction) : Type 0 where
  pub state : State Shape
  pub has : came m code p p ≡ Shaped state
  pub gives : State Shape
  pub applies : effect m i state ≡ Some gives
  pub leads_on : leads_on (length code) p i ≡ true

-- The first n instructions did their work; what has come to each place behind them waits there.
pub record Stands (m : Acts Shape) (code : List Instruction) (n : ℕ) (waiting : List Waiting)
    (depth : ℕ) : Type 0 where
  pub long : length waiting ≡ length code + 1
  pub came : (q : ℕ) → n ≤ q → q ≤ length code
      → slice_index_or waiting q Nothing ≡ came m code n q
  pub did : (p : ℕ) (i : Instruction) → p < n → slice_get code p ≡ Some i → Did m code p i
  pub deep : depth ≡ deepest m code n

-- ---- one place after the other

abbrev pub bring : List Waiting → ℕ → State Shape → List Waiting
bring w q s = slice_set w q (met (slice_index_or w q Nothing) s)

-- where it jumps there is a place
abbrev pub IsWithin : ℕ → Instruction → Type 0
IsWithin places (Jump to) = to < places
IsWithin places (JumpIfFalse to) = to < places
IsWithin places i = Unit {0}

-- brought to each place that an instruction at p leads to
abbrev pub spread : Instruction → ℕ → State Shape → List Waiting → List Waiting
spread (Jump to) p s w = bring w to s
spread (JumpIfFalse to) p s w =
    if to == p + 1 then bring w (p + 1) s else bring (bring w to s) (p + 1) s
spread i p s w = bring w (p + 1) s
