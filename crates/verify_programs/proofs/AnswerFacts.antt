-- What the pass answers at one place, and at the end.
use Rattle.std.proofs.Common.{◌≡◌, ℕ, ◌≤◌, List, length, get_or, max, false}
use Rattle.std.proofs.Common.{sym, ap, ◌∙◌, Some, Ok, Err, Result, arith, subst}
use Rattle.std.specs.Prelude.{slice_get, ⊤}
use Rattle.refusals.specs.declared.refusal.Refusal.{Refusal}
use Rattle.refusals.specs.declared.refusal.Refusal.TheVariants.{OutOfMemory, Refused}
use Rattle.query_rows.specs.declared.shape.Shape.{Shape}
use Rattle.query_code.specs.declared.instruction.Instruction.{Instruction}
use Rattle.query_code.specs.declared.program.Constant.{Constant}
use Rattle.plain_machine.specs.SectionRun.{State, effect}
use Rattle.plain_machine.specs.SectionRun as runs
use Rattle.well_shaped.specs.Sections.{Loads, shape_acts}
use Rattle.verify_programs.specs.Answers.{Becomes, IfRefused, IsNamedCause}
use Rattle.verify_programs.specs.declared.cause.CodeCause.{CodeCause}
use Rattle.verify_programs.specs.declared.cause.CodeCause.TheVariants as cause
use Rattle.verify_programs.specs.Pass.{came, deepest, depth_of, Stands}
use Rattle.verify_programs.specs.Passing.{Advances, Arrives, HasCause, HasNone, IsLeast, IsTaken}
use Rattle.verify_programs.specs.Passing.{IsPlaced, IsWaitingCause, Passes}
use Rattle.verify_programs.specs.declared.passing.SectionCause.{SectionCause}
use Rattle.verify_programs.specs.declared.waiting.Waiting.{Waiting}
use Rattle.verify_programs.specs.declared.waiting.Waiting.TheVariants.{Nothing, Shaped, Clash}
use Rattle.verify_programs.proofs.Flow.{accepted, clashes, fails, jumps_amiss, unreachable, unreached}

module _ (pool : List Constant) (l : Loads) (code : List Instruction) (n : ℕ)
    (old : List Waiting) (before : ℕ) (within : n ≤ length code)
    (all : Stands (shape_acts pool l) code n old before) where
  waits : (w : Waiting) → get_or old n Nothing ≡ w → came (shape_acts pool l) code n n ≡ w
  waits w e = sym (all.came n (omega arith) within) ∙ e

  by_cause : (c : CodeCause) → IsWaitingCause c (get_or old n Nothing)
      → HasNone pool l code × HasCause pool l code c n
  by_cause cause.Unreachable e =
      let nothing = waits Nothing e in
      (unreachable pool l code n within all.did nothing, unreached pool l code n all.did nothing)
  by_cause cause.Operands e = (clashes pool l code n (waits Clash e), tt)
  by_cause c e = absurd e

  pub not_arrived : (U : Type 0) (r : Refusal CodeCause) (new other : List Waiting)
      (after depth : ℕ) → Arrives n (Err r) old new before after
      → Advances pool l code {U = U} n (Err r) other depth
  not_arrived U OutOfMemory new other after depth h = tt
  not_arrived U (Refused c) new other after depth h = by_cause c h

  module _ (s : State Shape) (new : List Waiting) (after : ℕ)
      (is : IsTaken n s old new before after) (i : Instruction) (stands : slice_get code n ≡ Some i)
    where
      pub not_on : runs.leads_on (length code) n i ≡ false
          → HasNone pool l code × HasCause pool l code cause.Jump n
      not_on e = (
        jumps_amiss pool l code n i stands e,
        record { instruction = i; stands = stands; holds = e },
      )

      named : (c : CodeCause) → IsNamedCause pool l c i → HasCause pool l code c n
      named cause.Jump h = absurd h
      named cause.Unreachable h = absurd h
      named cause.Pattern h = absurd h
      named cause.Bounds h = absurd h
      named cause.Unknown h = record { instruction = i; stands = stands; holds = h }
      named cause.PoolEntry h = record { instruction = i; stands = stands; holds = h }
      named c h = tt

      pub not_applied : (U V : Type 0) (r : Refusal CodeCause) (t : State Shape)
          (other : List Waiting) (depth : ℕ)
          → Becomes {U = U} (Err r) (effect (shape_acts pool l) i s) t
          → IfRefused {X = U} (Err r) (λ c. IsNamedCause pool l c i)
          → Advances pool l code {U = V} n (Err r) other depth
      not_applied U V OutOfMemory t other depth h k = tt
      not_applied U V (Refused c) t other depth h k =
          (fails pool l code n i s stands (waits (Shaped s) is.is) h, named c k)

-- ---- the end

pub not_ended : (U : Type 0) (pool : List Constant) (l : Loads) (code : List Instruction)
    (old : List Waiting) (before : ℕ) → Stands (shape_acts pool l) code (length code) old before
    → (r : Refusal CodeCause) (new : List Waiting) (after : ℕ)
    → Arrives (length code) (Err r) old new before after
    → Advances pool l code {U = U} (length code) (Err r) new after
not_ended U pool l code old before all r new after h =
    not_arrived pool l code (length code) old before (omega arith) all U r new new after after h

pub ended : (pool : List Constant) (l : Loads) (code : List Instruction) (old : List Waiting)
    (before : ℕ) → Stands (shape_acts pool l) code (length code) old before → (s : State Shape)
    (new : List Waiting) (after : ℕ) → IsTaken (length code) s old new before after
    → IsLeast pool l code s after
ended pool l code old before all s new after is =
    accepted pool l code all.did s has after
    (is.deep ∙ (ap (λ d. max d (length s.stack)) all.deep
    ∙ ap (λ w. max (deepest (shape_acts pool l) code (length code)) (depth_of w)) (sym has)))
  where
    has : came (shape_acts pool l) code (length code) (length code) ≡ Shaped s
    has = sym (all.came (length code) (omega arith) (omega arith)) ∙ is.is

-- with the place of a cause
abbrev pub Ends : List Constant → Loads → List Instruction
    → Result (State Shape) (Refusal SectionCause) → ℕ → Type 0
Ends pool l code (Ok s) depth = IsLeast pool l code s depth
Ends pool l code (Err OutOfMemory) depth = Unit {0}
Ends pool l code (Err (Refused c)) depth = HasNone pool l code × HasCause pool l code c.cause c.place

module _ (pool : List Constant) (l : Loads) (code : List Instruction) (old new : List Waiting)
    (before after n : ℕ) (at : n ≡ length code)
    (all : Stands (shape_acts pool l) code n old before) where
  at_end : Stands (shape_acts pool l) code (length code) old before
  at_end = subst (λ k. Stands (shape_acts pool l) code k old before) at all

  pub ends : (r : Result (State Shape) (Refusal CodeCause)) → Arrives (length code) r old new before after
      → (p : Result (State Shape) (Refusal SectionCause)) → IsPlaced (length code) r p
      → Ends pool l code p after
  ends (Ok s) h p e =
      subst (λ x. Ends pool l code x after) (sym e) (ended pool l code old before at_end s new after h)
  ends (Err OutOfMemory) h p e = subst (λ x. Ends pool l code x after) (sym e) tt
  ends (Err (Refused c)) h p e =
      subst (λ x. Ends pool l code x after) (sym e)
      (not_ended ⊤ pool l code old before at_end (Refused c) new after h)

pub ends_amiss : (pool : List Constant) (l : Loads) (code : List Instruction) (after : ℕ)
    (r : Refusal SectionCause) → Ends pool l code (Err r) after → Passes pool l code (Err r)
ends_amiss pool l code after OutOfMemory h = tt
ends_amiss pool l code after (Refused c) h = h
