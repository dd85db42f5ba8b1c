-- What holds at the places of a section to which state shapes are given.
use Rattle.std.proofs.Common.{◌≡◌, ℕ, zero, suc, ◌<◌, ◌≤◌, List, length, Option}
use Rattle.std.proofs.Common.{Some, None, true, leb, ltb, refl, subst}
use Rattle.std.proofs.Common.{⊎_elim, arith}
use Rattle.std.specs.Prelude.{slice_get, ◌&&◌}
use Rattle.std.proofs.lemmas.Bool.{ltb-true, and_parts}
use Rattle.query_rows.specs.Shape.{IsBelow}
use Rattle.query_rows.specs.declared.shape.Shape.{Shape}
use Rattle.query_code.specs.declared.instruction.Instruction.{Instruction}
use Rattle.query_code.specs.declared.instruction.Instruction.TheVariants.{Push, Unary, Binary}
use Rattle.query_code.specs.declared.instruction.Instruction.TheVariants.{LoadSlot, StoreSlot, Jump}
use Rattle.query_code.specs.declared.instruction.Instruction.TheVariants.{JumpIfFalse}
use Rattle.query_code.specs.declared.program.Constant.{Constant}
use Rattle.plain_machine.specs.SectionRun.{Acts, State}
use Rattle.plain_machine.specs.SectionRun.{effect, leads_on}
use Rattle.well_shaped.specs.Laws.{AreLoadsBelow, Makes}
use Rattle.well_shaped.specs.Places.{LeadsTo, IsLedTo, Works, AreGiven}
use Rattle.well_shaped.specs.Sections.{Loads, shape_acts}
use Rattle.well_shaped.specs.StateShape.{IfSet, IsStateBelow}
use Rattle.well_shaped.proofs.BelowFacts.{acts_below, state_transitive}
use Rattle.well_shaped.proofs.FrameFacts.{effect_kept}

none_some : {A : Type 0} (x : A) → None ≡ Some x → ⊥
none_some x e = cc

-- ---- going on from a place

pub goes_on : (pool : List Constant) (k l : Loads) (code : List Instruction) (at : ℕ → State Shape)
    (p q : ℕ) (i : Instruction) (s : State Shape) → AreLoadsBelow k l
    → AreGiven (shape_acts pool l) code at → IsStateBelow s (at p) → slice_get code p ≡ Some i
    → LeadsTo i p q → Makes (shape_acts pool k) i s (at q)
goes_on pool k l code at p q i s less given below stands leads =
    by (effect (shape_acts pool k) i s) refl
    (subst (λ o. IfSet IsStateBelow (effect (shape_acts pool k) i s) o) w.applies
    (effect_kept IsBelow (shape_acts pool k) (shape_acts pool l) (acts_below pool k l less) i s
    (at p) below))
  where
    w : Works (shape_acts pool l) (length code) at p i
    w = given.works p i stands

    by : (o : Option (State Shape)) → effect (shape_acts pool k) i s ≡ o
        → IfSet IsStateBelow o (Some w.gives) → Makes (shape_acts pool k) i s (at q)
    by None applies lower = absurd lower
    by (Some t) applies lower = record {
      gives = t;
      applies = applies;
      below = state_transitive t w.gives (at q) lower (w.covered q leads);
    }

-- ---- forward

jumps_forward : (p to len q : ℕ) → (ltb p to && leb to len) ≡ true → q ≡ to → p < q
jumps_forward p to len q e same =
    let more = ltb-true p to (and_parts (ltb p to) (leb to len) e).0 in omega (arith, more, same)

pub forward : (len p q : ℕ) (i : Instruction) → leads_on len p i ≡ true → LeadsTo i p q → p < q
forward len p q (Push op) on leads = omega (arith, leads)
forward len p q (Unary op) on leads = omega (arith, leads)
forward len p q (Binary op) on leads = omega (arith, leads)
forward len p q (LoadSlot k) on leads = omega (arith, leads)
forward len p q (StoreSlot k) on leads = omega (arith, leads)
forward len p q (Jump to) on leads = jumps_forward p to len q on leads
forward len p q (JumpIfFalse to) on leads =
    ⊎_elim (λ next. omega (arith, next)) (λ far. jumps_forward p to len q on far) leads

-- what holds at the start and behind each place where it holds, holds at each place
module _ (m : Acts Shape) (code : List Instruction) (at : ℕ → State Shape)
    (given : AreGiven m code at) (P : ℕ → Type 0) (first : P 0)
    (next : (p q : ℕ) (i : Instruction) → slice_get code p ≡ Some i → LeadsTo i p q → P p → P q)
  where
    reached : (n q : ℕ) → q < n → q ≤ length code → P q
    reached zero q less within = absurd (omega (arith, less))
    reached (suc n) zero less within = first
    reached (suc n) (suc q) less within =
        let led : IsLedTo code (suc q) = given.led_to (suc q) (omega arith) within in
        let w = given.works led.from led.instruction led.stands in
        let on : led.from < suc q =
        forward (length code) led.from (suc q) led.instruction w.leads_on led.leads in
        next led.from (suc q) led.instruction led.stands led.leads
        (reached n led.from (omega (arith, less, on)) (omega (arith, within, on)))

    pub everywhere : (q : ℕ) → q ≤ length code → P q
    everywhere q = reached (suc q) q (omega arith)
