-- The pass finds the least state shapes of a section, or there are none.
use Rattle.std.proofs.Common.{◌≡◌, ℕ, zero, suc, ◌<◌, ◌≤◌, List, [], ◌∷◌, Some, None}
use Rattle.std.proofs.Common.{length, get_or, true, false, leb, ltb, refl, sym, ap, ◌∙◌, subst}
use Rattle.std.proofs.Common.{⊎_elim, arith}
use Rattle.std.specs.Prelude.{slice_get, ◌&&◌}
use Rattle.std.proofs.lemmas.Bool.{leb-true, and_parts, false≢true, cases_lt}
use Rattle.std.proofs.lemmas.Option.{slice_get_within, slice_get-get_or}
use Rattle.query_rows.specs.declared.shape.Shape.{Shape}
use Rattle.query_code.specs.declared.instruction.Instruction.{Instruction}
use Rattle.query_code.specs.declared.instruction.Instruction.TheVariants.{Push, Unary, Binary}
use Rattle.query_code.specs.declared.instruction.Instruction.TheVariants.{LoadSlot, StoreSlot, Jump}
use Rattle.query_code.specs.declared.instruction.Instruction.TheVariants.{JumpIfFalse}
use Rattle.query_code.specs.declared.program.Constant.{Constant}
use Rattle.plain_machine.specs.SectionRun.{Acts, State, start, effect}
use Rattle.plain_machine.specs.SectionRun as runs
use Rattle.well_shaped.proofs.BelowFacts.{state_reflexive}
use Rattle.well_shaped.proofs.PlaceFacts.{forward, goes_on}
use Rattle.well_shaped.specs.Laws.{AreLoadsBelow, Makes}
use Rattle.well_shaped.specs.Places.{AreGiven, IsLedTo, LeadsTo}
use Rattle.well_shaped.specs.Sections.{Loads, shape_acts}
use Rattle.well_shaped.specs.StateShape.{IsStateBelow}
use Rattle.verify_programs.specs.Pass.{came, deepest, depth_of, Did}
use Rattle.verify_programs.specs.Passing.{HasNone, IsLeast, IsUnreached}
use Rattle.verify_programs.specs.declared.waiting.Waiting.{Waiting}
use Rattle.verify_programs.specs.declared.waiting.Waiting.TheVariants.{Nothing, Shaped, Clash}
use Rattle.verify_programs.proofs.WaitingFacts.{Up, up_then, somewhere, grown, came_there}
use Rattle.verify_programs.proofs.WaitingFacts.{nothing_or_led, came_least}

none_some : {A : Type 0} (x : A) → None ≡ Some x → ⊥
none_some x e = cc

some_same : {A : Type 0} (x y : A) → Some x ≡ Some y → x ≡ y
some_same x y e = cc

nothing_shaped : (s : State Shape) → Nothing ≡ Shaped s → ⊥
nothing_shaped s e = cc

-- a place that an instruction leads to is in the section, or its end
jumps_within : (p to len q : ℕ) → (ltb p to && leb to len) ≡ true → q ≡ to → q ≤ len
jumps_within p to len q e same =
    let most = leb-true to len (and_parts (ltb p to) (leb to len) e).1 in omega (arith, most, same)

within : (len p q : ℕ) (i : Instruction) → p < len → runs.leads_on len p i ≡ true → LeadsTo i p q
    → q ≤ len
within len p q (Push op) h on leads = omega (arith, h, leads)
within len p q (Unary op) h on leads = omega (arith, h, leads)
within len p q (Binary op) h on leads = omega (arith, h, leads)
within len p q (LoadSlot k) h on leads = omega (arith, h, leads)
within len p q (StoreSlot k) h on leads = omega (arith, h, leads)
within len p q (Jump to) h on leads = jumps_within p to len q on leads
within len p q (JumpIfFalse to) h on leads =
    ⊎_elim (λ next. omega (arith, h, next)) (λ far. jumps_within p to len q on far) leads

pub instruction_at : (code : List Instruction) (n : ℕ) → n < length code
    → (i : Instruction) × (slice_get code n ≡ Some i)
instruction_at [] n h = absurd (omega (arith, h))
instruction_at (i ∷ code) n h = (runs_at, slice_get-get_or (i ∷ code) n i h)
  where
    runs_at : Instruction
    runs_at = get_or (i ∷ code) n i

abbrev shape_in : Waiting → State Shape
shape_in (Shaped s) = s
shape_in w = start

module _ (pool : List Constant) (l : Loads) (code : List Instruction) where
  abbrev m : Acts Shape
  m = shape_acts pool l

  -- the instructions before a place did their work
  abbrev pub AllDid : ℕ → Type 0
  AllDid n = (p : ℕ) (i : Instruction) → p < n → slice_get code p ≡ Some i → Did m code p i

  -- what one made has come to where it leads, once the pass is there
  brings : (p q : ℕ) (i : Instruction) (d : Did m code p i) → slice_get code p ≡ Some i
      → LeadsTo i p q → Up (Shaped d.gives) (came m code q q)
  brings p q i d stands leads =
      up_then (Shaped d.gives) (came m code (suc p) q) (came m code q q)
      (came_there m code p q i d.state d.gives stands d.has d.applies leads)
      (grown m code (suc p) q q
      (let f = forward (length code) p q i d.leads_on leads in omega (arith, f)))

  -- ---- all that could be given is above

  upper : (more : Loads) (at : ℕ → State Shape) → AreLoadsBelow l more
      → AreGiven (shape_acts pool more) code at → (n q : ℕ) → Up (came m code n q) (Shaped (at q))
  upper more at less given =
      came_least m code at given.begins
      (λ n q i s t stands below applies leads.
      let k : Makes m i s (at q) =
      goes_on pool l more code at n q i s less given below stands leads in
      subst (λ (u : State Shape). IsStateBelow u (at q))
      (some_same k.gives t (sym k.applies ∙ applies)) k.below)

  -- ---- refusals

  pub clashes : (n : ℕ) → came m code n n ≡ Clash → HasNone pool l code
  clashes n e more at less given =
      subst (λ w. Up w (Shaped (at n))) e (upper more at less given n n)

  pub unreached : (n : ℕ) → AllDid n → came m code n n ≡ Nothing → IsUnreached pool l code n
  unreached n all e p i before stands leads =
      let d = all p i before stands in
      subst (λ w. Up (Shaped d.gives) w) e (brings p n i d stands leads)

  first_comes : came m code 0 0 ≡ Nothing → ⊥
  first_comes e = nothing_shaped start (sym e)

  pub unreachable : (n : ℕ) → n ≤ length code → AllDid n → came m code n n ≡ Nothing
      → HasNone pool l code
  unreachable zero h all e more at less given = first_comes e
  unreachable (suc n) h all e more at less given =
      let led : IsLedTo code (suc n) = given.led_to (suc n) (omega arith) h in
      let w = given.works led.from led.instruction led.stands in
      unreached (suc n) all e led.from led.instruction
      (forward (length code) led.from (suc n) led.instruction w.leads_on led.leads) led.stands
      led.leads

  pub jumps_amiss : (n : ℕ) (i : Instruction) → slice_get code n ≡ Some i
      → runs.leads_on (length code) n i ≡ false → HasNone pool l code
  jumps_amiss n i stands e more at less given =
      false≢true (sym e ∙ (given.works n i stands).leads_on)

  pub fails : (n : ℕ) (i : Instruction) (s : State Shape) → slice_get code n ≡ Some i
      → came m code n n ≡ Shaped s → effect m i s ≡ None → HasNone pool l code
  fails n i s stands has e more at less given =
      let to = somewhere i n in
      let below = subst (λ w. Up w (Shaped (at n))) has (upper more at less given n n) in
      let k : Makes m i s (at to.0) =
      goes_on pool l more code at n to.0 i s less given below stands to.1 in
      none_some k.gives (sym e ∙ k.applies)

  -- ---- acceptance

  module _ (all : AllDid (length code)) (end : State Shape)
      (ends : came m code (length code) (length code) ≡ Shaped end) where
    abbrev at : ℕ → State Shape
    at q = shape_in (came m code q q)

    has : (q : ℕ) → q ≤ length code → (s : State Shape) × (came m code q q ≡ Shaped s)
    has q h =
        ⊎_elim (λ less. let i = instruction_at code q less in
        let d = all q i.0 less i.1 in (d.state, d.has))
        (λ more. let same : length code ≡ q = omega (arith, h, more) in
        (end, subst (λ n. came m code n n ≡ Shaped end) same ends))
        (cases_lt q (length code))

    covered : (t : State Shape) (q : ℕ) → q ≤ length code → Up (Shaped t) (came m code q q)
        → IsStateBelow t (at q)
    covered t q h up =
        let s = has q h in
        subst (λ w. IsStateBelow t (shape_in w)) (sym s.1)
        (subst (λ w. Up (Shaped t) w) s.1 up)

    given : AreGiven m code at
    given = record {
      begins = state_reflexive start;
      works = λ p i stands.
          let inside = slice_get_within code p i stands in
          let d = all p i inside stands in
          record {
            gives = d.gives;
            applies = ap (λ w. effect m i (shape_in w)) d.has ∙ d.applies;
            covered = λ q leads. covered d.gives q (within (length code) p q i inside d.leads_on leads)
                (brings p q i d stands leads);
            leads_on = d.leads_on;
          };
      led_to = λ q h k. ⊎_elim
          (λ nothing. let s = has q k in absurd (nothing_shaped s.0 (sym nothing ∙ s.1)))
          (λ led. record {
            from = led.from;
            instruction = led.instruction;
            stands = led.stands;
            leads = led.leads_there;
          }) (nothing_or_led m code q q h);
    }

    least : (more : Loads) (other : ℕ → State Shape) → AreLoadsBelow l more
        → AreGiven (shape_acts pool more) code other → (q : ℕ) → q ≤ length code
        → IsStateBelow (at q) (other q)
    least more other less given_other q h =
        let s = has q h in
        subst (λ w. IsStateBelow (shape_in w) (other q)) (sym s.1)
        (subst (λ w. Up w (Shaped (other q))) s.1 (upper more other less given_other q q))

    depth_at : (q : ℕ) → q ≤ length code → depth_of (came m code q q) ≡ length (at q).stack
    depth_at q h =
        let s = has q h in
        subst (λ w. depth_of w ≡ length (shape_in w).stack) (sym s.1) refl

    greatest : (n q : ℕ) → q < n → depth_of (came m code q q) ≤ deepest m code n
    greatest zero q h = absurd (omega (arith, h))
    greatest (suc n) q h =
        ⊎_elim (λ less. let g = greatest n q less in omega (arith, g))
        (λ more. let same : n ≡ q = omega (arith, h, more) in
        subst (λ k. depth_of (came m code k k) ≤ deepest m code (suc n)) same (omega arith))
        (cases_lt q n)

    met : (n : ℕ) → (q : ℕ) × (q < suc n) × (depth_of (came m code q q) ≡ deepest m code (suc n))
    met zero = (0, omega arith, omega arith)
    met (suc n) =
        let before = met n in
        ⊎_elim (λ less. (suc n, omega arith, omega (arith, less)))
        (λ more. (
          before.0,
          (let b = before.1 in omega (arith, b)),
          (let same = before.2 in omega (arith, same, more)),
        ))
        (cases_lt (deepest m code (suc n)) (depth_of (came m code (suc n) (suc n))))

    pub accepted : (depth : ℕ) → depth ≡ deepest m code (suc (length code))
        → IsLeast pool l code end depth
    accepted depth e =
        let place = met (length code) in
        let inside : place.0 ≤ length code = (let h = place.1 in omega (arith, h)) in
        record {
          at = at;
          given = given;
          ends = ap shape_in ends;
          deepest = place.0;
          within = inside;
          met = sym (depth_at place.0 inside) ∙ (place.2 ∙ sym e);
          greatest = λ q h.
              let g = greatest (suc (length code)) q (omega (arith, h)) in
              let same = depth_at q h in
              omega (arith, g, same, e);
          least = least;
        }
