-- What comes to a place grows, and stays below all that could be given to it.
use Rattle.std.proofs.Common.{◌≡◌, ℕ, zero, suc, ◌+◌, ◌<◌, ◌≤◌, List, Option, Some, None}
use Rattle.std.proofs.Common.{Bool, true, false, eqb, refl, sym, ap, ◌∙◌, subst, inl, inr}
use Rattle.std.proofs.Common.{⊎_elim, ◌⊎◌, arith, zero-add, ◌-◌}
use Rattle.std.specs.Prelude.{slice_get, ◌||◌}
use Rattle.std.proofs.Math.Nat.{suc-add}
use Rattle.std.proofs.lemmas.Bool.{eqb-true, eq-eqb, false≢true}
use Rattle.query_rows.specs.declared.shape.Shape.{Shape}
use Rattle.query_code.specs.declared.instruction.Instruction.{Instruction}
use Rattle.query_code.specs.declared.instruction.Instruction.TheVariants.{Push, Unary, Binary}
use Rattle.query_code.specs.declared.instruction.Instruction.TheVariants.{LoadSlot, StoreSlot, Jump}
use Rattle.query_code.specs.declared.instruction.Instruction.TheVariants.{JumpIfFalse}
use Rattle.plain_machine.specs.SectionRun.{Acts, State, start, effect}
use Rattle.well_shaped.proofs.BelowFacts.{state_reflexive, state_transitive}
use Rattle.well_shaped.specs.Places.{LeadsTo}
use Rattle.well_shaped.specs.StateShape.{IsStateBelow}
use Rattle.verify_programs.proofs.LeastFacts.{state_above, state_least}
use Rattle.verify_programs.specs.Joining.{joined_state}
use Rattle.verify_programs.specs.Pass.{shaped_if, met, met_if, leads_to, if_leads, brought}
use Rattle.verify_programs.specs.Pass.{came}
use Rattle.verify_programs.specs.declared.waiting.Waiting.{Waiting}
use Rattle.verify_programs.specs.declared.waiting.Waiting.TheVariants.{Nothing, Shaped, Clash}

none_some : {A : Type 0} (x : A) → None ≡ Some x → ⊥
none_some x e = cc

-- what has come to a place is less than what has come there later
abbrev pub Up : Waiting → Waiting → Type 0
Up Nothing w = Unit {0}
Up (Shaped s) Nothing = ⊥
Up (Shaped s) (Shaped t) = IsStateBelow s t
Up (Shaped s) Clash = Unit {0}
Up Clash Nothing = ⊥
Up Clash (Shaped t) = ⊥
Up Clash Clash = Unit {0}

up_itself : (w : Waiting) → Up w w
up_itself Nothing = tt
up_itself (Shaped s) = state_reflexive s
up_itself Clash = tt

pub up_then : (x y z : Waiting) → Up x y → Up y z → Up x z
up_then Nothing y z p q = tt
up_then (Shaped a) Nothing z p q = absurd p
up_then (Shaped a) (Shaped b) Nothing p q = q
up_then (Shaped a) (Shaped b) (Shaped c) p q = state_transitive a b c p q
up_then (Shaped a) (Shaped b) Clash p q = tt
up_then (Shaped a) Clash Nothing p q = q
up_then (Shaped a) Clash (Shaped c) p q = absurd q
up_then (Shaped a) Clash Clash p q = tt
up_then Clash Nothing z p q = absurd p
up_then Clash (Shaped b) z p q = absurd p
up_then Clash Clash z p q = q

joined_up : (s t : State Shape) (o : Option (State Shape)) → joined_state s t ≡ o
    → Up (Shaped s) (shaped_if o) × Up (Shaped t) (shaped_if o)
joined_up s t None e = (tt, tt)
joined_up s t (Some u) e = state_above s t u e

met_up : (w : Waiting) (s : State Shape) → Up w (met w s)
met_up Nothing s = tt
met_up (Shaped t) s = (joined_up t s (joined_state t s) refl).0
met_up Clash s = tt

met_here : (w : Waiting) (s : State Shape) → Up (Shaped s) (met w s)
met_here Nothing s = state_reflexive s
met_here (Shaped t) s = (joined_up t s (joined_state t s) refl).1
met_here Clash s = tt

met_least : (w : Waiting) (s d : State Shape) → Up w (Shaped d) → IsStateBelow s d
    → Up (met w s) (Shaped d)
met_least Nothing s d p q = q
met_least (Shaped t) s d p q =
    let l = state_least t s d p q in
    subst (λ o. Up (shaped_if o) (Shaped d)) (sym l.joins) l.below
met_least Clash s d p q = p

if_up : (w : Waiting) (o : Option (State Shape)) → Up w (met_if w o)
if_up w None = up_itself w
if_up w (Some s) = met_up w s

-- ---- where instructions lead

or_true : (a b : Bool) → (a || b) ≡ true → (a ≡ true) ⊎ (b ≡ true)
or_true false b e = inr e
or_true true b e = inl refl

true_or : (a b : Bool) → (a ≡ true) ⊎ (b ≡ true) → (a || b) ≡ true
true_or false b h = ⊎_elim (λ e. absurd (false≢true e)) (λ e. e) h
true_or true b h = refl

pub leads : (i : Instruction) (p q : ℕ) → leads_to i p q ≡ true → LeadsTo i p q
leads (Push op) p q e = eqb-true q (p + 1) e
leads (Unary op) p q e = eqb-true q (p + 1) e
leads (Binary op) p q e = eqb-true q (p + 1) e
leads (LoadSlot k) p q e = eqb-true q (p + 1) e
leads (StoreSlot k) p q e = eqb-true q (p + 1) e
leads (Jump to) p q e = eqb-true q to e
leads (JumpIfFalse to) p q e =
    ⊎_elim (λ h. inl (eqb-true q (p + 1) h)) (λ h. inr (eqb-true q to h))
    (or_true (eqb q (p + 1)) (eqb q to) e)

pub does_lead : (i : Instruction) (p q : ℕ) → LeadsTo i p q → leads_to i p q ≡ true
does_lead (Push op) p q h = eq-eqb q (p + 1) h
does_lead (Unary op) p q h = eq-eqb q (p + 1) h
does_lead (Binary op) p q h = eq-eqb q (p + 1) h
does_lead (LoadSlot k) p q h = eq-eqb q (p + 1) h
does_lead (StoreSlot k) p q h = eq-eqb q (p + 1) h
does_lead (Jump to) p q h = eq-eqb q to h
does_lead (JumpIfFalse to) p q h =
    true_or (eqb q (p + 1)) (eqb q to) (⊎_elim (λ e. inl (eq-eqb q (p + 1) e)) (λ e. inr (eq-eqb q to e)) h)

-- each leads somewhere
pub somewhere : (i : Instruction) (p : ℕ) → (q : ℕ) × LeadsTo i p q
somewhere (Push op) p = (p + 1, refl)
somewhere (Unary op) p = (p + 1, refl)
somewhere (Binary op) p = (p + 1, refl)
somewhere (LoadSlot k) p = (p + 1, refl)
somewhere (StoreSlot k) p = (p + 1, refl)
somewhere (Jump to) p = (to, refl)
somewhere (JumpIfFalse to) p = (to, inr refl)

-- ---- what comes

module _ (m : Acts Shape) (code : List Instruction) where
  grows : (n q : ℕ) → Up (came m code n q) (came m code (suc n) q)
  grows n q = if_up (came m code n q) (brought m (slice_get code n) n (came m code n n) q)

  grows_by : (k n q : ℕ) → Up (came m code n q) (came m code (k + n) q)
  grows_by zero n q =
      subst (λ j. Up (came m code n q) (came m code j q)) (sym (zero-add n))
      (up_itself (came m code n q))
  grows_by (suc k) n q =
      subst (λ j. Up (came m code n q) (came m code j q)) (sym (suc-add k n))
      (up_then (came m code n q) (came m code (k + n) q) (came m code (suc (k + n)) q)
      (grows_by k n q) (grows (k + n) q))

  pub grown : (n j q : ℕ) → n ≤ j → Up (came m code n q) (came m code j q)
  grown n j q h =
      let same : j - n + n ≡ j = omega (arith, h) in
      subst (λ k. Up (came m code n q) (came m code k q)) same (grows_by (j - n) n q)

  -- what an instruction makes of what came to it comes where it leads
  pub came_there : (n q : ℕ) (i : Instruction) (s t : State Shape) → slice_get code n ≡ Some i
      → came m code n n ≡ Shaped s → effect m i s ≡ Some t → LeadsTo i n q
      → Up (Shaped t) (came m code (suc n) q)
  came_there n q i s t stands has applies leads_there =
      let there : brought m (slice_get code n) n (came m code n n) q ≡ Some t =
      ap (λ o. brought m o n (came m code n n) q) stands
      ∙ (ap (λ w. brought m (Some i) n w q) has
      ∙ (ap (λ b. if_leads b (effect m i s)) (does_lead i n q leads_there) ∙ applies)) in
      subst (λ o. Up (Shaped t) (met_if (came m code n q) o)) (sym there)
      (met_here (came m code n q) t)

  -- an instruction before n leads to q
  pub record Led (n q : ℕ) : Type 0 where
    pub from : ℕ
    pub instruction : Instruction
    pub before : from < n
    pub stands : slice_get code from ≡ Some instruction
    pub leads_there : LeadsTo instruction from q

  more_led : (n q : ℕ) → Led n q → Led (suc n) q
  more_led n q l = record {
    from = l.from;
    instruction = l.instruction;
    before = let b = l.before in omega (arith, b);
    stands = l.stands;
    leads_there = l.leads_there;
  }

  -- what comes to a place behind the first comes from somewhere
  pub nothing_or_led : (n q : ℕ) → 0 < q → (came m code n q ≡ Nothing) ⊎ Led n q
  nothing_or_led zero zero h = absurd (omega (arith, h))
  nothing_or_led zero (suc q) h = inl refl
  nothing_or_led (suc n) q h =
      by (slice_get code n) (came m code n n) refl refl (nothing_or_led n q h)
    where
      by_lead : (i : Instruction) (s : State Shape) (b : Bool) → slice_get code n ≡ Some i
          → came m code n n ≡ Shaped s → leads_to i n q ≡ b
          → (came m code n q ≡ Nothing) ⊎ Led n q → (came m code (suc n) q ≡ Nothing) ⊎ Led (suc n) q
      by_lead i s true stands has e old =
          inr (record {
            from = n;
            instruction = i;
            before = omega arith;
            stands = stands;
            leads_there = leads i n q e;
          })
      by_lead i s false stands has e old =
          let none : brought m (slice_get code n) n (came m code n n) q ≡ None =
          ap (λ o. brought m o n (came m code n n) q) stands
          ∙ (ap (λ w. brought m (Some i) n w q) has
          ∙ ap (λ b. if_leads b (effect m i s)) e) in
          ⊎_elim (λ nothing. inl (ap (met_if (came m code n q)) none ∙ nothing))
          (λ led. inr (more_led n q led)) old

      same : (o : Option Instruction) (w : Waiting) → slice_get code n ≡ o → came m code n n ≡ w
          → brought m o n w q ≡ None → (came m code n q ≡ Nothing) ⊎ Led n q
          → (came m code (suc n) q ≡ Nothing) ⊎ Led (suc n) q
      same o w stands has none old =
          let all : brought m (slice_get code n) n (came m code n n) q ≡ None =
          ap (λ x. brought m x n (came m code n n) q) stands
          ∙ (ap (λ x. brought m o n x q) has ∙ none) in
          ⊎_elim (λ nothing. inl (ap (met_if (came m code n q)) all ∙ nothing))
          (λ led. inr (more_led n q led)) old

      by : (o : Option Instruction) (w : Waiting) → slice_get code n ≡ o → came m code n n ≡ w
          → (came m code n q ≡ Nothing) ⊎ Led n q → (came m code (suc n) q ≡ Nothing) ⊎ Led (suc n) q
      by None w stands has old = same None w stands has refl old
      by (Some i) Nothing stands has old = same (Some i) Nothing stands has refl old
      by (Some i) Clash stands has old = same (Some i) Clash stands has refl old
      by (Some i) (Shaped s) stands has old = by_lead i s (leads_to i n q) stands has refl old

  abbrev Goes : (ℕ → State Shape) → Type 0
  Goes d =
      (n q : ℕ) (i : Instruction) (s t : State Shape) → slice_get code n ≡ Some i
      → IsStateBelow s (d n) → effect m i s ≡ Some t → LeadsTo i n q → IsStateBelow t (d q)

  module _ (d : ℕ → State Shape) (next : Goes d) (n q : ℕ)
      (here : Up (came m code n n) (Shaped (d n))) (old : Up (came m code n q) (Shaped (d q))) where
    with_brought : (o : Option (State Shape))
        → ((t : State Shape) → o ≡ Some t → IsStateBelow t (d q))
        → Up (met_if (came m code n q) o) (Shaped (d q))
    with_brought None below = old
    with_brought (Some t) below = met_least (came m code n q) t (d q) old (below t refl)

    by_lead : (i : Instruction) (s : State Shape) (b : Bool) → leads_to i n q ≡ b
        → slice_get code n ≡ Some i → IsStateBelow s (d n) → (t : State Shape)
        → if_leads b (effect m i s) ≡ Some t → IsStateBelow t (d q)
    by_lead i s false e stands below t gives = absurd (none_some t gives)
    by_lead i s true e stands below t gives = next n q i s t stands below gives (leads i n q e)

    by_waiting : (i : Instruction) (w : Waiting) → slice_get code n ≡ Some i → Up w (Shaped (d n))
        → Up (met_if (came m code n q) (brought m (Some i) n w q)) (Shaped (d q))
    by_waiting i Nothing stands below = old
    by_waiting i Clash stands below = absurd below
    by_waiting i (Shaped s) stands below =
        with_brought (if_leads (leads_to i n q) (effect m i s))
        (by_lead i s (leads_to i n q) refl stands below)

    by_place : (o : Option Instruction) → slice_get code n ≡ o
        → Up (met_if (came m code n q) (brought m o n (came m code n n) q)) (Shaped (d q))
    by_place None stands = old
    by_place (Some i) stands = by_waiting i (came m code n n) stands here

    by_step : Up (came m code (suc n) q) (Shaped (d q))
    by_step = by_place (slice_get code n) refl

  -- it stays below what is above all that is brought there
  pub came_least : (d : ℕ → State Shape) → IsStateBelow start (d 0) → Goes d → (n q : ℕ) → Up (came m code n q) (Shaped (d q))
  came_least d begins next zero zero = begins
  came_least d begins next zero (suc q) = tt
  came_least d begins next (suc n) q =
      by_step d next n q (came_least d begins next n n) (came_least d begins next n q)
