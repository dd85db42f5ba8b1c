-- One place more of a pass.
use Rattle.std.proofs.Common.{◌≡◌, ◌≢◌, ℕ, zero, suc, ◌+◌, ◌<◌, ◌≤◌, List, ◌∷◌, Some}
use Rattle.std.proofs.Common.{length, get_or, replicate, Bool, true, false, cond, eqb, max, leb}
use Rattle.std.proofs.Common.{ltb, refl, sym, ap, ◌∙◌, subst, ⊎_elim, arith, add-one}
use Rattle.std.specs.Prelude.{slice_get, ◌||◌, ◌&&◌}
use Rattle.std.proofs.lemmas.Bool.{eqb-true, eq-eqb, false≢true, cases_lt, cond_both}
use Rattle.std.proofs.lemmas.Bool.{leb-true, and_parts}
use Rattle.std.proofs.lemmas.List.{get_or-set_other, length-set, get_or-replicate}
use Rattle.std.proofs.lemmas.Grind.{get_or-set_at, common_steps}
use Rattle.query_rows.specs.declared.shape.Shape.{Shape}
use Rattle.query_code.specs.declared.instruction.Instruction.{Instruction}
use Rattle.query_code.specs.declared.instruction.Instruction.TheVariants.{Push, Unary, Binary}
use Rattle.query_code.specs.declared.instruction.Instruction.TheVariants.{LoadSlot, StoreSlot, Jump}
use Rattle.query_code.specs.declared.instruction.Instruction.TheVariants.{JumpIfFalse}
use Rattle.plain_machine.specs.SectionRun.{Acts, State, start, effect}
use Rattle.plain_machine.specs.SectionRun as runs
use Rattle.verify_programs.specs.Pass.{met, met_if, leads_to, if_leads, brought, came, deepest}
use Rattle.verify_programs.specs.Pass.{depth_of, Did, Stands, bring, spread, IsWithin}
use Rattle.verify_programs.specs.Passing.{IsTaken}
use Rattle.verify_programs.specs.declared.waiting.Waiting.{Waiting}
use Rattle.verify_programs.specs.declared.waiting.Waiting.TheVariants.{Nothing, Shaped}

some_same : {A : Type 0} (x y : A) → Some x ≡ Some y → x ≡ y
some_same x y e = cc

-- ---- places of a list

brought_here : (w : List Waiting) (q x : ℕ) (s : State Shape) → q < length w → x ≡ q
    → get_or (bring w q s) x Nothing ≡ met (get_or w x Nothing) s
brought_here w q x s h e =
    get_or-set_at w q x (met (get_or w q Nothing) s) Nothing e h
    ∙ ap (λ k. met (get_or w k Nothing) s) (sym e)

brought_elsewhere : (w : List Waiting) (q x : ℕ) (s : State Shape) → x ≢ q
    → get_or (bring w q s) x Nothing ≡ get_or w x Nothing
brought_elsewhere w q x s n = get_or-set_other w q x (met (get_or w q Nothing) s) Nothing n

-- one place, by whether it is the one that is looked at
at_one : (w : List Waiting) (q x : ℕ) (s : State Shape) → q < length w → (b : Bool) → eqb x q ≡ b
    → get_or (bring w q s) x Nothing ≡ met_if (get_or w x Nothing) (if_leads b (Some s))
at_one w q x s h true e = brought_here w q x s h (eqb-true x q e)
at_one w q x s h false e =
    brought_elsewhere w q x s (λ same. false≢true (sym e ∙ eq-eqb x q same))

long_brought : (w : List Waiting) (q : ℕ) (s : State Shape) → length (bring w q s) ≡ length w
long_brought w q s = length-set w q (met (get_or w q Nothing) s)

pub long_spread : (i : Instruction) (p : ℕ) (s : State Shape) (w : List Waiting)
    → length (spread i p s w) ≡ length w
long_spread (Push op) p s w = long_brought w (p + 1) s
long_spread (Unary op) p s w = long_brought w (p + 1) s
long_spread (Binary op) p s w = long_brought w (p + 1) s
long_spread (LoadSlot k) p s w = long_brought w (p + 1) s
long_spread (StoreSlot k) p s w = long_brought w (p + 1) s
long_spread (Jump to) p s w = long_brought w to s
long_spread (JumpIfFalse to) p s w =
    cond_both (eqb to (p + 1)) (bring w (p + 1) s) (bring (bring w to s) (p + 1) s)
    (λ v. length v ≡ length w) (λ e. long_brought w (p + 1) s)
    (λ e. long_brought (bring w to s) (p + 1) s ∙ long_brought w to s)

-- two places
at_two : (w : List Waiting) (to p x : ℕ) (s : State Shape) → p + 1 < length w → to < length w
    → (c : Bool) → eqb to (p + 1) ≡ c → (a b : Bool) → eqb x (p + 1) ≡ a → eqb x to ≡ b
    → get_or (cond c (bring w (p + 1) s) (bring (bring w to s) (p + 1) s)) x Nothing
    ≡ met_if (get_or w x Nothing) (if_leads (a || b) (Some s))
at_two w to p x s h k true c true b e f = at_one w (p + 1) x s h true e
at_two w to p x s h k true c false false e f = at_one w (p + 1) x s h false e
at_two w to p x s h k true c false true e f =
    absurd (false≢true (sym e ∙ eq-eqb x (p + 1) (eqb-true x to f ∙ eqb-true to (p + 1) c)))
at_two w to p x s h k false c true b e f =
    at_one (bring w to s) (p + 1) x s (rw (long_brought w to s) h) true e
    ∙ ap (λ v. met v s) (brought_elsewhere w to x s
    (λ same. false≢true (sym c ∙ eq-eqb to (p + 1) (sym same ∙ eqb-true x (p + 1) e))))
at_two w to p x s h k false c false b e f =
    at_one (bring w to s) (p + 1) x s (rw (long_brought w to s) h) false e ∙ at_one w to x s k b f

pub at_spread : (i : Instruction) (p x : ℕ) (s : State Shape) (w : List Waiting) → p + 1 < length w
    → IsWithin (length w) i
    → get_or (spread i p s w) x Nothing
    ≡ met_if (get_or w x Nothing) (if_leads (leads_to i p x) (Some s))
at_spread (Push op) p x s w h k = at_one w (p + 1) x s h (eqb x (p + 1)) refl
at_spread (Unary op) p x s w h k = at_one w (p + 1) x s h (eqb x (p + 1)) refl
at_spread (Binary op) p x s w h k = at_one w (p + 1) x s h (eqb x (p + 1)) refl
at_spread (LoadSlot j) p x s w h k = at_one w (p + 1) x s h (eqb x (p + 1)) refl
at_spread (StoreSlot j) p x s w h k = at_one w (p + 1) x s h (eqb x (p + 1)) refl
at_spread (Jump to) p x s w h k = at_one w to x s k (eqb x to) refl
at_spread (JumpIfFalse to) p x s w h k =
    at_two w to p x s h k (eqb to (p + 1)) refl (eqb x (p + 1)) (eqb x to) refl refl

-- ---- jumps that lead on are within the places

jump_within : (n p to : ℕ) → (ltb p to && leb to n) ≡ true → to < n + 1
jump_within n p to e =
    let most = leb-true to n (and_parts (ltb p to) (leb to n) e).1 in omega (arith, most)

pub on_within : (len places p : ℕ) (i : Instruction) → places ≡ len + 1
    → runs.leads_on len p i ≡ true → IsWithin places i
on_within len places p (Push op) h e = tt
on_within len places p (Unary op) h e = tt
on_within len places p (Binary op) h e = tt
on_within len places p (LoadSlot k) h e = tt
on_within len places p (StoreSlot k) h e = tt
on_within len places p (Jump to) h e = subst (λ n. to < n) (sym h) (jump_within len p to e)
on_within len places p (JumpIfFalse to) h e = subst (λ n. to < n) (sym h) (jump_within len p to e)

-- ---- one place more

module _ (m : Acts Shape) (code : List Instruction) where
  pub begins : (waiting : List Waiting) → waiting ≡ Shaped start ∷ replicate (length code) Nothing
      → Stands m code 0 waiting 0
  begins waiting e =
      subst (λ w. Stands m code 0 w 0) (sym e)
      (record {
        long = grind (arith, common_steps);
        came = came_first;
        did = λ p i h stands. absurd (omega (arith, h));
        deep = refl;
      })
    where
      came_first : (q : ℕ) → 0 ≤ q → q ≤ length code
          → get_or (Shaped start ∷ replicate (length code) Nothing) q Nothing ≡ came m code 0 q
      came_first zero h k = refl
      came_first (suc q) h k = get_or-replicate (length code) q Nothing Nothing (omega (arith, k))

  module _ (n : ℕ) (i : Instruction) (s t : State Shape) (old taken : List Waiting)
      (before after : ℕ) (within : n < length code) (stands : slice_get code n ≡ Some i)
      (all : Stands m code n old before) (is : IsTaken n s old taken before after)
      (on : runs.leads_on (length code) n i ≡ true) (applies : effect m i s ≡ Some t) where
    has : came m code n n ≡ Shaped s
    has = sym (all.came n (omega arith) (omega (arith, within))) ∙ is.is

    long : length taken ≡ length code + 1
    long = ap length is.left ∙ (length-set old n Nothing ∙ all.long)

    next : (q : ℕ) → n + 1 ≤ q → q ≤ length code
        → get_or (spread i n t taken) q Nothing ≡ came m code (suc n) q
    next q h k =
        at_spread i n q t taken (rw long (omega (arith, within)))
        (on_within (length code) (length taken) n i long on)
        ∙ (ap (λ w. met_if w (if_leads (leads_to i n q) (Some t)))
        (ap (λ w. get_or w q Nothing) is.left
        ∙ (get_or-set_other old n q Nothing Nothing (λ same. absurd (omega (arith, same, h)))
        ∙ all.came q (omega (arith, h)) k))
        ∙ ap (met_if (came m code n q)) (sym there))
      where
        there : brought m (slice_get code n) n (came m code n n) q
            ≡ if_leads (leads_to i n q) (Some t)
        there =
            ap (λ o. brought m o n (came m code n n) q) stands
            ∙ (ap (λ w. brought m (Some i) n w q) has
            ∙ ap (if_leads (leads_to i n q)) applies)

    here : Did m code n i
    here = record { state = s; has = has; gives = t; applies = applies; leads_on = on }

    pub one_more : Stands m code (n + 1) (spread i n t taken) after
    one_more =
        subst (λ k. Stands m code k (spread i n t taken) after) (sym (add-one n))
        (record {
          long = long_spread i n t taken ∙ long;
          came = λ q h k. next q (omega (arith, h)) k;
          did = λ p j h there. ⊎_elim (λ less. all.did p j less there)
              (λ more. let same : n ≡ p = omega (arith, h, more) in
              let one : i ≡ j =
              some_same i j (sym stands ∙ (ap (slice_get code) same ∙ there)) in
              subst (λ k. Did m code k j) same (subst (λ k. Did m code n k) one here))
              (cases_lt p n);
          deep = is.deep ∙ (ap (λ d. max d (length s.stack)) all.deep
              ∙ ap (λ w. max (deepest m code n) (depth_of w)) (sym has));
        })
