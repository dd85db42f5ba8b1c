-- Code that is laid from the empty stack is a section with shapes at all its places.
use Rattle.std.proofs.Common.{◌≡◌, ◌⊎◌, ℕ, zero, suc, ◌+◌, ◌<◌, ◌≤◌, List, [], ◌∷◌, ◌++◌, length}
use Rattle.std.proofs.Common.{reverse, get_or, Some, refl, sym, ap, ◌∙◌, subst}
use Rattle.std.proofs.Common.{inl, inr, arith, length-append}
use Rattle.std.specs.Prelude.{slice_get, slice_index_or}
use Rattle.std.proofs.lemmas.Bool.{cases_lt}
use Rattle.std.proofs.lemmas.Option.{get_or_from_slice_get, slice_get-get_or, slice_get_within}
use Rattle.plain_machine.specs.SectionRun.{Acts, State, effect}
use Rattle.query_code.specs.declared.instruction.Instruction.{Instruction}
use Rattle.query_code.specs.declared.instruction.Instruction.TheVariants.{Jump}
use Rattle.query_rows.specs.declared.shape.Shape.{Shape}
use Rattle.well_shaped.specs.Places.{AreGiven, HasDepth, IsLedTo, Leaves}
use Rattle.well_shaped.specs.StateShape.{IsStateBelow}
use Rattle.well_shaped.proofs.BelowFacts.{state_reflexive}
use Rattle.bql_compiler.proofs.StandsAt.{itself}
use Rattle.bql_compiler.proofs.LaidFacts.{Stack, shaped, deepest, Flows, AllFlow, flow_at, Laid}

-- A section that leaves these values, and the most that stand on its stack.
pub record IsSection (m : Acts Shape) (code : List Instruction) (values : List Shape) (most : ℕ) :
    Type 0 where
  pub leaves : Leaves m code values
  pub met : HasDepth leaves most
  pub greatest : (other : ℕ) → HasDepth leaves other → other ≤ most

-- a place of the deepest
record IsDeepest (ss : List Stack) : Type 0 where
  place : ℕ
  stack : Stack
  there : slice_get ss place ≡ Some stack
  deep : length stack ≡ deepest ss

deepest_place : (s : Stack) (ss : List Stack) → IsDeepest (s ∷ ss)
deepest_place s [] = record { place = 0; stack = s; there = refl; deep = omega arith }
deepest_place s (t ∷ ts) = by (deepest_place t ts) (cases_lt (length s) (deepest (t ∷ ts)))
  where
    by : IsDeepest (t ∷ ts)
        → (length s < deepest (t ∷ ts)) ⊎ (deepest (t ∷ ts) ≤ length s)
        → IsDeepest (s ∷ t ∷ ts)
    by d (inl h) = record {
      place = suc d.place;
      stack = d.stack;
      there = d.there;
      deep = omega (arith, h, d.deep);
    }
    by d (inr h) = record { place = 0; stack = s; there = refl; deep = omega (arith, h) }

-- none is deeper
no_deeper : (ss : List Stack) (k : ℕ) (s : Stack) → slice_get ss k ≡ Some s → length s ≤ deepest ss
no_deeper [] k s e = absurd (omega (arith, slice_get_within [] k s e))
no_deeper (t ∷ ts) zero s e =
    subst (λ z. length z ≤ deepest (t ∷ ts)) (same t s e) (omega arith)
  where
    same : (t s : Stack) → Some t ≡ Some s → t ≡ s
    same t s e = cc
no_deeper (t ∷ ts) (suc k) s e = omega (arith, no_deeper ts k s e)

instruction_at : (code : List Instruction) (p : ℕ) → p < length code
    → (i : Instruction) × (slice_get code p ≡ Some i)
instruction_at code p h = (get_or code p (Jump 0), slice_get-get_or code p (Jump 0) h)

module _ (m : Acts Shape) (code : List Instruction) (to : Stack) (most : ℕ)
    (l : Laid m 0 code [] to most) where
  abbrev all : List Stack
  all = l.stacks ++ to ∷ []

  long : length all ≡ length code + 1
  long = omega (arith, length-append l.stacks (to ∷ []), l.long)

  abbrev at : ℕ → State Shape
  at p = shaped (slice_index_or all p [])

  here : (p : ℕ) (xs : Stack) → slice_get all p ≡ Some xs → shaped xs ≡ at p
  here p xs e = ap shaped (sym (get_or_from_slice_get all p xs [] e))

  stack_at : (p : ℕ) → p ≤ length code → slice_get all p ≡ Some (slice_index_or all p [])
  stack_at p h = slice_get-get_or all p [] (omega (arith, h, long))

  all_flow : AllFlow m code all 0 code
  all_flow = l.flows code all (itself code) (itself all) (omega arith)

  flow : (p : ℕ) (i : Instruction) → slice_get code p ≡ Some i → Flows m code all p i
  flow p i e =
      let z : 0 + p ≡ p = omega arith in
      subst (λ n. Flows m code all n i) z (flow_at m code all 0 code p i all_flow e)

  led : (q : ℕ) → 0 < q → q ≤ length code → IsLedTo code q
  led zero h le = absurd (omega (arith, h))
  led (suc p) h le =
      let i = instruction_at code p (omega (arith, le)) in
      let e : p + 1 ≡ suc p = omega arith in
      subst (λ n. IsLedTo code n) e (flow p i.0 i.1).after

  begins : at 0 ≡ shaped []
  begins = sym (here 0 [] l.starts)

  are_given : AreGiven m code at
  are_given = record {
    begins = subst (IsStateBelow (shaped [])) (sym begins) (state_reflexive (shaped []));
    works = λ p i e.
        let f = flow p i e in
        record {
          gives = shaped f.next;
          applies = subst (λ s. effect m i s ≡ Some (shaped f.next)) (here p f.from f.here) f.applies;
          covered = λ q h.
              subst (λ s. IsStateBelow (shaped f.next) s) (here q f.next (f.to q h))
              (state_reflexive (shaped f.next));
          leads_on = f.leads;
        };
    led_to = led;
  }

  -- the end
  at_end : slice_get all (length code) ≡ Some to
  at_end = subst (λ n. slice_get all n ≡ Some to) l.long (last l.stacks)
    where
      last : (xs : List Stack) → slice_get (xs ++ to ∷ []) (length xs) ≡ Some to
      last [] = refl
      last (x ∷ xs) = last xs

  pub is_section : (values : List Shape) → reverse to ≡ values → IsSection m code values most
  is_section values e =
      let leaves : Leaves m code values = record {
        at = at;
        given = are_given;
        left = ap (λ s. reverse s.stack) (sym (here (length code) to at_end)) ∙ e;
      } in
      record {
        leaves = leaves;
        met = met values e;
        greatest = λ other h.
            let deep =
            no_deeper all h.place (slice_index_or all h.place []) (stack_at h.place h.within) in
            omega (arith, h.deep, deep, l.deep);
      }
    where
      found : IsDeepest all
      found = by all (omega (arith, long))
        where
          by : (ss : List Stack) → 0 < length ss → IsDeepest ss
          by [] h = absurd (omega (arith, h))
          by (s ∷ ss) h = deepest_place s ss

      met : (values : List Shape) (e : reverse to ≡ values)
          → HasDepth record {
            at = at;
            given = are_given;
            left = ap (λ s. reverse s.stack) (sym (here (length code) to at_end)) ∙ e;
          } most
      met values e = record {
        place = found.place;
        within = omega (arith, slice_get_within all found.place found.stack found.there, long);
        deep = ap (λ s. length s.stack) (sym (here found.place found.stack found.there))
            ∙ found.deep ∙ l.deep;
      }
