-- Code that leads from one stack of shapes to another, wherever it stands in a section.
use Rattle.std.proofs.Common.{◌≡◌, ℕ, zero, suc, ◌+◌, ◌<◌, ◌≤◌, max, true, cond}
use Rattle.std.proofs.Common.{List, [], ◌∷◌, ◌++◌, length, replicate, Option, Some, None, refl, sym, ap}
use Rattle.std.proofs.Common.{◌∙◌, subst, arith, append_assoc, length-append}
use Rattle.std.specs.Prelude.{slice_get}
use Rattle.std.proofs.lemmas.Bool.{lt-ltb}
use Rattle.std.proofs.lemmas.Option.{slice_get_within}
use Rattle.limits.specs.declared.counts.TheConstants.{MOST_VALUES, SLOTS}
use Rattle.plain_machine.specs.SectionRun.{Acts, State, effect, leads_on, with_slots, with_top}
use Rattle.query_code.specs.declared.instruction.Instruction.{Instruction}
use Rattle.query_code.specs.declared.instruction.Instruction.TheVariants.{Push, Unary, Binary}
use Rattle.query_code.specs.declared.instruction.Push as pushes
use Rattle.query_code.specs.declared.instruction.Unary as unaries
use Rattle.query_rows.specs.declared.shape.Shape.{Shape}
use Rattle.query_values.specs.declared.operation.Binary as binaries
use Rattle.well_shaped.specs.Places.{IsLedTo, LeadsTo}
use Rattle.bql_compiler.proofs.StandsAt.{StandsAt, front, back, moved}

abbrev pub Stack : Type 0
Stack = List Shape

-- no slot is set
abbrev pub shaped : Stack → State Shape
shaped xs = record { stack = xs; slots = replicate SLOTS None }

-- the most values that stand on one of these
abbrev pub deepest : List Stack → ℕ
deepest [] = 0
deepest (s ∷ ss) = max (length s) (deepest ss)

pub deepest_joined : (ss ts : List Stack) → deepest (ss ++ ts) ≡ max (deepest ss) (deepest ts)
deepest_joined [] ts = omega arith
deepest_joined (s ∷ ss) ts = omega (arith, deepest_joined ss ts)

-- the shapes at an instruction's place and at those that it leads to; something leads to the next
pub record Flows (m : Acts Shape) (code : List Instruction) (stacks : List Stack) (p : ℕ)
    (i : Instruction) : Type 0 where
  pub from : Stack
  pub next : Stack
  pub here : slice_get stacks p ≡ Some from
  pub applies : effect m i (shaped from) ≡ Some (shaped next)
  pub to : (q : ℕ) → LeadsTo i p q → slice_get stacks q ≡ Some next
  pub leads : leads_on (length code) p i ≡ true
  pub after : IsLedTo code (p + 1)

abbrev pub AllFlow : Acts Shape → List Instruction → List Stack → ℕ → List Instruction → Type 0
AllFlow m code stacks p [] = Unit {0}
AllFlow m code stacks p (i ∷ c) = Flows m code stacks p i × AllFlow m code stacks (p + 1) c

pub flow_joined : (m : Acts Shape) (code : List Instruction) (stacks : List Stack) (p : ℕ)
    (a b : List Instruction) → AllFlow m code stacks p a
    → AllFlow m code stacks (p + length a) b → AllFlow m code stacks p (a ++ b)
flow_joined m code stacks p [] b f g =
    let e : p + 0 ≡ p = omega arith in subst (λ n. AllFlow m code stacks n b) e g
flow_joined m code stacks p (i ∷ a) b f g =
    let e : p + length (i ∷ a) ≡ p + 1 + length a = omega arith in
    (f.0, flow_joined m code stacks (p + 1) a b f.1 (subst (λ n. AllFlow m code stacks n b) e g))

pub flow_at : (m : Acts Shape) (code : List Instruction) (stacks : List Stack) (p : ℕ)
    (c : List Instruction) (k : ℕ) (i : Instruction) → AllFlow m code stacks p c
    → slice_get c k ≡ Some i → Flows m code stacks (p + k) i
flow_at m code stacks p [] k i f at = absurd (omega (arith, slice_get_within [] k i at))
flow_at m code stacks p (x ∷ c) zero i f at =
    let e : p ≡ p + 0 = omega arith in
    subst (λ n. Flows m code stacks n i) e (subst (λ y. Flows m code stacks p y) (same x i at) f.0)
  where
    same : (x i : Instruction) → Some x ≡ Some i → x ≡ i
    same x i e = cc
flow_at m code stacks p (x ∷ c) (suc k) i f at =
    let e : p + 1 + k ≡ p + suc k = omega arith in
    subst (λ n. Flows m code stacks n i) e (flow_at m code stacks (p + 1) c k i f.1 at)

-- Code that leads from one stack to another: those at its places, the first one first, and how many
-- values stand on the deepest.
pub record Laid (m : Acts Shape) (p : ℕ) (c : List Instruction) (from to : Stack) (most : ℕ) :
    Type 0 where
  pub stacks : List Stack
  pub long : length stacks ≡ length c
  pub starts : slice_get (stacks ++ to ∷ []) 0 ≡ Some from
  pub deep : deepest (stacks ++ to ∷ []) ≡ most
  pub flows : (code : List Instruction) (all : List Stack) → StandsAt code p c
      → StandsAt all p (stacks ++ to ∷ []) → p + length c ≤ length code → AllFlow m code all p c

-- what stands first where a list stands
pub first_of : (all xs : List Stack) (p : ℕ) (x : Stack) → slice_get xs 0 ≡ Some x
    → StandsAt all p xs → slice_get all p ≡ Some x
first_of all [] p x e h = cc
first_of all (y ∷ xs) p x e h = h.0 ∙ e

-- it is one of those whose depth counts
pub first_deep : (xs : List Stack) (x : Stack) → slice_get xs 0 ≡ Some x → length x ≤ deepest xs
first_deep [] x e = cc
first_deep (y ∷ xs) x e =
    subst (λ z. length z ≤ deepest (y ∷ xs)) (same y x e) (omega arith)
  where
    same : (y x : Stack) → Some y ≡ Some x → y ≡ x
    same y x e = cc

module _ (m : Acts Shape) where
  -- no code leads nowhere
  pub none_laid : (p : ℕ) (st : Stack) → Laid m p [] st st (length st)
  none_laid p st = record {
    stacks = [];
    long = refl;
    starts = refl;
    deep = omega arith;
    flows = λ code all hc hs inside. tt;
  }

  -- one behind the other
  unfoldable pub then_laid : (p : ℕ) (a b : List Instruction) (from mid to : Stack) (k l : ℕ)
      → Laid m p a from mid k → Laid m (p + length a) b mid to l
      → Laid m p (a ++ b) from to (max k l)
  then_laid p a b from mid to k l la lb =
      let joined = append_assoc la.stacks lb.stacks (to ∷ []) in
      record {
        stacks = la.stacks ++ lb.stacks;
        long = omega (arith, length-append la.stacks lb.stacks, length-append a b, la.long, lb.long);
        starts = ap (λ l. slice_get l 0) joined
            ∙ starts_on la.stacks (lb.stacks ++ to ∷ []) la.starts lb.starts;
        deep = ap deepest joined
            ∙ deep_on la.stacks (lb.stacks ++ to ∷ []) la.deep lb.deep
            (first_deep (lb.stacks ++ to ∷ []) mid lb.starts)
            (deepest_joined la.stacks (lb.stacks ++ to ∷ []));
        flows = λ code all hc hs inside.
            let len : p + length (a ++ b) ≡ p + length a + length b = omega (arith, length-append a b) in
            let hs' = subst (StandsAt all p) joined hs in
            let tail =
            moved all (p + length la.stacks) (p + length a) (lb.stacks ++ to ∷ [])
            (ap (λ n. p + n) la.long) (back all p la.stacks (lb.stacks ++ to ∷ []) hs') in
            let head =
            closed all p la.stacks mid (front all p la.stacks (lb.stacks ++ to ∷ []) hs')
            (subst (λ n. slice_get all n ≡ Some mid) (ap (λ n. p + n) (sym la.long))
            (first_of all (lb.stacks ++ to ∷ []) (p + length a) mid lb.starts tail)) in
            flow_joined m code all p a b
            (la.flows code all (front code p a b hc) head (omega (arith, len, inside)))
            (lb.flows code all (back code p a b hc) tail (omega (arith, len, inside)));
      }
    where
      starts_on : (xs ys : List Stack) → slice_get (xs ++ mid ∷ []) 0 ≡ Some from
          → slice_get ys 0 ≡ Some mid → slice_get (xs ++ ys) 0 ≡ Some from
      starts_on [] ys e f = f ∙ e
      starts_on (x ∷ xs) ys e f = e

      deep_on : (xs ys : List Stack) → deepest (xs ++ mid ∷ []) ≡ k → deepest ys ≡ l
          → length mid ≤ deepest ys → deepest ((xs ++ ys)) ≡ max (deepest xs) (deepest ys)
          → deepest (xs ++ ys) ≡ max k l
      deep_on xs ys e f h joined = omega (arith, e, f, h, joined, deepest_joined xs (mid ∷ []))

      closed : (all : List Stack) (p : ℕ) (xs : List Stack) (y : Stack) → StandsAt all p xs
          → slice_get all (p + length xs) ≡ Some y → StandsAt all p (xs ++ y ∷ [])
      closed all p [] y h e =
          let z : p + 0 ≡ p = omega arith in (subst (λ n. slice_get all n ≡ Some y) z e, tt)
      closed all p (x ∷ xs) y h e =
          let z : p + length (x ∷ xs) ≡ p + 1 + length xs = omega arith in
          (h.0, closed all (p + 1) xs y h.1 (subst (λ n. slice_get all n ≡ Some y) z e))

  -- ---- single instructions

  abbrev GoesOn : Instruction → Type 0
  GoesOn i =
      ((p q : ℕ) → LeadsTo i p q → q ≡ p + 1) × ((p : ℕ) → LeadsTo i p (p + 1))
      × ((len p : ℕ) → leads_on len p i ≡ true)

  flow_on : (code : List Instruction) (all : List Stack) (p : ℕ) (i : Instruction)
      (from next : Stack) → GoesOn i → slice_get code p ≡ Some i → slice_get all p ≡ Some from
      → effect m i (shaped from) ≡ Some (shaped next) → slice_get all (p + 1) ≡ Some next
      → Flows m code all p i
  flow_on code all p i from next goes there here applies on = record {
    from = from;
    next = next;
    here = here;
    applies = applies;
    to = λ q l. ap (slice_get all) (goes.0 p q l) ∙ on;
    leads = goes.2 (length code) p;
    after = record { from = p; instruction = i; stands = there; leads = goes.1 p };
  }

  one_laid : (i : Instruction) (p : ℕ) (from to : Stack) → GoesOn i
      → effect m i (shaped from) ≡ Some (shaped to)
      → Laid m p (i ∷ []) from to (max (length from) (length to))
  one_laid i p from to goes applies = record {
    stacks = from ∷ [];
    long = refl;
    starts = refl;
    deep = omega arith;
    flows = λ code all hc hs inside.
        (flow_on code all p i from to goes hc.0 hs.0 applies hs.1.0, tt);
  }

  push_goes : (op : pushes.Push) → GoesOn (Push op)
  push_goes op = (λ p q l. l, λ p. refl, λ len p. refl)

  unary_goes : (op : unaries.Unary) → GoesOn (Unary op)
  unary_goes op = (λ p q l. l, λ p. refl, λ len p. refl)

  binary_goes : (op : binaries.Binary) → GoesOn (Binary op)
  binary_goes op = (λ p q l. l, λ p. refl, λ len p. refl)

  fits : (o : Option Shape) (s : Shape) (st : Stack) → o ≡ Some s → length st < MOST_VALUES
      → with_slots (replicate SLOTS None) (with_top o st) ≡ Some (shaped (s ∷ st))
  fits o s st e h =
      ap (λ o. with_slots (replicate SLOTS None) (with_top o st)) e
      ∙ ap (λ b. with_slots (replicate SLOTS None) (cond b (Some (s ∷ st)) None)) (lt-ltb (length st) MOST_VALUES h)

  push_applies : (op : pushes.Push) (s : Shape) (st : Stack) → m.push op ≡ Some s
      → length st < MOST_VALUES → effect m (Push op) (shaped st) ≡ Some (shaped (s ∷ st))
  push_applies op s st e h = fits (m.push op) s st e h

  pub push_flow : (op : pushes.Push) (code : List Instruction) (all : List Stack) (p : ℕ)
      (s : Shape) (st : Stack) → m.push op ≡ Some s → length st < MOST_VALUES
      → slice_get code p ≡ Some (Push op) → slice_get all p ≡ Some st
      → slice_get all (p + 1) ≡ Some (s ∷ st) → Flows m code all p (Push op)
  push_flow op code all p s st e h there here on =
      flow_on code all p (Push op) st (s ∷ st) (push_goes op) there here (push_applies op s st e h) on

  pub push_laid : (op : pushes.Push) (p : ℕ) (s : Shape) (st : Stack) → m.push op ≡ Some s
      → length st < MOST_VALUES → Laid m p (Push op ∷ []) st (s ∷ st) (length st + 1)
  push_laid op p s st e h =
      let n : max (length st) (length (s ∷ st)) ≡ length st + 1 = omega arith in
      subst (Laid m p (Push op ∷ []) st (s ∷ st)) n
      (one_laid (Push op) p st (s ∷ st) (push_goes op) (push_applies op s st e h))

  pub unary_laid : (op : unaries.Unary) (p : ℕ) (a s : Shape) (st : Stack)
      → m.unary op a ≡ Some s → length st < MOST_VALUES
      → Laid m p (Unary op ∷ []) (a ∷ st) (s ∷ st) (length st + 1)
  unary_laid op p a s st e h =
      let n : max (length (a ∷ st)) (length (s ∷ st)) ≡ length st + 1 = omega arith in
      subst (Laid m p (Unary op ∷ []) (a ∷ st) (s ∷ st)) n
      (one_laid (Unary op) p (a ∷ st) (s ∷ st) (unary_goes op) (fits (m.unary op a) s st e h))

  pub binary_laid : (op : binaries.Binary) (p : ℕ) (a b s : Shape) (st : Stack)
      → m.binary op a b ≡ Some s → length st < MOST_VALUES
      → Laid m p (Binary op ∷ []) (b ∷ a ∷ st) (s ∷ st) (length st + 2)
  binary_laid op p a b s st e h =
      let n : max (length (b ∷ a ∷ st)) (length (s ∷ st)) ≡ length st + 2 = omega arith in
      subst (Laid m p (Binary op ∷ []) (b ∷ a ∷ st) (s ∷ st)) n
      (one_laid (Binary op) p (b ∷ a ∷ st) (s ∷ st) (binary_goes op)
      (fits (m.binary op a b) s st e h))
