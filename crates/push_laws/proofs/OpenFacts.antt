-- The pushes of a name that are open behind some bounds: what pops leave of those before them, and
-- the latest.
use Rattle.std.proofs.Common.{◌≡◌, ℕ, zero, suc, ◌-◌, ◌≤◌, Bool, true, false, cond}
use Rattle.std.proofs.Common.{List, [], ◌∷◌, ◌++◌, length, take, Some, None}
use Rattle.std.proofs.Common.{refl, sym, ◌∙◌, ap, subst, arith}
use Rattle.std.proofs.lemmas.List.{append_assoc, append-nil}
use Rattle.std.specs.Prelude.{slice_get, ⊤}
use Rattle.bean_directives.specs.declared.undated.Bound.{Bound}
use Rattle.bean_directives.specs.declared.undated.Bound.TheVariants.{Push, Pop}
use Rattle.bean_directives.specs.declared.undated.Pushed.{Pushed}
use Rattle.bean_directives.specs.declared.undated.PushName.{PushName}
use Rattle.bean_pushes.proofs.MatchFacts.{less_one}
use Rattle.bean_pushes.specs.Scope.{latest, name_in, name_of, open_behind, open_pushes, pops_before}
use Rattle.bean_pushes.specs.Scope.{pops_left, same_name}
use Rattle.bean_pushes.specs.declared.scope.PlacedBound.{PlacedBound}

-- ---- the latest of some

latest_behind : (p q : Pushed) (ps : List Pushed) → latest (p ∷ q ∷ ps) ≡ latest (q ∷ ps)
latest_behind p q ps =
    ap (slice_get (p ∷ q ∷ ps)) (less_one (suc (length ps)))
    ∙ sym (ap (slice_get (q ∷ ps)) (less_one (length ps)))

pub latest_one : (p : Pushed) → latest (p ∷ []) ≡ Some p
latest_one p = ap (slice_get (p ∷ [])) (less_one 0)

pub latest_none : latest [] ≡ None
latest_none = refl

-- where some stand behind, the latest is one of these
pub latest_of_last : (ps : List Pushed) (q : Pushed) (qs : List Pushed)
    → latest (ps ++ q ∷ qs) ≡ latest (q ∷ qs)
latest_of_last [] q qs = refl
latest_of_last (p ∷ []) q qs = latest_behind p q qs
latest_of_last (p ∷ r ∷ ps) q qs = latest_behind p r (ps ++ q ∷ qs) ∙ latest_of_last (r ∷ ps) q qs

pub there_is_a_latest : (p : Pushed) (ps : List Pushed) → (q : Pushed) × (latest (p ∷ ps) ≡ Some q)
there_is_a_latest p [] = (p, latest_one p)
there_is_a_latest p (q ∷ ps) =
    let found = there_is_a_latest q ps in (found.0, latest_behind p q ps ∙ found.1)

-- ---- all that are open have the name

abbrev pub AreOf : PushName → List Pushed → Type 0
AreOf name [] = ⊤
AreOf name (p ∷ ps) = (same_name (name_of p) name ≡ true) × AreOf name ps

module _ (name : PushName) where
  of_more : (ps : List Pushed) (p : Pushed) → AreOf name ps → same_name (name_of p) name ≡ true
      → AreOf name (ps ++ p ∷ [])
  of_more [] p are is = (is, tt)
  of_more (q ∷ ps) p are is = (are.0, of_more ps p are.1 is)

  of_fewer : (n : ℕ) (ps : List Pushed) → AreOf name ps → AreOf name (take n ps)
  of_fewer zero ps are = tt
  of_fewer (suc n) [] are = tt
  of_fewer (suc n) (p ∷ ps) are = (are.0, of_fewer n ps are.1)

  pushed_of : (same : Bool) (p : Pushed) (ps : List Pushed) → same_name (name_of p) name ≡ same
      → AreOf name ps → AreOf name (cond same (ps ++ p ∷ []) ps)
  pushed_of true p ps is are = of_more ps p are is
  pushed_of false p ps is are = are

  popped_of : (same : Bool) (ps : List Pushed) → AreOf name ps
      → AreOf name (cond same (take (length ps - 1) ps) ps)
  popped_of true ps are = of_fewer (length ps - 1) ps are
  popped_of false ps are = are

  behind_of : (b : Bound) (ps : List Pushed) → AreOf name ps → AreOf name (open_behind name ps b)
  behind_of (Push p) ps are = pushed_of (same_name (name_of p) name) p ps refl are
  behind_of (Pop n) ps are = popped_of (same_name n name) ps are

  pub open_of : (bs : List PlacedBound) (ps : List Pushed) → AreOf name ps
      → AreOf name (open_pushes name ps bs)
  open_of [] ps are = are
  open_of (b ∷ bs) ps are = open_of bs (open_behind name ps b.bound) (behind_of b.bound ps are)

  pub latest_of : (ps : List Pushed) (q : Pushed) → AreOf name ps → latest ps ≡ Some q
      → same_name (name_of q) name ≡ true
  latest_of [] q are is = let e = sym latest_none ∙ is in absurd cc
  latest_of (p ∷ []) q are is =
      let e = sym (latest_one p) ∙ is in
      let same : p ≡ q = cc in
      subst (λ r. same_name (name_of r) name ≡ true) same are.0
  latest_of (p ∷ r ∷ ps) q are is =
      latest_of (r ∷ ps) q are.1 (sym (latest_behind p r ps) ∙ is)

  -- ---- a bound of another name

  pub other_open : (b : Bound) (ps : List Pushed) → same_name (name_in b) name ≡ false
      → open_behind name ps b ≡ ps
  other_open (Push p) ps e = ap (λ s. cond s (ps ++ p ∷ []) ps) e
  other_open (Pop n) ps e = ap (λ s. cond s (take (length ps - 1) ps) ps) e

-- ---- what pops leave of those before

take_all : (ps : List Pushed) → take (length ps) ps ≡ ps
take_all [] = refl
take_all (p ∷ ps) = ap (λ r. p ∷ r) (take_all ps)

take_front : (n : ℕ) (ps qs : List Pushed) → n ≤ length ps → take n (ps ++ qs) ≡ take n ps
take_front zero ps qs few = refl
take_front (suc n) [] qs few = absurd (omega (arith, few))
take_front (suc n) (p ∷ ps) qs few = ap (λ r. p ∷ r) (take_front n ps qs (omega (arith, few)))

take_fewer : (n m : ℕ) (ps : List Pushed) → n ≤ m → take n (take m ps) ≡ take n ps
take_fewer zero m ps few = refl
take_fewer (suc n) zero ps few = absurd (omega (arith, few))
take_fewer (suc n) (suc m) [] few = refl
take_fewer (suc n) (suc m) (p ∷ ps) few = ap (λ r. p ∷ r) (take_fewer n m ps (omega (arith, few)))

one_longer : (ps : List Pushed) (p : Pushed) → length (ps ++ p ∷ []) ≡ suc (length ps)
one_longer [] p = refl
one_longer (q ∷ ps) p = ap suc (one_longer ps p)

one_shorter : (ps : List Pushed) → length (take (length ps - 1) ps) ≡ length ps - 1
one_shorter [] = refl
one_shorter (p ∷ ps) =
    ap (λ n. length (take n (p ∷ ps))) (less_one (length ps)) ∙ by p ps
    ∙ sym (less_one (length ps))
  where
    by : (p : Pushed) (ps : List Pushed) → length (take (length ps) (p ∷ ps)) ≡ length ps
    by p [] = refl
    by p (q ∷ ps) = ap suc (by q ps)

-- behind a push: with no pop left it stays, else the first of these takes it back
left_by_push : (n : ℕ) (ps : List Pushed) (p : Pushed) (rest : List Pushed)
    → take (length (ps ++ p ∷ []) - n) (ps ++ p ∷ []) ++ rest
    ≡ take (length ps - (n - 1)) ps ++ (take (1 - n) (p ∷ []) ++ rest)
left_by_push zero ps p rest =
    ap (λ k. take k (ps ++ p ∷ []) ++ rest) (e0 (length (ps ++ p ∷ [])))
    ∙ ap (λ r. r ++ rest) (take_all (ps ++ p ∷ []))
    ∙ append_assoc ps (p ∷ []) rest
    ∙ sym (ap (λ k. take k ps ++ (take (1 - 0) (p ∷ []) ++ rest)) (e1 (length ps))
    ∙ ap (λ r. r ++ (take (1 - 0) (p ∷ []) ++ rest)) (take_all ps)
    ∙ ap (λ k. ps ++ (take k (p ∷ []) ++ rest)) e2)
  where
    e0 : (k : ℕ) → k - 0 ≡ k
    e0 k = omega arith

    e1 : (k : ℕ) → k - (0 - 1) ≡ k
    e1 k = omega arith

    e2 : 1 - 0 ≡ 1
    e2 = omega arith
left_by_push (suc n) ps p rest =
    ap (λ k. take k (ps ++ p ∷ []) ++ rest)
    (ap (λ k. k - suc n) (one_longer ps p) ∙ e0 (length ps))
    ∙ ap (λ r. r ++ rest) (take_front (length ps - n) ps (p ∷ []) (omega arith))
    ∙ sym (ap (λ k. take (length ps - k) ps ++ (take (1 - suc n) (p ∷ []) ++ rest)) (less_one n)
    ∙ ap (λ k. take (length ps - n) ps ++ (take k (p ∷ []) ++ rest)) e1)
  where
    e0 : (k : ℕ) → suc k - suc n ≡ k - n
    e0 k = omega arith

    e1 : 1 - suc n ≡ 0
    e1 = omega arith

left_by_pop : (n : ℕ) (ps : List Pushed)
    → take (length (take (length ps - 1) ps) - n) (take (length ps - 1) ps) ≡ take (length ps - suc n) ps
left_by_pop n ps =
    ap (λ k. take (k - n) (take (length ps - 1) ps)) (one_shorter ps)
    ∙ take_fewer (length ps - 1 - n) (length ps - 1) ps (omega arith)
    ∙ ap (λ k. take k ps) (e (length ps))
  where
    e : (k : ℕ) → k - 1 - n ≡ k - suc n
    e k = omega arith

pub take_none : (k : ℕ) → take {A = Pushed} k [] ≡ []
take_none zero = refl
take_none (suc k) = refl

module _ (f : List Pushed → List Pushed) (n : ℕ)
    (is : (ps : List Pushed) → f ps ≡ take (length ps - n) ps ++ f []) where
  left_pushed : (same : Bool) (p : Pushed) (ps : List Pushed)
      → f (cond same (ps ++ p ∷ []) ps)
      ≡ take (length ps - cond same (n - 1) n) ps ++ f (cond same (p ∷ []) [])
  left_pushed true p ps =
      is (ps ++ p ∷ []) ∙ left_by_push n ps p (f [])
      ∙ sym (ap (λ r. take (length ps - (n - 1)) ps ++ r) (is (p ∷ [])))
  left_pushed false p ps = is ps

  left_popped : (same : Bool) (ps : List Pushed)
      → f (cond same (take (length ps - 1) ps) ps)
      ≡ take (length ps - cond same (suc n) n) ps ++ f (cond same (take (0 - 1) []) [])
  left_popped true ps =
      is (take (length ps - 1) ps) ∙ ap (λ r. r ++ f []) (left_by_pop n ps)
      ∙ sym (ap (λ r. take (length ps - suc n) ps ++ f r) (take_none (0 - 1)))
  left_popped false ps = is ps

module _ (name : PushName) where
  by_bound : (bs : List PlacedBound)
      → ((ps : List Pushed) → open_pushes name ps bs
      ≡ take (length ps - pops_left name bs) ps ++ open_pushes name [] bs)
      → (k : Bound) (ps : List Pushed) → open_pushes name (open_behind name ps k) bs
      ≡ take (length ps - pops_before name k (pops_left name bs)) ps
      ++ open_pushes name (open_behind name [] k) bs
  by_bound bs is (Push p) ps =
      left_pushed (λ qs. open_pushes name qs bs) (pops_left name bs) is
      (same_name (name_of p) name) p ps
  by_bound bs is (Pop m) ps =
      left_popped (λ qs. open_pushes name qs bs) (pops_left name bs) is (same_name m name) ps

  -- of those that are open before some bounds the pops that are left take back the latest
  pub open_is : (bs : List PlacedBound) (ps : List Pushed)
      → open_pushes name ps bs
      ≡ take (length ps - pops_left name bs) ps ++ open_pushes name [] bs
  open_is [] ps =
      sym (ap (λ k. take k ps ++ []) (e (length ps)) ∙ append-nil (take (length ps) ps) ∙ take_all ps)
    where
      e : (k : ℕ) → k - 0 ≡ k
      e k = omega arith
  open_is (b ∷ bs) ps = by_bound bs (open_is bs) b.bound ps

  -- so one push stays where no pop is left for it
  pub one_stays : (bs : List PlacedBound) (p : Pushed) → pops_left name bs ≡ 0
      → open_pushes name (p ∷ []) bs ≡ p ∷ open_pushes name [] bs
  one_stays bs p none =
      open_is bs (p ∷ []) ∙ ap (λ n. take (1 - n) (p ∷ []) ++ open_pushes name [] bs) none
      ∙ ap (λ k. take k (p ∷ []) ++ open_pushes name [] bs) (less_none 1)
    where
      less_none : (k : ℕ) → k - 0 ≡ k
      less_none k = omega arith

  pub one_goes : (bs : List PlacedBound) (p : Pushed) → 1 ≤ pops_left name bs
      → open_pushes name (p ∷ []) bs ≡ open_pushes name [] bs
  one_goes bs p some =
      open_is bs (p ∷ [])
      ∙ ap (λ k. take k (p ∷ []) ++ open_pushes name [] bs) (none (pops_left name bs) some)
    where
      none : (n : ℕ) → 1 ≤ n → 1 - n ≡ 0
      none n h = omega (arith, h)
