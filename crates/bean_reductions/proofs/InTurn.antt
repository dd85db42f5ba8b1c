-- Takes in turn: one candidate after the other.
use Rattle.std.proofs.Common.{◌≡◌, ◌⊎◌, inl, inr, ℕ, ◌+◌, ◌-◌, ◌<◌, ◌≤◌, ◌==◌, Bool, true, false}
use Rattle.std.proofs.Common.{cond, List, [], ◌∷◌, min, sum_by, refl, sym, ◌∙◌, ap, subst, arith}
use Rattle.std.specs.List.{AllByRecursion}
use Rattle.std.proofs.lemmas.Bool.Decides.{nat_tests}
use Rattle.std.proofs.lemmas.List.Sums.{sum_by-cons}
use Rattle.bean_lots.specs.declared.lot.Lot.{Lot}
use Rattle.bean_reductions.specs.Candidate.{IsHeld}
use Rattle.bean_reductions.specs.Take.{units_of}
use Rattle.bean_reductions.specs.Filling.{filled}
use Rattle.bean_reductions.proofs.FillingFacts.{filled_zero}

-- of each candidate some of what is held, all of it where another take follows, and in total the
-- want
abbrev pub TakesInTurn : List (Lot × ℕ) → ℕ → List (Lot × ℕ) → Type 0
TakesInTurn q want [] = want ≡ 0
TakesInTurn [] want (t ∷ ts) = ⊥
TakesInTurn (c ∷ q) want (t ∷ ts) =
    (t.0 ≡ c.0) × (0 < t.1) × (t.1 ≤ c.1) × ((ts ≡ []) ⊎ (t.1 ≡ c.1)) × (t.1 ≤ want)
    × TakesInTurn q (want - t.1) ts

not_zero : (n : ℕ) → 0 < n → (n == 0) ≡ false
not_zero n h = grind (arith, nat_tests)

sum_cons : (c : Lot × ℕ) (q : List (Lot × ℕ)) → sum_by units_of (c ∷ q) ≡ c.1 + sum_by units_of q
sum_cons c q = sum_by-cons units_of c q

either : (a b : ℕ) → (a ≤ b) ⊎ (b < a)
either a b = grind arith

-- what is filled are takes, where enough is held
pub taken : (q : List (Lot × ℕ)) (want : ℕ) → AllByRecursion IsHeld q → want ≤ sum_by units_of q
    → TakesInTurn q want (filled q want)
taken [] want h e = omega arith
taken (c ∷ q) want h e =
    by (want == 0) refl (λ below. taken q (want - c.1) h.1 (omega (arith, sum_cons c q)))
  where
    by : (b : Bool) → (want == 0) ≡ b
        → (c.1 ≤ want → TakesInTurn q (want - c.1) (filled q (want - c.1)))
        → TakesInTurn (c ∷ q) want (cond b [] ((c.0, min c.1 want) ∷ filled q (want - c.1)))
    by true z rest = grind (arith, nat_tests)
    by false z rest =
        let more : 0 < want = grind (arith, nat_tests) in
        elim (either c.1 want) as
        (λ _. TakesInTurn (c ∷ q) want ((c.0, min c.1 want) ∷ filled q (want - c.1))) [
          | inl below ↦
              let left : want - c.1 ≡ want - min c.1 want = omega arith in (
                refl,
                omega (arith, h.0),
                omega arith,
                inr (omega arith),
                omega arith,
                subst
                    (λ n. TakesInTurn q n (filled q (want - c.1))) left (rest below),
              )
          | inr above ↦
              let none : filled q (want - c.1) ≡ [] = let zero : want - c.1 ≡ 0 = omega arith in
              ap (filled q) zero ∙ filled_zero q in (
                refl,
                omega (arith, h.0),
                omega arith,
                inl none,
                omega arith,
                subst
                    (TakesInTurn q (want - min c.1 want)) (sym none) (omega arith),
              )
        ]

join : (c : Lot × ℕ) (q : List (Lot × ℕ)) (want : ℕ) (t : Lot × ℕ) (ts : List (Lot × ℕ)) → t.0 ≡ c.0
    → t.1 ≡ min c.1 want → ts ≡ filled q (want - c.1) → 0 < want → (t ∷ ts) ≡ filled (c ∷ q) want
join c q want t ts e f g p =
    ap (λ a. (a, t.1) ∷ ts) e ∙ ap (λ n. (c.0, n) ∷ ts) f ∙ ap (λ l. (c.0, min c.1 want) ∷ l) g
    ∙ sym (ap (λ b. cond b [] ((c.0, min c.1 want) ∷ filled q (want - c.1))) (not_zero want p))

no_takes : (q : List (Lot × ℕ)) (want : ℕ) (ts : List (Lot × ℕ)) → ts ≡ [] → TakesInTurn q want ts
    → want ≡ 0
no_takes q want ts e h = subst (TakesInTurn q want) e h

-- takes are what is filled
pub only : (q : List (Lot × ℕ)) (want : ℕ) (ts : List (Lot × ℕ)) → TakesInTurn q want ts
    → ts ≡ filled q want
only q want [] h = sym (ap (filled q) h ∙ filled_zero q)
only [] want (t ∷ ts) h = absurd h
only (c ∷ q) want (t ∷ ts) h =
    let rest = only q (want - t.1) ts h.5 in
    elim h.3 as (λ _. (t ∷ ts) ≡ filled (c ∷ q) want) [
      | inl last ↦
          let zero = no_takes q (want - t.1) ts last h.5 in
          let none : want - c.1 ≡ 0 = omega (arith, h.2, h.4) in
          join c q want t ts h.0 (omega (arith, h.2, h.4))
          (last ∙ sym (ap (filled q) none ∙ filled_zero q)) (omega (arith, h.1, h.4))
      | inr all ↦ join c q want t ts h.0 (omega (arith, h.4))
          (rest ∙ ap (λ n. filled q (want - n)) all) (omega (arith, h.1, h.4))
    ]

-- and come to the want, which is held
pub held : (q : List (Lot × ℕ)) (want : ℕ) (ts : List (Lot × ℕ)) → TakesInTurn q want ts
    → (want ≤ sum_by units_of q) × (sum_by units_of ts ≡ want)
held q want [] h = (omega arith, sym h)
held [] want (t ∷ ts) h = absurd h
held (c ∷ q) want (t ∷ ts) h =
    let rest = held q (want - t.1) ts h.5 in
    (omega (arith, sum_cons c q, rest.0, h.2, h.4), omega (arith, sum_cons t ts, rest.1, h.4))

-- all is taken where it comes to the want
pub whole : (q : List (Lot × ℕ)) (want : ℕ) → AllByRecursion IsHeld q → sum_by units_of q ≡ want
    → filled q want ≡ q
whole [] want h e = refl
whole (c ∷ q) want h e =
    sym (join c q want c q refl (omega (arith, sum_cons c q))
    (sym (whole q (want - c.1) h.1 (omega (arith, sum_cons c q))))
    (omega (arith, sum_cons c q, h.0)))
