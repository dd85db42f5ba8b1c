-- The two ways to say what takes are.
use Rattle.std.proofs.Common.{◌≡◌, ◌⊎◌, inl, inr, ℕ, zero, suc, ◌-◌, ◌<◌, ◌≤◌, List, [], ◌∷◌}
use Rattle.std.proofs.Common.{length, get_or, refl, sym, ap, arith}
use Rattle.std.proofs.lemmas.List.Sums.{sum_by-cons}
use Rattle.bean_lots.specs.declared.lot.Lot.{Lot}
use Rattle.bean_reductions.specs.Take.{AreTakes, units_of}
use Rattle.bean_reductions.proofs.InTurn.{TakesInTurn, held}

pub to_takes : (q : List (Lot × ℕ)) (want : ℕ) (ts : List (Lot × ℕ)) → AreTakes q want ts
    → TakesInTurn q want ts
to_takes q want [] h = sym h.total
to_takes [] want (t ∷ ts) h = absurd (omega (arith, h.few))
to_takes (c ∷ q) want (t ∷ ts) h =
    let sum = sum_by-cons units_of t ts in
    let rest = to_takes q (want - t.1) ts (record {
      few = omega (arith, h.few);
      lots = λ k d below. h.lots (suc k) d (omega arith);
      some = λ k d below. h.some (suc k) d (omega arith);
      held = λ k d below. h.held (suc k) d (omega arith);
      whole = λ k d below. h.whole (suc k) d (omega arith);
      total = omega (arith, sum, h.total);
    }) in (
      h.lots 0 t (omega arith),
      h.some 0 t (omega arith),
      h.held 0 t (omega arith),
      last ts
          (λ below. h.whole 0 t below),
      omega (arith, sum, h.total),
      rest,
    )
  where
    last : (us : List (Lot × ℕ)) → (1 < length (t ∷ us) → t.1 ≡ c.1) → (us ≡ []) ⊎ (t.1 ≡ c.1)
    last [] f = inl refl
    last (u ∷ us) f = inr (f (omega arith))

pub to_first : (q : List (Lot × ℕ)) (want : ℕ) (ts : List (Lot × ℕ)) → TakesInTurn q want ts
    → AreTakes q want ts
to_first q want [] h = record {
  few = omega arith;
  lots = λ k d below. absurd (omega (arith, below));
  some = λ k d below. absurd (omega (arith, below));
  held = λ k d below. absurd (omega (arith, below));
  whole = λ k d below. absurd (omega (arith, below));
  total = sym h;
}
to_first [] want (t ∷ ts) h = absurd h
to_first (c ∷ q) want (t ∷ ts) h =
    let rest = to_first q (want - t.1) ts h.5 in
    record {
      few = omega (arith, rest.few);
      lots = λ k d below. lots k d below rest;
      some = λ k d below. some k d below rest;
      held = λ k d below. held_at k d below rest;
      whole = λ k d below. whole k d below rest;
      total = (held (c ∷ q) want (t ∷ ts) h).1;
    }
  where
    lots : (k : ℕ) (d : Lot × ℕ) → k < length (t ∷ ts) → AreTakes q (want - t.1) ts
        → (get_or (t ∷ ts) k d).0 ≡ (get_or (c ∷ q) k d).0
    lots zero d below r = h.0
    lots (suc k) d below r = r.lots k d (omega (arith, below))

    some : (k : ℕ) (d : Lot × ℕ) → k < length (t ∷ ts) → AreTakes q (want - t.1) ts
        → 0 < (get_or (t ∷ ts) k d).1
    some zero d below r = h.1
    some (suc k) d below r = r.some k d (omega (arith, below))

    held_at : (k : ℕ) (d : Lot × ℕ) → k < length (t ∷ ts) → AreTakes q (want - t.1) ts
        → (get_or (t ∷ ts) k d).1 ≤ (get_or (c ∷ q) k d).1
    held_at zero d below r = h.2
    held_at (suc k) d below r = r.held k d (omega (arith, below))

    whole : (k : ℕ) (d : Lot × ℕ) → suc k < length (t ∷ ts) → AreTakes q (want - t.1) ts
        → (get_or (t ∷ ts) k d).1 ≡ (get_or (c ∷ q) k d).1
    whole zero d below r =
        elim h.3 as (λ _. t.1
        ≡ c.1) [ inl none ↦ absurd (omega (arith, below, ap length none)) | inr all ↦ all ]
    whole (suc k) d below r = r.whole k d (omega (arith, below))
