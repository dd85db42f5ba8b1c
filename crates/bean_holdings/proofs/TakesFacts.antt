-- What the takes of a transaction come to stays a part of what its accounts held.
use Rattle.std.proofs.Common.{◌≡◌, ◌⊎◌, inl, inr, ◌≤◌, ◌^◌, ℕ, zero, suc, ℤ, pos, List, [], ◌∷◌, ◌++◌}
use Rattle.std.proofs.Common.{length, take, refl, sym, ap, subst, ◌∙◌, arith}
use Rattle.std.proofs.lemmas.Int.{ints}
use Rattle.std.proofs.lemmas.List.{append-nil, take_all}
use Rattle.bean_holdings.specs.Held.{held}
use Rattle.bean_holdings.specs.Holdings.{IsBounded, additions_in, holding}
use Rattle.bean_holdings.specs.Parts.{AreParts, IsPart}
use Rattle.bean_holdings.specs.Takes.{AreWithin}
use Rattle.bean_holdings.specs.declared.holdings.Holdings.{Holdings}
use Rattle.bean_holdings.specs.declared.posted.Posted.{Posted}
use Rattle.bean_holdings.proofs.BoundFacts.{bounded_small, parts_small}
use Rattle.bean_holdings.proofs.HeldFacts.{held_inventory}
use Rattle.bean_lots.specs.Inventory.{count_of}
use Rattle.bean_lots.specs.declared.lot.Key.{Key}
use Rattle.bean_lots.specs.declared.lot.Position.{Position}
use Rattle.bean_reductions.specs.After.{AreSmall}

front_of : (n : ℕ) (ps qs : List Posted)
    → (take n (ps ++ qs) ≡ take n ps) ⊎ ((m : ℕ) × (take n (ps ++ qs) ≡ ps ++ take m qs))
front_of n [] qs = inr (n, refl)
front_of zero (p ∷ ps) qs = inl refl
front_of (suc n) (p ∷ ps) qs = by (front_of n ps qs)
  where
    by : (take n (ps ++ qs) ≡ take n ps) ⊎ ((m : ℕ) × (take n (ps ++ qs) ≡ ps ++ take m qs))
        → (take (suc n) (p ∷ ps ++ qs) ≡ take (suc n) (p ∷ ps))
        ⊎ ((m : ℕ) × (take (suc n) (p ∷ ps ++ qs) ≡ p ∷ ps ++ take m qs))
    by (inl e) = inl (ap (λ l. p ∷ l) e)
    by (inr e) = inr (e.0, ap (λ l. p ∷ l) e.1)

of_front : (n : ℕ) (ps qs : List Posted) → (m : ℕ) × (take n ps ≡ take m (ps ++ qs))
of_front n [] qs = by n
  where
    by : (n : ℕ) → (m : ℕ) × (take n [] ≡ take m qs)
    by zero = (0, refl)
    by (suc n) = (0, refl)
of_front zero (p ∷ ps) qs = (0, refl)
of_front (suc n) (p ∷ ps) qs = let rest = of_front n ps qs in
    (suc rest.0, ap (λ l. p ∷ l) rest.1)

-- those in front are within what is held where all are
pub fewer_within : (h : Holdings) (ps qs : List Posted) → AreWithin h (ps ++ qs) → AreWithin h ps
fewer_within h ps qs w = record {
  first = λ n a.
      let front = of_front n ps qs in
      subst (λ l. AreParts (holding h a) (held a l)) (sym front.1) (w.first front.0 a);
}

-- all of them
pub all_within : (h : Holdings) (ps : List Posted) (a : List ℕ) → AreWithin h ps
    → AreParts (holding h a) (held a ps)
all_within h ps a w =
    subst (λ l. AreParts (holding h a) (held a l)) (take_all (length ps) ps (omega arith))
    (w.first (length ps) a)

pub more_within : (h : Holdings) (ps qs : List Posted) → AreWithin h ps
    → ((n : ℕ) (a : List ℕ) → AreParts (holding h a) (held a (ps ++ take n qs)))
    → AreWithin h (ps ++ qs)
more_within h ps qs w more = record { first = λ n a. by n a (front_of n ps qs) }
  where
    by : (n : ℕ) (a : List ℕ)
        → (take n (ps ++ qs) ≡ take n ps) ⊎ ((m : ℕ) × (take n (ps ++ qs) ≡ ps ++ take m qs))
        → AreParts (holding h a) (held a (take n (ps ++ qs)))
    by n a (inl e) = subst (λ l. AreParts (holding h a) (held a l)) (sym e) (w.first n a)
    by n a (inr e) = subst (λ l. AreParts (holding h a) (held a l)) (sym e.1) (more e.0 a)

pub none_within : (h : Holdings) (ps qs : List Posted) → qs ≡ [] → AreWithin h ps
    → AreWithin h (ps ++ qs)
none_within h ps qs none w =
    subst (AreWithin h) (sym (ap (λ l. ps ++ l) none ∙ append-nil ps)) w

-- none at all
pub nothing_within : (h : Holdings) → AreWithin h []
nothing_within h = record { first = λ n a. record { each = λ k. by n a k } }
  where
    none : (m : ℤ) → IsPart m (pos 0)
    none m = omega (arith, ints)

    by : (n : ℕ) (a : List ℕ) (k : Key)
        → IsPart (count_of (holding h a) k) (count_of (held a (take n [])) k)
    by zero a k = none (count_of (holding h a) k)
    by (suc n) a k = none (count_of (holding h a) k)

module _ (h : Holdings) (a : List ℕ) (ps : List Posted) (es ts : List Position) where
  -- what an account holds is small, and so is what is taken of it
  pub small_held : es ≡ holding h a → IsBounded h → additions_in h ≤ 2 ^ 40
      → AreSmall (2 ^ 125) es
  small_held e bounded few = subst (AreSmall (2 ^ 125)) (sym e) (bounded_small h a bounded few)

  pub small_taken : ts ≡ held a ps → AreWithin h ps → IsBounded h → additions_in h ≤ 2 ^ 40
      → AreSmall (2 ^ 125) ts
  small_taken e within bounded few =
      subst (AreSmall (2 ^ 125)) (sym e)
      (parts_small (2 ^ 125) (holding h a) (held a ps) (held_inventory a ps)
      (all_within h ps a within) (bounded_small h a bounded few))
