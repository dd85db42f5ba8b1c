-- What is in order, each item once, is told by what is among it.
use Rattle.std.proofs.Common.{◌≡◌, Bool, true, false, cond, ◌||◌, List, [], ◌∷◌, refl, sym, ap, ◌∙◌}
use Rattle.std.proofs.Common.{suc, ◌≤◌, arith, length, subst, true≢false}
use Rattle.std.specs.Cmp.{IsTotalOrder}
use Rattle.std.specs.List.{list_any, AllByRecursion, dedup, dedup_from}
use Rattle.std.specs.List.Sorted.{IsPermutation, IsSorted, IsStrictlySortedBy}
use Rattle.std.specs.Ordering.{is_eq, ordering_reverse}
use Rattle.std.specs.declared.cmp.Ordering.{Ordering}
use Rattle.std.specs.declared.cmp.Ordering.TheVariants.{Less, Equal, Greater}
use Rattle.std.proofs.lemmas.List.Kept.{IsStrictlySortedBy-dedup}
use Rattle.std.proofs.lemmas.List.Sorted.{list_any-IsPermutation}
use Rattle.theory.specs.Once.{once_in_order, placed, put_once}

-- in an order where only the same items tie
module _ {X : Type 0} (R : X → X → Ordering) (o : IsTotalOrder R)
    (told : (x y : X) → R x y ≡ Equal → x ≡ y) where
  own : (x : X) → is_eq (R x x) ≡ true
  own x = by (R x x) (o.antisymm x x)
    where
      by : (c : Ordering) → c ≡ ordering_reverse c → is_eq c ≡ true
      by Less e = cc
      by Equal e = refl
      by Greater e = cc

  absent : (x : X) (ys : List X) → AllByRecursion (λ y. R x y ≡ Less) ys
      → list_any (λ y. is_eq (R x y)) ys ≡ false
  absent x [] h = refl
  absent x (y ∷ ys) h =
      ap (λ b. b || list_any (λ y. is_eq (R x y)) ys) (ap is_eq h.0) ∙ absent x ys h.1

  below : (x y : X) (ys : List X) → R x y ≡ Less → AllByRecursion (λ z. R y z ≡ Less) ys
      → AllByRecursion (λ z. R x z ≡ Less) ys
  below x y [] l h = tt
  below x y (z ∷ zs) l h = (o.trans x y z l h.0, below x y zs l h.1)

  -- something below all of a list isn't in it
  out : (x y : X) (ys : List X) → R x y ≡ Less → AllByRecursion (λ z. R y z ≡ Less) ys
      → list_any (λ z. is_eq (R x z)) (y ∷ ys) ≡ false
  out x y ys l h = absent x (y ∷ ys) (l, below x y ys l h)

  inside : (x : X) (xs : List X) → list_any (λ z. is_eq (R x z)) (x ∷ xs) ≡ true
  inside x xs = ap (λ b. b || list_any (λ z. is_eq (R x z)) xs) (own x)

  HaveSame : List X → List X → Type 0
  HaveSame ys zs =
      (x : X) → list_any (λ w. is_eq (R x w)) ys ≡ list_any (λ w. is_eq (R x w)) zs

  heads : (y z : X) (ys zs : List X) → AllByRecursion (λ w. R y w ≡ Less) ys
      → AllByRecursion (λ w. R z w ≡ Less) zs → HaveSame (y ∷ ys) (z ∷ zs) → y ≡ z
  unfolding HaveSame
  heads y z ys zs h k same = by (R y z) refl
    where
      by : (c : Ordering) → R y z ≡ c → y ≡ z
      by Less e = absurd (true≢false (sym (inside y ys) ∙ same y ∙ out y z zs e k))
      by Equal e = told y z e
      by Greater e =
          absurd (true≢false (sym (inside z zs) ∙ sym (same z)
          ∙ out z y ys (o.antisymm z y ∙ ap ordering_reverse e) h))

  rest : (x y : X) (ys zs : List X) → AllByRecursion (λ w. R y w ≡ Less) ys
      → AllByRecursion (λ w. R y w ≡ Less) zs
      → list_any (λ w. is_eq (R x w)) (y ∷ ys) ≡ list_any (λ w. is_eq (R x w)) (y ∷ zs)
      → list_any (λ w. is_eq (R x w)) ys ≡ list_any (λ w. is_eq (R x w)) zs
  rest x y ys zs h k same = by (R x y) refl same
    where
      by : (c : Ordering) → R x y ≡ c
          → (is_eq c || list_any (λ w. is_eq (R x w)) ys)
          ≡ (is_eq c || list_any (λ w. is_eq (R x w)) zs)
          → list_any (λ w. is_eq (R x w)) ys ≡ list_any (λ w. is_eq (R x w)) zs
      by Less e s = s
      by Greater e s = s
      by Equal e s =
          let at : y ≡ x = sym (told x y e) in
          absent x ys (subst (λ y. AllByRecursion (λ w. R y w ≡ Less) ys) at h)
          ∙ sym (absent x zs (subst (λ y. AllByRecursion (λ w. R y w ≡ Less) zs) at k))

  -- two that are strictly sorted and have the same items are one
  pub one : (ys zs : List X) → IsStrictlySortedBy R ys → IsStrictlySortedBy R zs
      → ((x : X) → list_any (λ w. is_eq (R x w)) ys ≡ list_any (λ w. is_eq (R x w)) zs)
      → ys ≡ zs
  unfolding IsStrictlySortedBy HaveSame
  one [] [] r s same = refl
  one [] (z ∷ zs) r s same = absurd (true≢false (sym (inside z zs) ∙ sym (same z)))
  one (y ∷ ys) [] r s same = absurd (true≢false (sym (inside y ys) ∙ same y))
  one (y ∷ ys) (z ∷ zs) r s same =
      let head : z ≡ y = sym (heads y z ys zs r.0 s.0 same) in
      let s0 = subst (λ z. AllByRecursion (λ w. R z w ≡ Less) zs) head s.0 in
      let same0 = subst (λ z. HaveSame (y ∷ ys) (z ∷ zs)) head same in
      let tail = one ys zs r.1 s.1 (λ x. rest x y ys zs r.0 s0 (same0 x)) in
      ap (λ l. y ∷ l) tail ∙ ap (λ y. y ∷ zs) (sym head)

  -- ---- each once

  members_put : (t x : X) (ys : List X)
      → list_any (λ w. is_eq (R t w)) (put_once R x ys)
      ≡ list_any (λ w. is_eq (R t w)) (x ∷ ys)
  members_put t x [] = refl
  members_put t x (y ∷ ys) = by (members_put t x ys) (R x y) refl
    where
      twice : (a b : Bool) → (a || b) ≡ (a || (a || b))
      twice true b = refl
      twice false b = refl

      swap : (a b c : Bool) → (a || (b || c)) ≡ (b || (a || c))
      swap true true c = refl
      swap true false c = refl
      swap false true c = refl
      swap false false c = refl

      by : (list_any (λ w. is_eq (R t w)) (put_once R x ys)
          ≡ list_any (λ w. is_eq (R t w)) (x ∷ ys))
          → (c : Ordering) → R x y ≡ c
          → list_any (λ w. is_eq (R t w)) (placed c x y ys (put_once R x ys))
          ≡ list_any (λ w. is_eq (R t w)) (x ∷ y ∷ ys)
      by before Less e = refl
      by before Equal e =
          twice (is_eq (R t y)) (list_any (λ w. is_eq (R t w)) ys)
          ∙ ap (λ z. is_eq (R t z) || (is_eq (R t y) || list_any (λ w. is_eq (R t w)) ys))
          (sym (told x y e))
      by before Greater e =
          ap (λ b. is_eq (R t y) || b) before
          ∙ swap (is_eq (R t y)) (is_eq (R t x)) (list_any (λ w. is_eq (R t w)) ys)

  -- the same items are among those in order
  pub members_once : (t : X) (xs : List X)
      → list_any (λ w. is_eq (R t w)) (once_in_order R xs) ≡ list_any (λ w. is_eq (R t w)) xs
  members_once t [] = refl
  members_once t (x ∷ xs) =
      members_put t x (once_in_order R xs) ∙ ap (λ b. is_eq (R t x) || b) (members_once t xs)

  above_put : (y x : X) (ys : List X) → R y x ≡ Less → AllByRecursion (λ z. R y z ≡ Less) ys
      → AllByRecursion (λ z. R y z ≡ Less) (put_once R x ys)
  above_put y x [] l h = (l, tt)
  above_put y x (z ∷ zs) l h = by (above_put y x zs l h.1) (R x z)
    where
      by : AllByRecursion (λ w. R y w ≡ Less) (put_once R x zs) → (c : Ordering)
          → AllByRecursion (λ w. R y w ≡ Less) (placed c x z zs (put_once R x zs))
      by before Less = (l, h)
      by before Equal = h
      by before Greater = (h.0, before)

  sorted_put : (x : X) (ys : List X) → IsStrictlySortedBy R ys
      → IsStrictlySortedBy R (put_once R x ys)
  unfolding IsStrictlySortedBy
  sorted_put x [] h = (tt, tt)
  sorted_put x (y ∷ ys) h = by (sorted_put x ys h.1) (R x y) refl
    where
      by : IsStrictlySortedBy R (put_once R x ys) → (c : Ordering) → R x y ≡ c
          → IsStrictlySortedBy R (placed c x y ys (put_once R x ys))
      by before Less e = ((e, below x y ys e h.0), h)
      by before Equal e = h
      by before Greater e =
          (above_put y x ys (o.antisymm y x ∙ ap ordering_reverse e) h.0, before)

  pub sorted_once : (xs : List X) → IsStrictlySortedBy R (once_in_order R xs)
  unfolding IsStrictlySortedBy
  sorted_once [] = tt
  sorted_once (x ∷ xs) = sorted_put x (once_in_order R xs) (sorted_once xs)

  -- what is strictly sorted and has the same items is the list of them in order
  pub once_is : (xs ys : List X) → IsStrictlySortedBy R ys
      → ((t : X) → list_any (λ w. is_eq (R t w)) ys ≡ list_any (λ w. is_eq (R t w)) xs)
      → ys ≡ once_in_order R xs
  once_is xs ys h same =
      one ys (once_in_order R xs) h (sorted_once xs) (λ t. same t ∙ sym (members_once t xs))

  -- ---- by sorting, and dropping what stands twice

  module _ (E : X → X → Bool) (ties : (x y : X) → E x y ≡ is_eq (R x y)) where
    same_items : (t x y : X) → E x y ≡ true → is_eq (R t x) ≡ is_eq (R t y)
    same_items t x y e = ap (λ z. is_eq (R t z)) (told x y (equal (R x y) (sym (ties x y) ∙ e)))
      where
        equal : (c : Ordering) → is_eq c ≡ true → c ≡ Equal
        equal Less f = absurd (true≢false (sym f))
        equal Equal f = refl
        equal Greater f = absurd (true≢false (sym f))

    kept_from : (t x : X) (xs : List X)
        → list_any (λ w. is_eq (R t w)) (dedup_from E x xs)
        ≡ list_any (λ w. is_eq (R t w)) (x ∷ xs)
    kept_from t x [] = refl
    kept_from t x (y ∷ ys) = by (E y x) refl (kept_from t x ys) (kept_from t y ys)
      where
        by : (b : Bool) → E y x ≡ b
            → list_any (λ w. is_eq (R t w)) (dedup_from E x ys)
            ≡ list_any (λ w. is_eq (R t w)) (x ∷ ys)
            → list_any (λ w. is_eq (R t w)) (dedup_from E y ys)
            ≡ list_any (λ w. is_eq (R t w)) (y ∷ ys)
            → list_any (λ w. is_eq (R t w)) (cond b (dedup_from E x ys) (x ∷ dedup_from E y ys))
            ≡ list_any (λ w. is_eq (R t w)) (x ∷ y ∷ ys)
        by true e f g =
            f ∙ again (is_eq (R t x)) (is_eq (R t y)) (list_any (λ w. is_eq (R t w)) ys)
            (same_items t y x e)
          where
            again : (a b c : Bool) → b ≡ a → (a || c) ≡ (a || (b || c))
            again true b c e = refl
            again false true c e = absurd (true≢false e)
            again false false c e = refl
        by false e f g = ap (λ b. is_eq (R t x) || b) g

    kept : (t : X) (xs : List X)
        → list_any (λ w. is_eq (R t w)) (dedup E xs) ≡ list_any (λ w. is_eq (R t w)) xs
    kept t [] = refl
    kept t (x ∷ xs) = kept_from t x xs

    pub dedup_is_once : (xs ys : List X) → IsPermutation xs ys → IsSorted R ys
        → dedup E ys ≡ once_in_order R xs
    dedup_is_once xs ys same in_order =
        once_is xs (dedup E ys) (IsStrictlySortedBy-dedup o ties ys in_order)
        (λ t. kept t ys ∙ sym (list_any-IsPermutation (λ w. is_eq (R t w)) xs ys same))

-- ---- what holds of the items holds of them in order

module _ {X : Type 0} (R : X → X → Ordering) where
  few_put : (x : X) (ys : List X) → length (put_once R x ys) ≤ suc (length ys)
  few_put x [] = omega arith
  few_put x (y ∷ ys) = by (few_put x ys) (R x y)
    where
      by : length (put_once R x ys) ≤ suc (length ys) → (c : Ordering)
          → length (placed c x y ys (put_once R x ys)) ≤ suc (suc (length ys))
      by before Less = omega arith
      by before Equal = omega arith
      by before Greater = omega (arith, before)

  -- they are no more
  pub few_once : (xs : List X) → length (once_in_order R xs) ≤ length xs
  few_once [] = omega arith
  few_once (x ∷ xs) =
      let one = few_put x (once_in_order R xs) in
      let others = few_once xs in omega (arith, one, others)

  all_put : (P : X → Type 0) (x : X) (ys : List X) → P x → AllByRecursion P ys
      → AllByRecursion P (put_once R x ys)
  all_put P x [] h k = (h, tt)
  all_put P x (y ∷ ys) h k = by (all_put P x ys h k.1) (R x y)
    where
      by : AllByRecursion P (put_once R x ys) → (c : Ordering)
          → AllByRecursion P (placed c x y ys (put_once R x ys))
      by before Less = (h, k)
      by before Equal = k
      by before Greater = (k.0, before)

  pub all_once : (P : X → Type 0) (xs : List X) → AllByRecursion P xs
      → AllByRecursion P (once_in_order R xs)
  all_once P [] h = tt
  all_once P (x ∷ xs) h = all_put P x (once_in_order R xs) h.0 (all_once P xs h.1)
