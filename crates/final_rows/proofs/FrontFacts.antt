-- What stands behind the first items of an arrangement never comes to stand among them, whatever
-- items are arranged with these later.
use Rattle.std.proofs.Common.{◌≡◌, ℕ, zero, suc, Bool, true, false, cond, List, [], ◌∷◌, ◌++◌, length}
use Rattle.std.proofs.Common.{add-one, append_assoc, arith, take, drop, filter, refl, sym, ap, subst, ◌∙◌, inl, inr}
use Rattle.std.specs.Prelude.{◌⊎◌}
use Rattle.std.specs.Cmp.{IsStrictWeakOrder}
use Rattle.std.specs.List.{AllByRecursion}
use Rattle.std.specs.List.Sorted.{IsSortedBy, ties}
use Rattle.std.proofs.lemmas.List.{append-nil, take-append-drop}
use Rattle.std.proofs.lemmas.List.Elements.{filter-append}
use Rattle.theory.proofs.ArrangedFacts.{is_arranged}
use Rattle.theory.proofs.ArrangementFacts.{one_arrangement}
use Rattle.theory.specs.Arrangement.{IsArrangement, arranged_by, put_by}

-- no item comes before the one in front of it
abbrev Rises : {X : Type 0} → (X → X → Bool) → List X → Type 0
Rises before [] = Unit {0}
Rises before (x ∷ []) = Unit {0}
Rises before (x ∷ y ∷ ys) = (before y x ≡ false) × Rises before (y ∷ ys)

rises : {X : Type 0} (before : X → X → Bool) (xs : List X) → IsSortedBy before xs → Rises before xs
rises before [] s = tt
rises before (x ∷ []) s = tt
rises before (x ∷ y ∷ ys) s = (
  s 0 x (omega arith) (omega arith),
  rises before (y ∷ ys) (λ k d low high. rw add-one (rw add-one at (s (suc k) d (omega arith) (omega arith)))),
)

tail_rises : {X : Type 0} (before : X → X → Bool) (x : X) (xs : List X) → Rises before (x ∷ xs)
    → Rises before xs
tail_rises before x [] r = tt
tail_rises before x (y ∷ ys) r = r.1

arranged_rises : {X : Type 0} (before : X → X → Bool) → IsStrictWeakOrder before → (xs : List X)
    → Rises before (arranged_by before xs)
arranged_rises before o xs = rises before (arranged_by before xs) (is_arranged before o xs).sorted

module _ {X : Type 0} (before : X → X → Bool) (o : IsStrictWeakOrder before) (P : X → Type 0) where
  -- the same list without some of the items of which P holds
  abbrev Fewer : List X → List X → Type 0
  Fewer [] few = few ≡ []
  Fewer (x ∷ xs) few =
      (P x × Fewer xs few) ⊎ ((rest : List X) × (few ≡ x ∷ rest) × Fewer xs rest)

  -- the same list up to n items, and behind these without some
  abbrev SameTo : ℕ → List X → List X → Type 0
  SameTo zero xs few = Fewer xs few
  SameTo (suc n) [] few = few ≡ []
  SameTo (suc n) (x ∷ xs) few = (rest : List X) × (few ≡ x ∷ rest) × SameTo n xs rest

  same : (xs : List X) → Fewer xs xs
  same [] = refl
  same (x ∷ xs) = inr (xs, refl, same xs)

  one_less : (n : ℕ) (xs few : List X) → SameTo (suc n) xs few → SameTo n xs few
  one_less zero [] few s = s
  one_less zero (x ∷ xs) few (rest, is, s) = inr (rest, is, s)
  one_less (suc n) [] few s = s
  one_less (suc n) (x ∷ xs) few (rest, is, s) = (rest, is, one_less n xs rest s)

  none_left : (n : ℕ) (few : List X) → SameTo n [] few → few ≡ []
  none_left zero few s = s
  none_left (suc n) few s = s

  nothing : (n : ℕ) → SameTo n [] []
  nothing zero = refl
  nothing (suc n) = refl

  same_front : (n : ℕ) (xs few : List X) → SameTo n xs few → take n xs ≡ take n few
  same_front zero xs few s = refl
  same_front (suc n) [] few s = ap (take (suc n)) (sym s)
  same_front (suc n) (x ∷ xs) few (rest, is, s) =
      ap (λ l. x ∷ l) (same_front n xs rest s) ∙ ap (take (suc n)) (sym is)

  -- ---- an item that may lack

  put_more : (c : X) → P c → (xs few : List X) → Fewer xs few → Fewer (put_by before c xs) few
  put_more c p [] few s = inl (p, s)
  put_more c p (x ∷ xs) few s = by (before x c) s (put_more c p xs)
    where
      by : (b : Bool) → Fewer (x ∷ xs) few
          → ((few : List X) → Fewer xs few → Fewer (put_by before c xs) few)
          → Fewer (cond b (x ∷ put_by before c xs) (c ∷ x ∷ xs)) few
      by true (inl (q, s)) more = inl (q, more few s)
      by true (inr (rest, is, s)) more = inr (rest, is, more rest s)
      by false s more = inl (p, s)

  -- ---- an item that comes before none of those that may lack

  -- it goes in front of the list, where it would go in front of one that lacks there
  goes_first : (x y : X) (xs few : List X) → before y x ≡ false → Rises before (y ∷ xs)
      → Fewer xs few → put_by before x few ≡ x ∷ few
  goes_first x y [] few low r s =
      ap (put_by before x) s ∙ ap (λ l. x ∷ l) (sym s)
  goes_first x y (z ∷ xs) few low r (inl (q, s)) =
      goes_first x z xs few (o.chain z y x r.0 low) r.1 s
  goes_first x y (z ∷ xs) few low r (inr (rest, is, s)) =
      ap (put_by before x) is
      ∙ ap (λ b. cond b (z ∷ put_by before x rest) (x ∷ z ∷ rest)) (o.chain z y x r.0 low)
      ∙ ap (λ l. x ∷ l) (sym is)

  module _ (x : X) (low : (c : X) → P c → before c x ≡ false) where
    put_same : (n : ℕ) (xs few : List X) → Rises before xs → SameTo n xs few
        → SameTo (suc n) (put_by before x xs) (put_by before x few)
    put_same n [] few r s =
        ([], ap (put_by before x) (none_left n few s), nothing n)
    put_same zero (y ∷ xs) few r (inl (q, s)) =
        subst (λ l. SameTo 1 l (put_by before x few))
        (ap (λ b. cond b (y ∷ put_by before x xs) (x ∷ y ∷ xs)) (sym (low y q)))
        (few, goes_first x y xs few (low y q) r s, inl (q, s))
    put_same zero (y ∷ xs) few r (inr (rest, is, s)) =
        subst (λ l. SameTo 1 (put_by before x (y ∷ xs)) (put_by before x l)) (sym is)
        (by (before y x) (put_same zero xs rest (tail_rises before y xs r) s))
      where
        by : (b : Bool) → SameTo 1 (put_by before x xs) (put_by before x rest)
            → SameTo 1 (cond b (y ∷ put_by before x xs) (x ∷ y ∷ xs))
            (cond b (y ∷ put_by before x rest) (x ∷ y ∷ rest))
        by true behind =
            (put_by before x rest, refl, one_less 0 (put_by before x xs) (put_by before x rest) behind)
        by false behind = (y ∷ rest, refl, inr (rest, refl, s))
    put_same (suc n) (y ∷ xs) few r (rest, is, s) =
        subst (λ l. SameTo (suc (suc n)) (put_by before x (y ∷ xs)) (put_by before x l)) (sym is)
        (by (before y x) (put_same n xs rest (tail_rises before y xs r) s))
      where
        by : (b : Bool) → SameTo (suc n) (put_by before x xs) (put_by before x rest)
            → SameTo (suc (suc n)) (cond b (y ∷ put_by before x xs) (x ∷ y ∷ xs))
            (cond b (y ∷ put_by before x rest) (x ∷ y ∷ rest))
        by true behind = (put_by before x rest, refl, behind)
        by false behind = (y ∷ rest, refl, (rest, refl, s))

  -- ---- many items

  abbrev put_all : List X → List X → List X
  put_all [] ys = ys
  put_all (x ∷ xs) ys = put_by before x (put_all xs ys)

  arranged_behind : (xs ys : List X)
      → arranged_by before (xs ++ ys) ≡ put_all xs (arranged_by before ys)
  arranged_behind [] ys = refl
  arranged_behind (x ∷ xs) ys = ap (put_by before x) (arranged_behind xs ys)

  put_all_rises : (xs ys : List X) → Rises before (put_all xs (arranged_by before ys))
  put_all_rises xs ys =
      subst (Rises before) (arranged_behind xs ys) (arranged_rises before o (xs ++ ys))

  put_all_more : (xs ys : List X) → AllByRecursion P xs → Fewer (put_all xs ys) ys
  put_all_more [] ys all = same ys
  put_all_more (x ∷ xs) ys all =
      put_more x all.0 (put_all xs ys) ys (put_all_more xs ys all.1)

  put_all_same : (xs ys few : List X)
      → AllByRecursion (λ x. (c : X) → P c → before c x ≡ false) xs
      → Fewer (arranged_by before ys) few
      → SameTo (length xs) (put_all xs (arranged_by before ys)) (put_all xs few)
  put_all_same [] ys few low s = s
  put_all_same (x ∷ xs) ys few low s =
      put_same x low.0 (length xs) (put_all xs (arranged_by before ys)) (put_all xs few)
      (put_all_rises xs ys) (put_all_same xs ys few low.1 s)

module _ {X : Type 0} (before : X → X → Bool) (o : IsStrictWeakOrder before) where
  pub never_itself : (x : X) → before x x ≡ false
  never_itself x = by (before x x) refl
    where
      by : (b : Bool) → before x x ≡ b → before x x ≡ false
      by true e = o.one_way x x e
      by false e = e

  -- none of the items from m on comes before m
  none_below : (m x : X) (xs : List X) → before x m ≡ false → Rises before (x ∷ xs)
      → AllByRecursion (λ c. before c m ≡ false) (x ∷ xs)
  none_below m x [] high r = (high, tt)
  none_below m x (y ∷ xs) high r = (high, none_below m y xs (o.chain y x m r.0 high) r.1)

  -- m comes before none of those in front of it
  not_below : (m x : X) (xs rest : List X) → Rises before (x ∷ xs ++ m ∷ rest)
      → before m x ≡ false
  not_below m x [] rest r = r.0
  not_below m x (y ∷ xs) rest r = o.chain m y x (not_below m y xs rest r.1) r.0

  all_low : (m : X) (xs rest : List X) → Rises before (xs ++ m ∷ rest)
      → AllByRecursion (λ x. (c : X) → before c m ≡ false → before c x ≡ false) xs
  all_low m [] rest r = tt
  all_low m (x ∷ xs) rest r = (
    λ c high. o.chain c m x high (not_below m x xs rest r),
    all_low m xs rest (tail_rises before x (xs ++ m ∷ rest) r),
  )

  rises_from : (m : X) (xs rest : List X) → Rises before (xs ++ m ∷ rest)
      → Rises before (m ∷ rest)
  rises_from m [] rest r = r
  rises_from m (x ∷ xs) rest r = rises_from m xs rest (tail_rises before x (xs ++ m ∷ rest) r)

  -- without the items from m on
  cut_from : (m : X) (xs rest more : List X) → Rises before (xs ++ m ∷ rest)
      → take (length xs) (arranged_by before (xs ++ more))
      ≡ take (length xs) (arranged_by before ((xs ++ m ∷ rest) ++ more))
  cut_from m xs rest more r =
      let P : X → Type 0 = λ c. before c m ≡ false in
      let ys = arranged_by before more in
      let all = arranged_by before ((m ∷ rest) ++ more) in
      let high = none_below m m rest (never_itself m) (rises_from m xs rest r) in
      ap (take (length xs)) (arranged_behind before o P xs more)
      ∙ sym (same_front before o P (length xs) (put_all before o P xs all) (put_all before o P xs ys)
      (put_all_same before o P xs ((m ∷ rest) ++ more) ys (all_low m xs rest r)
      (subst (λ l. Fewer before o P l ys) (sym (arranged_behind before o P (m ∷ rest) more))
      (put_all_more before o P (m ∷ rest) ys high))))
      ∙ ap (take (length xs)) (sym (arranged_behind before o P xs ((m ∷ rest) ++ more)))
      ∙ ap (λ l. take (length xs) (arranged_by before l)) (sym (append_assoc xs (m ∷ rest) more))

  as_many : (n : ℕ) (xs : List X) (m : X) (rest : List X) → drop n xs ≡ m ∷ rest
      → length (take n xs) ≡ n
  as_many zero xs m rest e = refl
  as_many (suc n) [] m rest e = absurd cc
  as_many (suc n) (x ∷ xs) m rest e = ap suc (as_many n xs m rest e)

  cut_at : (n : ℕ) (xs more rest : List X) → Rises before xs → drop n xs ≡ rest
      → take n (arranged_by before (take n xs ++ more)) ≡ take n (arranged_by before (xs ++ more))
  cut_at n xs more [] r e =
      ap (λ l. take n (arranged_by before (l ++ more)))
      (sym (append-nil (take n xs)) ∙ ap (λ l. take n xs ++ l) (sym e) ∙ take-append-drop n xs)
  cut_at n xs more (m ∷ rest) r e =
      let whole : xs ≡ take n xs ++ m ∷ rest =
      sym (take-append-drop n xs) ∙ ap (λ l. take n xs ++ l) e in
      ap (λ k. take k (arranged_by before (take n xs ++ more))) (sym (as_many n xs m rest e))
      ∙ cut_from m (take n xs) rest more (subst (Rises before) whole r)
      ∙ ap (λ k. take k (arranged_by before ((take n xs ++ m ∷ rest) ++ more)))
      (as_many n xs m rest e)
      ∙ ap (λ l. take n (arranged_by before (l ++ more))) (sym whole)

  -- arranged items may stand for those that were arranged
  arranged_again : (xs ys more : List X) → IsArrangement before xs ys
      → arranged_by before (ys ++ more) ≡ arranged_by before (xs ++ more)
  arranged_again xs ys more is =
      let all = is_arranged before o (ys ++ more) in
      one_arrangement before o (xs ++ more) (arranged_by before (ys ++ more))
      (arranged_by before (xs ++ more))
      (record {
        sorted = all.sorted;
        stable = λ w. all.stable w ∙ filter-append (ties before w) ys more
            ∙ ap (λ l. l ++ filter (ties before w) more) (is.stable w)
            ∙ sym (filter-append (ties before w) xs more);
      })
      (is_arranged before o (xs ++ more))

  -- The first n of an arrangement are all of it that the first n of a later one depend on.
  pub front_stays : (n : ℕ) (xs ys more : List X) → IsArrangement before xs ys
      → take n (arranged_by before (take n ys ++ more)) ≡ take n (arranged_by before (xs ++ more))
  front_stays n xs ys more is =
      let whole : ys ≡ arranged_by before xs =
      one_arrangement before o xs ys (arranged_by before xs) is (is_arranged before o xs) in
      cut_at n ys more (drop n ys) (subst (Rises before) (sym whole) (arranged_rises before o xs))
      refl
      ∙ ap (take n) (arranged_again xs ys more is)

  -- ---- items in front of which all of some stand

  module _ (m : X) where
    abbrev High : X → Type 0
    High c = before c m ≡ false

    -- what comes no later than m comes no later than what doesn't come before m
    under : (x : X) → before m x ≡ false → (c : X) → High c → before c x ≡ false
    under x low c high = o.chain c m x high low

    thinner : (xs more : List X)
        → Fewer before o High (arranged_by before (xs ++ more))
        (arranged_by before (filter (λ x. before x m) xs ++ more))
    thinner [] more = same before o High (arranged_by before more)
    thinner (x ∷ xs) more = by (before x m) refl (thinner xs more)
      where
        all : List X
        all = arranged_by before (xs ++ more)

        few : List X
        few = arranged_by before (filter (λ x. before x m) xs ++ more)

        by : (b : Bool) → before x m ≡ b → Fewer before o High all few
            → Fewer before o High (put_by before x all)
            (arranged_by before (cond b (x ∷ filter (λ x. before x m) xs)
            (filter (λ x. before x m) xs) ++ more))
        by true e rest =
            one_less before o High 0 (put_by before x all) (put_by before x few)
            (put_same before o High x (under x (o.one_way x m e)) 0 all few
            (arranged_rises before o (xs ++ more)) rest)
        by false e rest = put_more before o High x e all few rest

    all_under : (xs : List X) → AllByRecursion (λ x. before m x ≡ false) xs
        → AllByRecursion (λ x. (c : X) → High c → before c x ≡ false) xs
    all_under [] low = tt
    all_under (x ∷ xs) low = (under x low.0, all_under xs low.1)

    -- Where all items in front come no later than m, those behind them that don't come before m
    -- never come to stand among as many as are in front.
    pub thin_front : (xs behind more : List X) → AllByRecursion (λ x. before m x ≡ false) xs
        → take (length xs) (arranged_by before ((xs ++ filter (λ x. before x m) behind) ++ more))
        ≡ take (length xs) (arranged_by before ((xs ++ behind) ++ more))
    thin_front xs behind more low =
        let kept = filter (λ x. before x m) behind in
        let few = arranged_by before (kept ++ more) in
        let all = arranged_by before (behind ++ more) in
        ap (λ l. take (length xs) (arranged_by before l)) (append_assoc xs kept more)
        ∙ ap (take (length xs)) (arranged_behind before o High xs (kept ++ more))
        ∙ sym (same_front before o High (length xs) (put_all before o High xs all)
        (put_all before o High xs few)
        (put_all_same before o High xs (behind ++ more) few (all_under xs low)
        (thinner behind more)))
        ∙ ap (take (length xs)) (sym (arranged_behind before o High xs (behind ++ more)))
        ∙ ap (λ l. take (length xs) (arranged_by before l)) (sym (append_assoc xs behind more))
