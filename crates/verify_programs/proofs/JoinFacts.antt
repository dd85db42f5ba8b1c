-- Joins of two lists, from their first items on, and of turned lists.
use Rattle.std.proofs.Common.{◌≡◌, ◌≢◌, ℕ, suc, ◌+◌, ◌<◌, List, [], ◌∷◌, ◌++◌, Option, Some, None}
use Rattle.std.proofs.Common.{length, get_or, set, take, drop, reverse, refl, sym, ap, ◌∙◌, arith}
use Rattle.std.proofs.Common.{append_assoc, add-one, drop-cons, ⊎_elim}
use Rattle.std.proofs.lemmas.Bool.{cases_eq}
use Rattle.std.proofs.lemmas.Grind.{common_steps, reverse_onto}
use Rattle.std.proofs.lemmas.List.{length-reverse, take_more_set, drop-set-lt}
use Rattle.query_rows.specs.Shape.{joined}
use Rattle.query_rows.specs.declared.shape.Shape.{Shape}
use Rattle.verify_programs.specs.Joining.{cons_if, joined_list, joined_slots, joined_stack}
use Rattle.verify_programs.specs.Joining.{both_if, joined_state}

abbrev pub prepend : {X : Type 0} → List X → Option (List X) → Option (List X)
prepend zs None = None
prepend zs (Some xs) = Some (zs ++ xs)

module _ {X : Type 0} (f : X → X → Option X) where
  cut : (xs ys : List X) (k : ℕ) (d e : X) → k < length xs → k < length ys
      → joined_list f (drop k xs) (drop k ys)
      ≡ cons_if (f (get_or xs k d) (get_or ys k e)) (joined_list f (drop (k + 1) xs) (drop (k + 1) ys))
  cut xs ys k d e h i = rw (add-one, drop-cons xs k d h, drop-cons ys k e i) refl

  pub join_dead : (xs ys zs : List X) (k : ℕ) (d e : X) → k < length xs → k < length ys
      → f (get_or xs k d) (get_or ys k e) ≡ None
      → prepend zs (joined_list f (drop k xs) (drop k ys)) ≡ None
  join_dead xs ys zs k d e h i n =
      ap (prepend zs) (cut xs ys k d e h i
      ∙ ap (λ o. cons_if o (joined_list f (drop (k + 1) xs) (drop (k + 1) ys))) n)

  on_one : (zs : List X) (z : X) (o : Option (List X))
      → prepend zs (cons_if (Some z) o) ≡ prepend (zs ++ z ∷ []) o
  on_one zs z None = refl
  on_one zs z (Some xs) = ap Some (sym (append_assoc zs (z ∷ []) xs))

  join_more : (xs ys zs : List X) (z : X) (k : ℕ) (d e : X) → k < length xs → k < length ys
      → f (get_or xs k d) (get_or ys k e) ≡ Some z
      → prepend zs (joined_list f (drop k xs) (drop k ys))
      ≡ prepend (zs ++ z ∷ []) (joined_list f (drop (k + 1) xs) (drop (k + 1) ys))
  join_more xs ys zs z k d e h i n =
      ap (prepend zs) (cut xs ys k d e h i
      ∙ ap (λ o. cons_if o (joined_list f (drop (k + 1) xs) (drop (k + 1) ys))) n)
      ∙ on_one zs z (joined_list f (drop (k + 1) xs) (drop (k + 1) ys))

  -- an item more in place
  pub join_set : (xs ys : List X) (z : X) (k : ℕ) (d e : X) → k < length xs → k < length ys
      → f (get_or xs k d) (get_or ys k e) ≡ Some z
      → prepend (take k xs) (joined_list f (drop k xs) (drop k ys))
      ≡ prepend (take (k + 1) (set xs k z))
      (joined_list f (drop (k + 1) (set xs k z)) (drop (k + 1) ys))
  join_set xs ys z k d e h i n =
      join_more xs ys (take k xs) z k d e h i n
      ∙ (ap (λ l. prepend l (joined_list f (drop (k + 1) xs) (drop (k + 1) ys)))
      (sym (take_more_set xs k z h))
      ∙ ap (λ l. prepend (take (k + 1) (set xs k z)) (joined_list f l (drop (k + 1) ys)))
      (sym (drop-set-lt (k + 1) xs k z (omega arith))))

  pub join_all : (xs ys : List X) (k : ℕ) → k ≡ length ys → length xs ≡ length ys
      → prepend (take k xs) (joined_list f (drop k xs) (drop k ys)) ≡ Some xs
  join_all xs ys k e h =
      let a : drop k xs ≡ [] = rw e (rw (← h) (grind (arith, common_steps))) in
      let b : drop k ys ≡ [] = rw e (grind (arith, common_steps)) in
      let c : take k xs ≡ xs = rw e (rw (← h) (grind (arith, common_steps))) in
      rw (a, b, c) (grind (arith, common_steps))

  pub join_uneven : (xs ys : List X) → length xs ≢ length ys → joined_list f xs ys ≡ None
  join_uneven [] [] n = absurd (n refl)
  join_uneven [] (y ∷ ys) n = refl
  join_uneven (x ∷ xs) [] n = refl
  join_uneven (x ∷ xs) (y ∷ ys) n =
      none_cons (f x y) (joined_list f xs ys) (join_uneven xs ys (λ e. n (ap suc e)))
    where
      none_cons : (o : Option X) (p : Option (List X)) → p ≡ None → cons_if o p ≡ None
      none_cons None p e = refl
      none_cons (Some x) p e = ap (cons_if (Some x)) e

  pub join_start : (xs ys : List X)
      → joined_list f xs ys ≡ prepend (take 0 xs) (joined_list f (drop 0 xs) (drop 0 ys))
  join_start xs ys = none_kept (joined_list f xs ys)
    where
      none_kept : (o : Option (List X)) → o ≡ prepend [] o
      none_kept None = refl
      none_kept (Some xs) = refl

  -- from the other end
  abbrev pub turned : Option (List X) → Option (List X)
  turned None = None
  turned (Some xs) = Some (reverse xs)

  abbrev snoc : Option (List X) → Option X → Option (List X)
  snoc None z = None
  snoc (Some xs) None = None
  snoc (Some xs) (Some z) = Some (xs ++ z ∷ [])

  snoc_cons : (o : Option X) (p : Option (List X)) (z : Option X)
      → cons_if o (snoc p z) ≡ snoc (cons_if o p) z
  snoc_cons None p z = refl
  snoc_cons (Some x) None z = refl
  snoc_cons (Some x) (Some xs) None = refl
  snoc_cons (Some x) (Some xs) (Some z) = refl

  join_snoc : (xs ys : List X) (x y : X) → length xs ≡ length ys
      → joined_list f (xs ++ x ∷ []) (ys ++ y ∷ []) ≡ snoc (joined_list f xs ys) (f x y)
  join_snoc [] [] x y e = one (f x y)
    where
      one : (o : Option X) → cons_if o (Some []) ≡ snoc (Some []) o
      one None = refl
      one (Some z) = refl
  join_snoc [] (v ∷ ys) x y e = absurd (omega (arith, e))
  join_snoc (u ∷ xs) [] x y e = absurd (omega (arith, e))
  join_snoc (u ∷ xs) (v ∷ ys) x y e =
      ap (cons_if (f u v)) (join_snoc xs ys x y (omega (arith, e)))
      ∙ snoc_cons (f u v) (joined_list f xs ys) (f x y)

  turned_cons : (z : Option X) (o : Option (List X)) → snoc (turned o) z ≡ turned (cons_if z o)
  turned_cons None None = refl
  turned_cons None (Some xs) = refl
  turned_cons (Some z) None = refl
  turned_cons (Some z) (Some xs) = ap Some (sym (reverse_onto xs z []))

  turned_even : (xs ys : List X) → length xs ≡ length ys
      → joined_list f (reverse xs) (reverse ys) ≡ turned (joined_list f xs ys)
  turned_even [] [] e = refl
  turned_even [] (v ∷ ys) e = absurd (omega (arith, e))
  turned_even (u ∷ xs) [] e = absurd (omega (arith, e))
  turned_even (u ∷ xs) (v ∷ ys) e =
      let even : length xs ≡ length ys = omega (arith, e) in
      let back : length (reverse xs) ≡ length (reverse ys) =
      length-reverse xs ∙ (even ∙ sym (length-reverse ys)) in
      ap (joined_list f (reverse (u ∷ xs))) (reverse_onto ys v [])
      ∙ (ap (λ l. joined_list f l (reverse ys ++ v ∷ [])) (reverse_onto xs u [])
      ∙ (join_snoc (reverse xs) (reverse ys) u v back
      ∙ (ap (λ o. snoc o (f u v)) (turned_even xs ys even)
      ∙ turned_cons (f u v) (joined_list f xs ys))))

  pub join_turned : (xs ys : List X)
      → joined_list f (reverse xs) (reverse ys) ≡ turned (joined_list f xs ys)
  join_turned xs ys =
      ⊎_elim (λ e. turned_even xs ys e)
      (λ n. join_uneven (reverse xs) (reverse ys)
      (λ e. n (sym (length-reverse xs) ∙ (e ∙ length-reverse ys)))
      ∙ ap turned (sym (join_uneven xs ys n))) (cases_eq (length xs) (length ys))

-- of states, of which the stacks are kept with their tops last

pub states_apart : (xs ys : List Shape) (s t : List (Option Shape)) → joined_stack xs ys ≡ None
    → joined_state (record { stack = reverse xs; slots = s }) (record { stack = reverse ys; slots = t })
    ≡ None
states_apart xs ys s t e =
    ap (λ o. both_if o (joined_slots s t)) (join_turned joined xs ys ∙ ap (turned joined) e)

pub states_joined : (xs ys zs : List Shape) (s t u : List (Option Shape))
    → joined_stack xs ys ≡ Some zs → joined_slots s t ≡ Some u
    → joined_state (record { stack = reverse xs; slots = s }) (record { stack = reverse ys; slots = t })
    ≡ Some (record { stack = reverse zs; slots = u })
states_joined xs ys zs s t u e h =
    ap (λ o. both_if o (joined_slots s t)) (join_turned joined xs ys ∙ ap (turned joined) e)
    ∙ ap (both_if (Some (reverse zs))) h
