-- Counts that are added up from the number of an account to those above it.
use Rattle.std.proofs.Common.{◌≡◌, ◌+ℤ◌, ◌<◌, ◌^◌, ◌==◌, ◌&&◌, ◌||◌, ℤ, pos, ℕ, List, Bool, true, false}
use Rattle.std.proofs.Common.{cond, [], ◌∷◌, length, Option, Some, None, MatchOption, refl, sym, ap}
use Rattle.std.proofs.Common.{subst, ◌∙◌, ◌⊎◌, inl, inr, ⊎_elim, reverse, arith, length-append, ◌≤◌}
use Rattle.std.specs.Int.RustNames.{unsigned_abs}
use Rattle.std.specs.Option.{option_map_or}
use Rattle.std.specs.Str.{bytes_eq}
use Rattle.std.proofs.lemmas.Bool.{eq-eqb, eqb-true}
use Rattle.std.proofs.lemmas.List.{reverse-reverse}
use Rattle.bean_pad.specs.Held.{is_within}
use Rattle.bean_pad.specs.Counts.{Added, count_at}
use Rattle.bean_pad.specs.Table.{HasNoOthers}
use Rattle.bean_pad.specs.Tree.{AreAbove, Grows, components, number_by, number_of, parts}
use Rattle.bean_pad.specs.declared.tree.Below.{Below}
use Rattle.bean_pad.proofs.TreeFacts.{new_or_old, no_root, one, some, stays}
use Rattle.bean_pad.proofs.WithinFacts.{all_same, is_all, is_front, name_above, no_front, no_parts}
use Rattle.bean_pad.proofs.WithinFacts.{one_part, same_all, same_front, turned, within_front}

-- the count of an account in a currency
abbrev pub entry : List Below → Added → List ℕ → List ℕ → ℤ
entry nodes counts account currency =
    option_map_or (λ number. count_at counts number currency) (number_of nodes account) (pos 0)

-- ---- more accounts

pub same_entry : (old new : List Below) (counts : Added) → Grows old new → AreAbove new
    → HasNoOthers old counts → (a c : List ℕ) → entry new counts a c ≡ entry old counts a c
same_entry old new counts grows above others a c = by (number_of old a) (number_of new a) refl refl
  where
    at : Option ℕ → ℤ
    at o = option_map_or (λ number. count_at counts number c) o (pos 0)

    larger : (n : ℕ) → number_of old a ≡ None → number_of new a ≡ Some n → at (Some n) ≡ at None
    larger n e f =
        ⊎_elim (λ is. cc) (λ l. others n c l)
        (new_or_old old grows.0 (subst AreAbove grows.1 above) (components a) n
        (ap (λ nodes. number_of nodes a) (sym grows.1) ∙ f))

    by : (o p : Option ℕ) → number_of old a ≡ o → number_of new a ≡ p
        → at (number_of new a) ≡ at (number_of old a)
    by (Some n) p e f =
        ap at
        (ap (λ nodes. number_of nodes a) grows.1 ∙ stays old grows.0 (components a) n e ∙ sym e)
    by None None e f = ap at (f ∙ sym e)
    by None (Some n) e f = ap at f ∙ larger n e f ∙ ap at (sym e)

-- ---- an account is counted where its components are those of the number

no_truth : false ≡ true → ⊥
no_truth e = cc

no_some : {A : Type 0} (x : A) → None ≡ Some x → ⊥
no_some x e = cc

-- the accounts of a number are those of its components
numbered : (nodes : List Below) (a : List ℕ) (names : List (List ℕ)) (n : ℕ)
    → number_by nodes names ≡ Some n → (o : Option ℕ) → number_of nodes a ≡ o
    → MatchOption o (is_all (parts a) (reverse names) ≡ false)
    (λ m. (n == m) ≡ is_all (parts a) (reverse names))
numbered nodes a names n h o e = by o e (is_all (parts a) (reverse names)) refl
  where
    equal : is_all (parts a) (reverse names) ≡ true → number_of nodes a ≡ Some n
    equal t =
        ap (λ l. number_by nodes (reverse l)) (all_same (parts a) (reverse names) t)
        ∙ ap (number_by nodes) (reverse-reverse names)
        ∙ h

    other : (m : ℕ) → number_of nodes a ≡ Some m → is_all (parts a) (reverse names) ≡ false
        → (b : Bool) → (n == m) ≡ b → (n == m) ≡ false
    other m e f false is = is
    other m e f true is =
        let same : components a ≡ names =
        one nodes (components a) names n (e ∙ ap Some (sym (eqb-true n m is))) h in
        let all : parts a ≡ reverse names = sym (reverse-reverse (parts a)) ∙ ap reverse same in
        absurd (no_truth (sym f ∙ ap (is_all (parts a)) (sym all) ∙ same_all (parts a)))

    by : (o : Option ℕ) → number_of nodes a ≡ o → (b : Bool)
        → is_all (parts a) (reverse names) ≡ b
        → MatchOption o (is_all (parts a) (reverse names) ≡ false)
        (λ m. (n == m) ≡ is_all (parts a) (reverse names))
    by None e true t = absurd (no_some n (sym e ∙ equal t))
    by None e false t = t
    by (Some m) e true t =
        eq-eqb n m (sym (some 0 m n (sym e ∙ equal t))) ∙ sym t
    by (Some m) e false t = other m e t (n == m) refl ∙ sym t

-- what a count comes to by an addition under a number
pub counted : (nodes : List Below) (old new : Added) (names : List (List ℕ)) (n : ℕ)
    (currency : List ℕ) (count : ℤ) → number_by nodes names ≡ Some n
    → ((m : ℕ) (c : List ℕ) → count_at new m c
    ≡ cond ((n == m) && bytes_eq currency c) (count_at old m c +ℤ count) (count_at old m c))
    → (a c : List ℕ) → entry nodes new a c
    ≡ cond (is_all (parts a) (reverse names) && bytes_eq currency c)
    (entry nodes old a c +ℤ count) (entry nodes old a c)
counted nodes old new names n currency count h added a c =
    by (number_of nodes a) (numbered nodes a names n h (number_of nodes a) refl)
  where
    by : (o : Option ℕ)
        → MatchOption o (is_all (parts a) (reverse names) ≡ false)
        (λ m. (n == m) ≡ is_all (parts a) (reverse names))
        → option_map_or (λ number. count_at new number c) o (pos 0)
        ≡ cond (is_all (parts a) (reverse names) && bytes_eq currency c)
        (option_map_or (λ number. count_at old number c) o (pos 0) +ℤ count)
        (option_map_or (λ number. count_at old number c) o (pos 0))
    by None f =
        ap (λ e. cond (e && bytes_eq currency c) (pos 0 +ℤ count) (pos 0)) (sym f)
    by (Some m) f =
        added m c
        ∙ ap (λ e. cond (e && bytes_eq currency c) (count_at old m c +ℤ count) (count_at old m c)) f

-- ---- on the way up

-- What was added on the way up to the account of a number: what is left completes it, and there
-- nothing was added yet.
pub record IsAdding (nodes : List Below) (first now : Added) (account currency : List ℕ) (count : ℤ)
    (number : ℕ) : Type 0 where
  pub names : List (List ℕ)
  pub at : number_by nodes names ≡ Some number
  pub named : (names ≡ []) ⊎ ((p : List ℕ) × (components p ≡ names))
  pub left : (a c : List ℕ)
      → cond (is_front (parts a) (reverse names) && bytes_eq currency c)
      (entry nodes now a c +ℤ count) (entry nodes now a c)
      ≡ cond (is_within a account && bytes_eq currency c)
      (entry nodes first a c +ℤ count) (entry nodes first a c)
  pub untouched : (a c : List ℕ) → is_front (parts a) (reverse names) ≡ true
      → entry nodes now a c ≡ entry nodes first a c

pub begun : (nodes : List Below) (counts : Added) (account currency : List ℕ) (count : ℤ)
    (number : ℕ) → number_of nodes account ≡ Some number
    → IsAdding nodes counts counts account currency count number
begun nodes counts account currency count number h = record {
  names = components account;
  at = h;
  named = inr (account, refl);
  left = λ a c.
      ap (λ b. cond (b && bytes_eq currency c) (entry nodes counts a c +ℤ count)
      (entry nodes counts a c))
      (ap (is_front (parts a)) (reverse-reverse (parts account)) ∙ sym (within_front a account));
  untouched = λ a c h. refl;
}

-- nothing is left above a root
pub ended : (nodes : List Below) (first now : Added) (account currency : List ℕ) (count : ℤ)
    → IsAdding nodes first now account currency count 0 → (a c : List ℕ)
    → entry nodes now a c
    ≡ cond (is_within a account && bytes_eq currency c)
    (entry nodes first a c +ℤ count) (entry nodes first a c)
ended nodes first now account currency count s a c = by s.names s.at (s.left a c)
  where
    by : (names : List (List ℕ)) → number_by nodes names ≡ Some 0
        → cond (is_front (parts a) (reverse names) && bytes_eq currency c)
        (entry nodes now a c +ℤ count) (entry nodes now a c)
        ≡ cond (is_within a account && bytes_eq currency c)
        (entry nodes first a c +ℤ count) (entry nodes first a c)
        → entry nodes now a c
        ≡ cond (is_within a account && bytes_eq currency c)
        (entry nodes first a c +ℤ count) (entry nodes first a c)
    by [] h e =
        sym (ap (λ b. cond (b && bytes_eq currency c) (entry nodes now a c +ℤ count)
        (entry nodes now a c)) (no_parts a))
        ∙ e
    by (n ∷ ns) h e = absurd (no_root nodes n ns h)

-- the count under the number is far from the machine's bounds where those of all accounts were
pub far : (nodes : List Below) (first now : Added) (account currency : List ℕ) (count : ℤ)
    (number : ℕ) → IsAdding nodes first now account currency count number → 0 < number
    → ((a c : List ℕ) → unsigned_abs (entry nodes first a c) < 2 ^ 126)
    → unsigned_abs (count_at now number currency) < 2 ^ 126
far nodes first now account currency count number s some_number h = by s.named
  where
    by : (s.names ≡ []) ⊎ ((p : List ℕ) × (components p ≡ s.names))
        → unsigned_abs (count_at now number currency) < 2 ^ 126
    by (inl e) =
        let zero = some 0 0 number (ap (number_by nodes) (sym e) ∙ s.at) in
        absurd (omega (arith, zero, some_number))
    by (inr n) =
        let p = n.0 in
        let whole : parts p ≡ reverse s.names = sym (reverse-reverse (parts p)) ∙ ap reverse n.1 in
        let front : is_front (parts p) (reverse s.names) ≡ true =
        ap (is_front (parts p)) (sym whole) ∙ same_front (parts p) in
        let same : count_at now number currency ≡ entry nodes first p currency =
        ap (λ o. option_map_or (λ n. count_at now n currency) o (pos 0))
        (sym (ap (number_by nodes) n.1 ∙ s.at))
        ∙ s.untouched p currency front in
        subst (λ z. unsigned_abs z < 2 ^ 126) (sym same) (h p currency)

step_by : (e f k : Bool) (x y n : ℤ) → (e ≡ true → f ≡ false) → y ≡ cond (e && k) (x +ℤ n) x
    → cond (f && k) (y +ℤ n) y ≡ cond ((e || f) && k) (x +ℤ n) x
step_by true f k x y n h p = ap (λ f. cond (f && k) (y +ℤ n) y) (h refl) ∙ p
step_by false f k x y n h p = ap (λ y. cond (f && k) (y +ℤ n) y) p

untouched_by : (e f k : Bool) (x y n : ℤ) → (e ≡ true → f ≡ false) → f ≡ true
    → y ≡ cond (e && k) (x +ℤ n) x → y ≡ x
untouched_by true f k x y n h t p = absurd (no (sym t ∙ h refl))
  where
    no : true ≡ false → ⊥
    no e = cc
untouched_by false f k x y n h t p = p

or_true : (e f : Bool) → f ≡ true → (e || f) ≡ true
or_true true f h = refl
or_true false f h = h

-- from an account to the one above it
pub climbed : (nodes : List Below) (first now next : Added) (account currency : List ℕ) (count : ℤ)
    (number above : ℕ) → IsAdding nodes first now account currency count number → 0 < number
    → ((m : ℕ) (c : List ℕ) → count_at next m c
    ≡ cond ((number == m) && bytes_eq currency c) (count_at now m c +ℤ count) (count_at now m c))
    → ((c : List ℕ) (cs : List (List ℕ)) → number_by nodes (c ∷ cs) ≡ Some number
    → number_by nodes cs ≡ Some above)
    → IsAdding nodes first next account currency count above
climbed nodes first now next account currency count number above s some_number added up =
    by s.names s.at s.named s.left s.untouched
  where
    named_above : (d : List ℕ) (ds : List (List ℕ)) (p : List ℕ) → components p ≡ d ∷ ds
        → (ds ≡ []) ⊎ ((q : List ℕ) × (components q ≡ ds))
    named_above d [] p h = inl refl
    named_above d (e ∷ es) p h = inr (name_above p d e es h)

    named_by : (d : List ℕ) (ds : List (List ℕ))
        → (d ∷ ds ≡ []) ⊎ ((p : List ℕ) × (components p ≡ d ∷ ds))
        → (ds ≡ []) ⊎ ((q : List ℕ) × (components q ≡ ds))
    named_by d ds (inl e) = cc
    named_by d ds (inr p) = named_above d ds p.0 p.1

    by : (names : List (List ℕ)) → number_by nodes names ≡ Some number
        → (names ≡ []) ⊎ ((p : List ℕ) × (components p ≡ names))
        → ((a c : List ℕ)
        → cond (is_front (parts a) (reverse names) && bytes_eq currency c)
        (entry nodes now a c +ℤ count) (entry nodes now a c)
        ≡ cond (is_within a account && bytes_eq currency c)
        (entry nodes first a c +ℤ count) (entry nodes first a c))
        → ((a c : List ℕ) → is_front (parts a) (reverse names) ≡ true
        → entry nodes now a c ≡ entry nodes first a c)
        → IsAdding nodes first next account currency count above
    by [] h named left untouched =
        let zero = some 0 0 number h in absurd (omega (arith, zero, some_number))
    by (d ∷ ds) h named left untouched =
        let all = λ (a : List ℕ). is_all (parts a) (reverse (d ∷ ds)) in
        let front = λ (a : List ℕ). is_front (parts a) (reverse ds) in
        let not_both : (a : List ℕ) → all a ≡ true → front a ≡ false = λ a e.
        no_front (parts a) (reverse ds) d (ap (is_all (parts a)) (sym (turned d ds)) ∙ e) in
        let either : (a : List ℕ) → is_front (parts a) (reverse (d ∷ ds)) ≡ all a || front a = λ a.
        ap (is_front (parts a)) (turned d ds) ∙ one_part (parts a) (reverse ds) d
        ∙ ap (λ l. is_all (parts a) l || front a) (sym (turned d ds)) in
        let done = counted nodes now next (d ∷ ds) number currency count h added in record {
          names = ds;
          at = up d ds h;
          named = named_by d ds named;
          left = λ a c.
              step_by (all a) (front a) (bytes_eq currency c) (entry nodes now a c)
              (entry nodes next a c) count (not_both a) (done a c)
              ∙ ap (λ b. cond (b && bytes_eq currency c) (entry nodes now a c +ℤ count)
              (entry nodes now a c)) (sym (either a))
              ∙ left a c;
          untouched = λ a c t.
              untouched_by (all a) (front a) (bytes_eq currency c) (entry nodes now a c)
              (entry nodes next a c) count (not_both a) t (done a c)
              ∙ untouched a c (either a ∙ or_true (all a) (front a) t);
        }

-- nothing is added under other numbers than those of accounts
pub no_others : (nodes : List Below) (now next : Added) (number : ℕ) (currency : List ℕ) (count : ℤ)
    → number ≤ length nodes → HasNoOthers nodes now
    → ((m : ℕ) (c : List ℕ) → count_at next m c
    ≡ cond ((number == m) && bytes_eq currency c) (count_at now m c +ℤ count) (count_at now m c))
    → HasNoOthers nodes next
no_others nodes now next number currency count h others added = λ m c l.
    added m c
    ∙ ap (λ b. cond (b && bytes_eq currency c) (count_at now m c +ℤ count) (count_at now m c))
    (apart m l (number == m) refl)
    ∙ others m c l
  where
    apart : (m : ℕ) → length nodes < m → (b : Bool) → (number == m) ≡ b → (number == m) ≡ false
    apart m l true e = let s = eqb-true number m e in absurd (omega (arith, h, l, s))
    apart m l false e = e

-- nor where there are more accounts
pub fewer_others : (old new : List Below) (counts : Added) → Grows old new → HasNoOthers old counts
    → HasNoOthers new counts
fewer_others old new counts grows others = λ m c l.
    let n = ap length grows.1 ∙ length-append old grows.0 in others m c (omega (arith, l, n))
