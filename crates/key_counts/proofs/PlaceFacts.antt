-- Where a key stands, and keys that come and go.
use Rattle.std.proofs.Common.{◌≡◌, ◌+◌, ◌<◌, ℕ, zero, suc, ℤ, Bool, true, false, cond, not, nat_lt}
use Rattle.std.proofs.Common.{List, [], ◌∷◌, ◌++◌, length, take, drop, remove, slice_get, position}
use Rattle.std.proofs.Common.{Option, Some, None, IfSome, IfNone, unwrap_or, is_some, refl, sym, ◌∙◌, ap, subst}
use Rattle.std.proofs.Common.{arith, lt-ltb, slice_set}
use Rattle.std.specs.Cmp.{IsEquivalence}
use Rattle.std.specs.List.{AllByRecursion, IsDistinct, list_any, position_or_len}
use Rattle.std.specs.Map.{keys_of, values_of, lookup}
use Rattle.std.proofs.lemmas.Map.Made.{is_some-lookup}
use Rattle.std.proofs.lemmas.Map.Entries.{length-keys_of}
use Rattle.indexmap.specs.IndexMap.{set_value_at}
use Rattle.key_counts.specs.Kept.{ArePlaces}
use Rattle.indexmap.proofs.MapLemmas.{absent_before, absent_from_lookup, index-absent, some_index, value_index}

pub is_none : {A : Type 0} (x : A) → Some x ≡ None → ⊥
is_none x e = cc

pub same_some : {A : Type 0} (x y : A) → Some x ≡ Some y → x ≡ y
same_some x y e = ap (λ o. unwrap_or o x) e

-- no key in a front is that which is sought
abbrev pub IsNoneOf : {K : Type 0} → (K → Bool) → List (K × ℤ) → Type 0
IsNoneOf {K} t es = AllByRecursion {X = K × ℤ} (λ e. t e.0 ≡ false) es

module _ {K : Type 0} (t : K → Bool) where
  behind_front : (es : List (K × ℤ)) (i : ℕ) (e : K × ℤ) → IsNoneOf t (take i es)
      → slice_get es i ≡ Some e → t e.0 ≡ true → position_or_len t (keys_of es) ≡ i
  behind_front [] i e h at s = absurd (is_none e (sym at))
  behind_front (x ∷ es) zero e h at s =
      ap (λ b. cond (not b) (1 + position_or_len t (keys_of es)) 0)
      (ap (λ (y : K × ℤ). t y.0) (same_some x e at) ∙ s)
  behind_front (x ∷ es) (suc i) e h at s =
      ap (λ b. cond (not b) (1 + position_or_len t (keys_of es)) 0) h.0
      ∙ ap (λ n. 1 + n) (behind_front es i e h.1 at s) ∙ omega arith

  within : (es : List (K × ℤ)) (i : ℕ) (e : K × ℤ) → slice_get es i ≡ Some e → i < length es
  within [] i e at = absurd (is_none e (sym at))
  within (x ∷ es) zero e at = omega arith
  within (x ∷ es) (suc i) e at = let rest = within es i e at in omega (arith, rest)

  pub place_found : (es : List (K × ℤ)) (i : ℕ) (e : K × ℤ) → IsNoneOf t (take i es)
      → slice_get es i ≡ Some e → t e.0 ≡ true → position t (keys_of es) ≡ Some i
  place_found es i e h at s =
      let inside : i < length (keys_of es) = omega (arith, within es i e at, length-keys_of es) in
      ap (λ n. cond (nat_lt n (length (keys_of es))) (Some n) None) (behind_front es i e h at s)
      ∙ ap (λ b. cond b (Some i) None) (lt-ltb i _ inside)

  nowhere : (es : List (K × ℤ)) → IsNoneOf t es → lookup t es ≡ None
  nowhere [] h = refl
  nowhere (e ∷ es) h = ap (λ b. cond b (Some e.1) (lookup t es)) h.0 ∙ nowhere es h.1

  pub no_place : (es : List (K × ℤ)) → lookup t es ≡ None → position t (keys_of es) ≡ None
  no_place es h = index-absent t es (absent_from_lookup t es h)

  pub none_found : (es : List (K × ℤ)) → IsNoneOf t es → position t (keys_of es) ≡ None
  none_found es h = no_place es (nowhere es h)

  pub none_more : (es : List (K × ℤ)) (i : ℕ) (e : K × ℤ) → IsNoneOf t (take i es)
      → slice_get es i ≡ Some e → t e.0 ≡ false → IsNoneOf t (take (suc i) es)
  none_more [] i e h at s = tt
  none_more (x ∷ es) zero e h at s =
      (ap (λ (y : K × ℤ). t y.0) (same_some x e at) ∙ s, tt)
  none_more (x ∷ es) (suc i) e h at s = (h.0, none_more es i e h.1 at s)

  pub none_in : (es : List (K × ℤ)) → lookup t es ≡ None → list_any t (keys_of es) ≡ false
  none_in es h = sym (is_some-lookup t es) ∙ ap is_some h

  pub found_inside : (es : List (K × ℤ)) (o : Option ℕ) → o ≡ position t (keys_of es)
      → IfSome o (λ i. i < length es)
  found_inside es None e = tt
  found_inside es (Some i) e = by (nat_lt (position_or_len t (keys_of es)) (length (keys_of es))) refl e
    where
      by : (b : Bool) → nat_lt (position_or_len t (keys_of es)) (length (keys_of es)) ≡ b
          → Some i ≡ cond b (Some (position_or_len t (keys_of es))) None → i < length es
      by true inside is =
          let same = same_some i (position_or_len t (keys_of es)) is in
          grind (arith, inside, same, length-keys_of es)
      by false inside is = absurd (is_none i is)

  pub found_value : (es : List (K × ℤ)) (o : Option ℕ) → o ≡ position t (keys_of es)
      → IfSome o (λ i. slice_get (values_of es) i ≡ lookup t es)
  found_value es o e = subst (λ r. IfSome r (λ i. slice_get (values_of es) i ≡ lookup t es)) (sym e) (value_index t es)

  pub found_nowhere : (es : List (K × ℤ)) (o : Option ℕ) → o ≡ position t (keys_of es)
      → IfNone o (lookup t es ≡ None)
  found_nowhere es (Some i) e = tt
  found_nowhere es None e =
      by (lookup t es) refl (sym (some_index t es) ∙ sym (ap is_some e))
    where
      by : (v : Option ℤ) → lookup t es ≡ v → is_some (lookup t es) ≡ false → lookup t es ≡ None
      by None is s = is
      by (Some v) is s = let bad : true ≡ false = sym (ap is_some is) ∙ s in cc

-- the keys up to one more
pub keys_more : {K : Type 0} (es : List (K × ℤ)) (i : ℕ) (e : K × ℤ) → slice_get es i ≡ Some e
    → keys_of (take (suc i) es) ≡ keys_of (take i es) ++ e.0 ∷ []
keys_more [] i e at = absurd (is_none e (sym at))
keys_more (x ∷ es) zero e at = ap (λ (y : _). y.0 ∷ []) (same_some x e at)
keys_more (x ∷ es) (suc i) e at = ap (λ l. x.0 ∷ l) (keys_more es i e at)

pub items_more : {K : Type 0} (es : List (K × ℤ)) (i : ℕ) (e : K × ℤ) → slice_get es i ≡ Some e
    → take (suc i) es ≡ take i es ++ e ∷ []
items_more [] i e at = absurd (is_none e (sym at))
items_more (x ∷ es) zero e at = ap (λ y. y ∷ []) (same_some x e at)
items_more (x ∷ es) (suc i) e at = ap (λ l. x ∷ l) (items_more es i e at)

split_at : {K : Type 0} (es : List (K × ℤ)) (i : ℕ) (e : K × ℤ) → slice_get es i ≡ Some e
    → es ≡ take i es ++ e ∷ drop (suc i) es
split_at [] i e at = absurd (is_none e (sym at))
split_at (x ∷ es) zero e at = ap (λ y. y ∷ es) (same_some x e at)
split_at (x ∷ es) (suc i) e at = ap (λ l. x ∷ l) (split_at es i e at)

-- a key is none of those before it
pub new_in_front : {K : Type 0} {eq : K → K → Bool} → IsEquivalence eq → (es : List (K × ℤ)) (i : ℕ)
    (e : K × ℤ) → IsDistinct eq (keys_of es) → slice_get es i ≡ Some e
    → list_any (eq e.0) (keys_of (take i es)) ≡ false
new_in_front {eq = eq} laws es i e d at =
    none_in (eq e.0) (take i es)
    (absent_before laws (take i es) (drop (suc i) es) e
    (subst (λ l. IsDistinct eq (keys_of l)) (split_at es i e at) d))

apart_without : {K : Type 0} (p : K → Type 0) (ks : List K) (i : ℕ) → AllByRecursion p ks
    → AllByRecursion p (remove ks i)
apart_without p [] zero h = tt
apart_without p [] (suc i) h = tt
apart_without p (k ∷ ks) zero h = h.1
apart_without p (k ∷ ks) (suc i) h = (h.0, apart_without p ks i h.1)

pub distinct_without : {K : Type 0} (eq : K → K → Bool) (ks : List K) (i : ℕ) → IsDistinct eq ks
    → IsDistinct eq (remove ks i)
unfolding IsDistinct
distinct_without eq [] zero d = tt
distinct_without eq [] (suc i) d = tt
distinct_without eq (k ∷ ks) zero d = d.1
distinct_without eq (k ∷ ks) (suc i) d =
    (apart_without (λ q. eq k q ≡ false) ks i d.0, distinct_without eq ks i d.1)

pub keys_without : {K : Type 0} (es : List (K × ℤ)) (i : ℕ)
    → keys_of (remove es i) ≡ remove (keys_of es) i
keys_without [] zero = refl
keys_without [] (suc i) = refl
keys_without (e ∷ es) zero = refl
keys_without (e ∷ es) (suc i) = ap (λ l. e.0 ∷ l) (keys_without es i)

pub keys_before : {K : Type 0} (es : List (K × ℤ)) (n : ℕ) → keys_of (take n es) ≡ take n (keys_of es)
keys_before es zero = refl
keys_before [] (suc n) = refl
keys_before (e ∷ es) (suc n) = ap (λ l. e.0 ∷ l) (keys_before es n)

pub keys_pushed : {K : Type 0} (es : List (K × ℤ)) (k : K) (n : ℤ)
    → keys_of (es ++ (k, n) ∷ []) ≡ keys_of es ++ k ∷ []
keys_pushed [] k n = refl
keys_pushed (e ∷ es) k n = ap (λ l. e.0 ∷ l) (keys_pushed es k n)

-- a write at a place
pub written : {K : Type 0} (es : List (K × ℤ)) (i : ℕ) (e : K × ℤ) (n : ℤ) → slice_get es i ≡ Some e
    → slice_set es i (e.0, n) ≡ set_value_at es i n
written [] i e n at = absurd (is_none e (sym at))
written (x ∷ es) zero e n at = ap (λ (y : _). (y.0, n) ∷ es) (sym (same_some x e at))
written (x ∷ es) (suc i) e n at = ap (λ l. x ∷ l) (written es i e n at)

pub keys_written : {K : Type 0} (es : List (K × ℤ)) (i : ℕ) (n : ℤ)
    → keys_of (set_value_at es i n) ≡ keys_of es
keys_written [] i n = refl
keys_written (x ∷ es) zero n = refl
keys_written (x ∷ es) (suc i) n = ap (λ l. x.0 ∷ l) (keys_written es i n)

pub none_distinct : {K : Type 0} (eq : K → K → Bool) → IsDistinct eq (keys_of {X = ℤ} [])
unfolding IsDistinct
none_distinct eq = tt

-- where no keys are hashed, there is nothing to keep
pub none_hashed : {K : Type 0} (places : Option (List K)) (ks : List K) → is_some places ≡ false
    → ArePlaces places ks
none_hashed None ks h = tt
none_hashed (Some p) ks h = let bad : true ≡ false = h in cc

-- what isn't among some keys isn't among those that are hashed
pub none_among : {K : Type 0} (t : K → Bool) (places : Option (List K)) (ks : List K)
    → ArePlaces places ks → list_any t ks ≡ false → IfSome places (λ keys. list_any t keys ≡ false)
none_among t None ks same h = tt
none_among t (Some p) ks same h = ap (list_any t) same ∙ h
