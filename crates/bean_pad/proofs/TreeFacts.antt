-- Numbers of accounts: each account has one of its own, and it stays.
use Rattle.std.proofs.Common.{◌≡◌, ℕ, suc, ◌<◌, ◌≤◌, ◌+◌, ◌==◌, ◌&&◌, ◌++◌, Bool, true, false}
use Rattle.std.proofs.Common.{cond, List, [], ◌∷◌, length, get_or, position, Option, Some, None, arith}
use Rattle.std.proofs.Common.{refl, sym, ap, subst, ◌∙◌, ◌⊎◌, inl, inr, nat_lt, unwrap_or, length-append, append_assoc, map, reverse}
use Rattle.std.specs.List.{list_any, position_or_len}
use Rattle.std.specs.Option.{option_and_then, option_map}
use Rattle.std.specs.Str.{bytes_eq}
use Rattle.std.proofs.lemmas.Bool.{eq-eqb, eqb-true}
use Rattle.std.proofs.lemmas.Bool.Decides.{nat_tests}
use Rattle.std.proofs.lemmas.List.{get_or_append_left, append-nil, get_or_default, map-append}
use Rattle.std.proofs.lemmas.List.{reverse-append}
use Rattle.std.proofs.lemmas.List.Folds.{position_or_len_push}
use Rattle.std.proofs.lemmas.List.Quantifiers.{position-Some}
use Rattle.std.proofs.lemmas.List.Sums.{position_or_len_is}
use Rattle.std.proofs.lemmas.Slice.Eq.{bytes_eq-Decides}
use Rattle.std.proofs.Math.Seq.{get_or-append_seam}
use Rattle.indexmap.specs.IndexSet.{insert_key}
use Rattle.bean_pad.specs.Tree.{AreAbove, Grows, number_below, number_by, same_below}
use Rattle.bean_pad.specs.declared.tree.Below.{Below}

none : Below
none = record { above = 0; component = [] }

same : (a b : Below) → same_below a b ≡ true → a ≡ b
same a b h = by (a.above == b.above) (bytes_eq a.component b.component) refl refl h
  where
    by : (x y : Bool) → (a.above == b.above) ≡ x → bytes_eq a.component b.component ≡ y
        → (x && y) ≡ true → a ≡ b
    by true true p q h = λ i. record {
      above = eqb-true a.above b.above p i;
      component = (bytes_eq-Decides a.component b.component).0 q i;
    }
    by true false p q h = cc
    by false y p q h = cc

itself : (k : Below) → same_below k k ≡ true
itself k =
    ap (λ b. b && bytes_eq k.component k.component) (eq-eqb k.above k.above refl)
    ∙ (bytes_eq-Decides k.component k.component).1 refl

-- ---- places in lists

less : (m n : ℕ) → m < n → nat_lt m n ≡ true
less m n h = grind (arith, nat_tests)

at : {A : Type 0} (p : A → Bool) (xs : List A) (i : ℕ) → position_or_len p xs ≡ i → i < length xs
    → position p xs ≡ Some i
at p xs i e h =
    ap (λ n. cond (nat_lt n (length xs)) (Some n) None) e
    ∙ ap (λ b. cond b (Some i) None) (less i (length xs) h)

-- what is found in the front of a list is found there
first : {A : Type 0} (d : A) (p : A → Bool) (xs more : List A) (i : ℕ) → position p xs ≡ Some i
    → position p (xs ++ more) ≡ Some i
first d p xs more i h =
    let f = position-Some p xs i d h in
    let n = length-append xs more in
    at p (xs ++ more) i
    (position_or_len_is p (xs ++ more) i d (omega (arith, n, f.0))
    (λ k l. ap p (get_or_append_left xs more d k (omega (arith, l, f.0))) ∙ f.2 k l)
    (λ l. ap p (get_or_append_left xs more d i f.0) ∙ f.1))
    (omega (arith, n, f.0))

-- and the other way round
in_front : {A : Type 0} (d : A) (p : A → Bool) (xs more : List A) (i : ℕ)
    → position p (xs ++ more) ≡ Some i → i < length xs → position p xs ≡ Some i
in_front d p xs more i h l =
    let f = position-Some p (xs ++ more) i d h in
    at p xs i
    (position_or_len_is p xs i d (omega (arith, l))
    (λ k m. ap p (sym (get_or_append_left xs more d k (omega (arith, l, m)))) ∙ f.2 k m)
    (λ l. ap p (sym (get_or_append_left xs more d i l)) ∙ f.1))
    l

-- a key that is inserted is found where it was to be
pub inserted : (nodes : List Below) (k : Below) (i : ℕ) → i ≡ position_or_len (same_below k) nodes
    → i < length (insert_key same_below nodes k)
    → position (same_below k) (insert_key same_below nodes k) ≡ Some i
inserted nodes k i e h =
    at (same_below k) (insert_key same_below nodes k) i (by (list_any (same_below k) nodes)) h
  where
    pushed : (b : Bool) (n l : ℕ) → (b ≡ true → n ≡ l) → cond b (l + 0) n ≡ n
    pushed true n l h = omega (arith, h refl)
    pushed false n l h = refl

    by : (b : Bool) → position_or_len (same_below k) (cond b nodes (nodes ++ k ∷ [])) ≡ i
    by true = sym e
    by false =
        position_or_len_push (same_below k) nodes k
        ∙ ap (λ b. cond (position_or_len (same_below k) nodes == length nodes)
        (length nodes + cond b 0 1) (position_or_len (same_below k) nodes)) (itself k)
        ∙ pushed (position_or_len (same_below k) nodes == length nodes)
        (position_or_len (same_below k) nodes) (length nodes)
        (eqb-true (position_or_len (same_below k) nodes) (length nodes))
        ∙ sym e

-- ---- one account more

pub one_more : (nodes : List Below) (k : Below) → AreAbove nodes → k.above ≤ length nodes
    → AreAbove (nodes ++ k ∷ [])
one_more nodes k above h = λ i d l. by i d l (nat_lt i (length nodes)) refl
  where
    by : (i : ℕ) (d : Below) → i < length (nodes ++ k ∷ []) → (b : Bool)
        → nat_lt i (length nodes) ≡ b → (get_or (nodes ++ k ∷ []) i d).above ≤ i
    by i d l true e =
        let l : i < length nodes = grind (arith, nat_tests) in
        subst (λ k. k.above ≤ i) (sym (get_or_append_left nodes (k ∷ []) d i l)) (above i d l)
    by i d l false e =
        let n = length-append nodes (k ∷ []) in
        let last : i ≡ length nodes = grind (arith, nat_tests) in
        subst (λ i. (get_or (nodes ++ k ∷ []) i d).above ≤ i) (sym last)
        (subst (λ k. k.above ≤ length nodes) (sym (get_or-append_seam nodes k [] d)) h)

-- ---- how an account is found

-- An account stands below another at a place of the list.
record Step (nodes : List Below) (c : List ℕ) (cs : List (List ℕ)) (n : ℕ) : Type 0 where
  above : ℕ
  index : ℕ
  is : number_by nodes cs ≡ Some above
  found : position (same_below (record { above = above; component = c })) nodes ≡ Some index
  number : n ≡ suc index

pub some : {A : Type 0} (d x y : A) → Some x ≡ Some y → x ≡ y
some d x y e = ap (λ o. unwrap_or o d) e

step : (nodes : List Below) (c : List ℕ) (cs : List (List ℕ)) (n : ℕ)
    → number_by nodes (c ∷ cs) ≡ Some n → Step nodes c cs n
step nodes c cs n h = by (number_by nodes cs) refl h
  where
    there : (m : ℕ) → number_by nodes cs ≡ Some m → (o : Option ℕ)
        → position (same_below (record { above = m; component = c })) nodes ≡ o
        → option_map suc o ≡ Some n → Step nodes c cs n
    there m is None e h = cc
    there m is (Some i) e h = record {
      above = m;
      index = i;
      is = is;
      found = e;
      number = sym (some 0 (suc i) n h);
    }

    by : (o : Option ℕ) → number_by nodes cs ≡ o
        → option_and_then (λ m. number_below nodes m c) o ≡ Some n → Step nodes c cs n
    by None e h = cc
    by (Some m) e h = there m e (position (same_below (record { above = m; component = c })) nodes) refl h

key : (nodes : List Below) (c : List ℕ) (cs : List (List ℕ)) (n : ℕ) (s : Step nodes c cs n)
    → (s.index < length nodes)
    × (record { above = s.above; component = c } ≡ get_or nodes s.index none)
key nodes c cs n s =
    let k : Below = record { above = s.above; component = c } in
    let f = position-Some (same_below k) nodes s.index none s.found in
    (f.0, same k (get_or nodes s.index none) f.1)

pub within : (nodes : List Below) (cs : List (List ℕ)) (n : ℕ) → number_by nodes cs ≡ Some n
    → n ≤ length nodes
within nodes [] n h = let e = some 0 0 n h in omega (arith, e)
within nodes (c ∷ cs) n h =
    let s = step nodes c cs n h in
    let k = (key nodes c cs n s).0 in
    let e = s.number in omega (arith, k, e)

-- the account above stands at the place of the number
pub above_at : (nodes : List Below) (c : List ℕ) (cs : List (List ℕ)) (i : ℕ) (d : Below)
    → number_by nodes (c ∷ cs) ≡ Some (suc i)
    → (i < length nodes) × (number_by nodes cs ≡ Some (get_or nodes i d).above)
above_at nodes c cs i d h =
    let s = step nodes c cs (suc i) h in
    let k = key nodes c cs (suc i) s in
    let n = s.number in
    let same_index : s.index ≡ i = omega (arith, n) in
    let l : i < length nodes = subst (λ i. i < length nodes) same_index k.0 in
    let e : s.above ≡ (get_or nodes i d).above =
    ap (λ k. k.above) k.1 ∙ ap (λ j. (get_or nodes j none).above) same_index
    ∙ ap (λ k. k.above) (get_or_default nodes i none d l) in
    (l, s.is ∙ ap Some e)

-- accounts of one number have the same components
pub one : (nodes : List Below) (xs ys : List (List ℕ)) (n : ℕ) → number_by nodes xs ≡ Some n
    → number_by nodes ys ≡ Some n → xs ≡ ys
one nodes [] [] n h k = refl
one nodes [] (y ∷ ys) n h k =
    let s = step nodes y ys n k in
    let e = some 0 0 n h in
    let f = s.number in absurd (omega (arith, e, f))
one nodes (x ∷ xs) [] n h k =
    let s = step nodes x xs n h in
    let e = some 0 0 n k in
    let f = s.number in absurd (omega (arith, e, f))
one nodes (x ∷ xs) (y ∷ ys) n h k =
    let s = step nodes x xs n h in
    let t = step nodes y ys n k in
    let e = s.number in
    let f = t.number in
    let same_index : s.index ≡ t.index = omega (arith, e, f) in
    let k : Below = record { above = s.above; component = x } in
    let l : Below = record { above = t.above; component = y } in
    let keys : k ≡ l =
    (key nodes x xs n s).1 ∙ ap (λ i. get_or nodes i none) same_index
    ∙ sym (key nodes y ys n t).1 in
    let rest =
    one nodes xs ys t.above (s.is ∙ ap (λ k. Some k.above) keys) t.is in
    λ i. (keys i).component ∷ rest i

-- ---- more accounts

pub stays : (nodes more : List Below) (cs : List (List ℕ)) (n : ℕ) → number_by nodes cs ≡ Some n
    → number_by (nodes ++ more) cs ≡ Some n
stays nodes more [] n h = h
stays nodes more (c ∷ cs) n h =
    let s = step nodes c cs n h in
    ap (option_and_then (λ m. number_below (nodes ++ more) m c)) (stays nodes more cs s.above s.is)
    ∙ ap (option_map suc)
    (first none (same_below (record { above = s.above; component = c })) nodes more s.index s.found)
    ∙ ap Some (sym s.number)

-- an account had its number before, or it has one of the new ones
pub new_or_old : (nodes more : List Below) → AreAbove (nodes ++ more) → (cs : List (List ℕ)) (n : ℕ)
    → number_by (nodes ++ more) cs ≡ Some n → (number_by nodes cs ≡ Some n) ⊎ (length nodes < n)
new_or_old nodes more above [] n h = inl h
new_or_old nodes more above (c ∷ cs) n h =
    let s = step (nodes ++ more) c cs n h in
    by s (new_or_old nodes more above cs s.above s.is) (nat_lt s.index (length nodes)) refl
  where
    by : (s : Step (nodes ++ more) c cs n)
        → (number_by nodes cs ≡ Some s.above) ⊎ (length nodes < s.above) → (b : Bool)
        → nat_lt s.index (length nodes) ≡ b → (number_by nodes (c ∷ cs) ≡ Some n) ⊎ (length nodes < n)
    by s (inl old) true e =
        inl
        (ap (option_and_then (λ m. number_below nodes m c)) old
        ∙ ap (option_map suc)
        (in_front none (same_below (record { above = s.above; component = c })) nodes more s.index
        s.found (grind (arith, nat_tests)))
        ∙ ap Some (sym s.number))
    by s (inl old) false e =
        let f = s.number in inr (grind (arith, nat_tests))
    by s (inr new) b e =
        let k = key (nodes ++ more) c cs n s in
        let up = above s.index none k.0 in
        let same_above : s.above ≡ (get_or (nodes ++ more) s.index none).above =
        ap (λ k. k.above) k.1 in
        let f = s.number in inr (omega (arith, new, up, same_above, f))

-- 0 is the number of no account
pub no_root : (nodes : List Below) (c : List ℕ) (cs : List (List ℕ)) → number_by nodes (c ∷ cs) ≡ Some 0
    → ⊥
no_root nodes c cs h = let s = step nodes c cs 0 h in let e = s.number in absurd (omega (arith, e))

-- one component more
pub one_longer : {A B : Type 0} (f : A → B) (xs : List A) (x : A)
    → reverse (map f (xs ++ x ∷ [])) ≡ f x ∷ reverse (map f xs)
one_longer f xs x = ap reverse (map-append f xs (x ∷ [])) ∙ reverse-append (map f xs) (f x ∷ [])

-- ---- one component after the other

pub grown : (nodes : List Below) → Grows nodes nodes
grown nodes = ([], sym (append-nil nodes))

pub grown_more : (a b c : List Below) → Grows a b → Grows b c → Grows a c
grown_more a b c g h = (g.0 ++ h.0, h.1 ∙ ap (λ l. l ++ h.0) g.1 ∙ append_assoc a g.0 h.0)

pub grown_by : (nodes : List Below) (k : Below) → Grows nodes (insert_key same_below nodes k)
grown_by nodes k = by (list_any (same_below k) nodes)
  where
    by : (b : Bool) → Grows nodes (cond b nodes (nodes ++ k ∷ []))
    by true = grown nodes
    by false = (k ∷ [], refl)

pub longer_by : (old new : List Below) → Grows old new → (c : List ℕ) (cs : List (List ℕ)) (above n : ℕ)
    → number_by old cs ≡ Some above → number_below new above c ≡ Some n
    → number_by new (c ∷ cs) ≡ Some n
longer_by old new g c cs above n h k =
    let there : number_by new cs ≡ Some above =
    ap (λ nodes. number_by nodes cs) g.1 ∙ stays old g.0 cs above h in
    ap (option_and_then (λ m. number_below new m c)) there ∙ k

-- the numbers that are known stay those of their accounts
pub kept_above : (nodes : List Below) (k : Below) → AreAbove nodes → k.above ≤ length nodes
    → AreAbove (insert_key same_below nodes k)
kept_above nodes k above h = by (list_any (same_below k) nodes)
  where
    by : (b : Bool) → AreAbove (cond b nodes (nodes ++ k ∷ []))
    by true = above
    by false = one_more nodes k above h
