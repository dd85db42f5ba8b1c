-- What is held in slots, as they are written, taken out and put behind the others.
use Rattle.std.proofs.Common.{◌≡◌, ◌+◌, ◌-◌, ◌≤◌, ℕ, zero, suc, ℤ, pos, ◌+ℤ◌, Bool, true, false}
use Rattle.std.proofs.Common.{cond, List, [], ◌∷◌, ◌++◌, length, drop, slice_get, position, remove}
use Rattle.std.proofs.Common.{Some, None, unwrap_or, refl, sym, ◌∙◌, ap, subst, arith}
use Rattle.std.specs.List.{AllByRecursion, IsDistinct}
use Rattle.std.specs.Map.{keys_of, values_of, lookup, remove_entry}
use Rattle.std.specs.Ordering.{int_eq}
use Rattle.std.specs.Cmp.{signed_Decides}
use Rattle.std.proofs.lemmas.List.{append-nil}
use Rattle.indexmap.specs.IndexMap.{insert_entry, set_value_at}
use Rattle.indexmap.proofs.MapLemmas.{Found-position, index-first, insert_entry-first}
use Rattle.bean_lots.specs.Inventory.{count_of, held_as, added, DiffersFrom, IsInventory}
use Rattle.bean_lots.specs.Lot.{same_key}
use Rattle.bean_lots.specs.Slots.{positions, AreHoles}
use Rattle.bean_lots.specs.declared.lot.Key.{Key}
use Rattle.bean_lots.specs.declared.lot.Position.{Position}
use Rattle.bean_lots.proofs.LotFacts.{same_key_Decides}

pub is_zero : (n : ℤ) → int_eq n (pos 0) ≡ true → n ≡ pos 0
is_zero n h = (signed_Decides n (pos 0)).0 h

pub is_none : {A : Type 0} (x : A) → Some x ≡ None → ⊥
is_none x e = cc

pub same_some : {A : Type 0} (x y : A) → Some x ≡ Some y → x ≡ y
same_some x y e = ap (λ o. unwrap_or o x) e

-- a key that stands nowhere
pub none_there : (es : List (Key × ℤ)) (k : Key)
    → AllByRecursion {X = Key} (λ q. same_key k q ≡ false) (keys_of es)
    → lookup (same_key k) es ≡ None
none_there [] k h = refl
none_there (e ∷ es) k h =
    ap (λ b. cond b (Some e.1) (lookup (same_key k) es)) h.0 ∙ none_there es k h.1

-- the count of a key is that in its slot
pub counted : (es : List (Key × ℤ)) (k : Key) → IsDistinct same_key (keys_of es)
    → count_of (positions es) k ≡ unwrap_or (lookup (same_key k) es) (pos 0)
unfolding IsDistinct
counted [] k d = refl
counted (e ∷ es) k d =
    by (int_eq e.1 (pos 0)) refl (same_key k e.0) refl (counted es k d.1)
  where
    by : (z : Bool) → int_eq e.1 (pos 0) ≡ z → (b : Bool) → same_key k e.0 ≡ b
        → count_of (positions es) k ≡ unwrap_or (lookup (same_key k) es) (pos 0)
        → count_of (cond z [] (record { key = e.0; count = e.1 } ∷ []) ++ positions es) k
        ≡ unwrap_or (cond b (Some e.1) (lookup (same_key k) es)) (pos 0)
    by true z true s rest =
        let gone =
        none_there es k
        (subst (λ x. AllByRecursion {X = Key} (λ q. same_key x q ≡ false) (keys_of es))
        (sym ((same_key_Decides k e.0).0 s)) d.0) in
        rest ∙ ap (λ o. unwrap_or o (pos 0)) gone ∙ sym (is_zero e.1 z)
    by true z false s rest = rest
    by false z true s rest = ap (λ b. cond b e.1 (count_of (positions es) k)) s
    by false z false s rest = ap (λ b. cond b e.1 (count_of (positions es) k)) s ∙ rest

all_differ : (es : List (Key × ℤ)) (k : Key)
    → AllByRecursion {X = Key} (λ q. same_key k q ≡ false) (keys_of es)
    → AllByRecursion (DiffersFrom k) (positions es)
all_differ [] k h = tt
all_differ (e ∷ es) k h = by (int_eq e.1 (pos 0)) (all_differ es k h.1)
  where
    by : (z : Bool) → AllByRecursion (DiffersFrom k) (positions es)
        → AllByRecursion (DiffersFrom k)
        (cond z [] (record { key = e.0; count = e.1 } ∷ []) ++ positions es)
    by true rest = rest
    by false rest = (h.0, rest)

-- what is held in slots of distinct keys is an inventory
pub inventory : (es : List (Key × ℤ)) → IsDistinct same_key (keys_of es)
    → IsInventory (positions es)
unfolding IsDistinct
inventory [] d = tt
inventory (e ∷ es) d = by (int_eq e.1 (pos 0)) refl (inventory es d.1)
  where
    by : (z : Bool) → int_eq e.1 (pos 0) ≡ z → IsInventory (positions es)
        → IsInventory (cond z [] (record { key = e.0; count = e.1 } ∷ []) ++ positions es)
    by true z rest = rest
    by false z rest = (z, all_differ es e.0 d.0, rest)

behind : (k q : Key) (m n : ℤ) (es : List Position) → same_key k q ≡ false
    → added (held_as q m ++ es) k n ≡ held_as q m ++ added es k n
behind k q m n es s = by (int_eq m (pos 0))
  where
    by : (z : Bool)
        → added (cond z [] (record { key = q; count = m } ∷ []) ++ es) k n
        ≡ cond z [] (record { key = q; count = m } ∷ []) ++ added es k n
    by true = refl
    by false =
        ap (λ b. cond b (held_as q (m +ℤ n) ++ es) (record { key = q; count = m } ∷ added es k n)) s

at_front : (k q : Key) (m n : ℤ) (es : List Position) → same_key k q ≡ true
    → int_eq m (pos 0) ≡ false → added (held_as q m ++ es) k n ≡ held_as q (m +ℤ n) ++ es
at_front k q m n es s z =
    ap (λ c. added (cond c [] (record { key = q; count = m } ∷ []) ++ es) k n) z
    ∙ ap (λ b. cond b (held_as q (m +ℤ n) ++ es) (record { key = q; count = m } ∷ added es k n)) s

-- nothing is held in a hole at the end
pub hole_more : (es : List (Key × ℤ)) (k : Key) → positions (es ++ (k, pos 0) ∷ []) ≡ positions es
hole_more [] k = refl
hole_more (e ∷ es) k = ap (λ l. held_as e.0 e.1 ++ l) (hole_more es k)

-- a key whose hole is the last slot goes last
pub last_key : (es : List (Key × ℤ)) (i : ℕ) (k : Key) (n : ℤ)
    → position (same_key k) (keys_of es) ≡ Some i → lookup (same_key k) es ≡ Some (pos 0)
    → i + 1 ≡ length es → positions (insert_entry same_key es k n) ≡ added (positions es) k n
last_key [] i k n at h end = absurd (omega (arith, end))
last_key (e ∷ []) zero k n at h end = by (same_key k e.0) refl h
  where
    by : (b : Bool) → same_key k e.0 ≡ b → cond b (Some e.1) None ≡ Some (pos 0)
        → positions (cond b ((e.0, n) ∷ []) (e ∷ (k, n) ∷ []))
        ≡ added (held_as e.0 e.1 ++ []) k n
    by true s h =
        ap (λ q. held_as q n ++ []) (sym ((same_key_Decides k e.0).0 s)) ∙ append-nil (held_as k n)
        ∙ ap (λ m. added (held_as e.0 m ++ []) k n) (sym (same_some e.1 (pos 0) h))
    by false s h = absurd (is_none (pos 0) (sym h))
last_key (e ∷ []) (suc i) k n at h end = absurd (omega (arith, end))
last_key (e ∷ f ∷ es) zero k n at h end = absurd (omega (arith, end))
last_key (e ∷ f ∷ es) (suc i) k n at h end =
    by (same_key k e.0) refl h
    (λ h. last_key (f ∷ es) i k n
    (index-first (same_key k) (f ∷ es) i (Found-position (same_key k) (e ∷ f ∷ es) (suc i) at).first.1)
    h (omega (arith, end)))
  where
    other : same_key k e.0 ≡ false
    other = (Found-position (same_key k) (e ∷ f ∷ es) (suc i) at).first.0

    by : (b : Bool) → same_key k e.0 ≡ b
        → cond b (Some e.1) (lookup (same_key k) (f ∷ es)) ≡ Some (pos 0)
        → (lookup (same_key k) (f ∷ es) ≡ Some (pos 0)
        → positions (insert_entry same_key (f ∷ es) k n) ≡ added (positions (f ∷ es)) k n)
        → positions (cond b ((e.0, n) ∷ f ∷ es) (e ∷ insert_entry same_key (f ∷ es) k n))
        ≡ added (held_as e.0 e.1 ++ positions (f ∷ es)) k n
    by true s h rest = let bad : true ≡ false = sym s ∙ other in cc
    by false s h rest =
        ap (λ l. held_as e.0 e.1 ++ l) (rest h)
        ∙ sym (behind k e.0 e.1 n (positions (f ∷ es)) s)

-- a key behind all others
pub place_last : (es : List (Key × ℤ)) (k : Key) (n : ℤ) → lookup (same_key k) es ≡ None
    → position (same_key k) (keys_of (es ++ (k, n) ∷ [])) ≡ Some (length es)
place_last [] k n h =
    index-first (same_key k) ((k, n) ∷ []) 0 ((same_key_Decides k k).1 refl)
place_last (e ∷ es) k n h = by (same_key k e.0) refl h (place_last es k n)
  where
    by : (b : Bool) → same_key k e.0 ≡ b → cond b (Some e.1) (lookup (same_key k) es) ≡ None
        → (lookup (same_key k) es ≡ None
        → position (same_key k) (keys_of (es ++ (k, n) ∷ [])) ≡ Some (length es))
        → position (same_key k) (keys_of (e ∷ es ++ (k, n) ∷ [])) ≡ Some (suc (length es))
    by true s h rest = absurd (is_none e.1 h)
    by false s h rest =
        index-first (same_key k) (e ∷ es ++ (k, n) ∷ []) (suc (length es))
        (s, (Found-position (same_key k) (es ++ (k, n) ∷ []) (length es) (rest h)).first)

pub count_last : (es : List (Key × ℤ)) (k : Key) (n : ℤ) → lookup (same_key k) es ≡ None
    → lookup (same_key k) (es ++ (k, n) ∷ []) ≡ Some n
count_last [] k n h =
    ap (λ b. cond b (Some n) None) ((same_key_Decides k k).1 refl)
count_last (e ∷ es) k n h = by (same_key k e.0) h (count_last es k n)
  where
    by : (b : Bool) → cond b (Some e.1) (lookup (same_key k) es) ≡ None
        → (lookup (same_key k) es ≡ None → lookup (same_key k) (es ++ (k, n) ∷ []) ≡ Some n)
        → cond b (Some e.1) (lookup (same_key k) (es ++ (k, n) ∷ [])) ≡ Some n
    by true h rest = absurd (is_none e.1 h)
    by false h rest = rest h

-- a key that is taken out at its place
pub out_at : (es : List (Key × ℤ)) (i : ℕ) (k : Key) → position (same_key k) (keys_of es) ≡ Some i
    → remove es i ≡ remove_entry (same_key k) es
out_at [] i k at = absurd (Found-position {X = ℤ} (same_key k) [] i at).first
out_at (e ∷ es) zero k at =
    ap (λ b. cond b es (e ∷ remove_entry (same_key k) es))
    (sym (Found-position (same_key k) (e ∷ es) zero at).first)
out_at (e ∷ es) (suc i) k at =
    let first = (Found-position (same_key k) (e ∷ es) (suc i) at).first in
    ap (λ l. e ∷ l) (out_at es i k (index-first (same_key k) es i first.1))
    ∙ ap (λ b. cond b es (e ∷ remove_entry (same_key k) es)) (sym first.0)

-- it is gone
pub gone_at : (es : List (Key × ℤ)) (k : Key) → IsDistinct same_key (keys_of es)
    → lookup (same_key k) (remove_entry (same_key k) es) ≡ None
unfolding IsDistinct
gone_at [] k d = refl
gone_at (e ∷ es) k d = by (same_key k e.0) refl (gone_at es k d.1)
  where
    by : (b : Bool) → same_key k e.0 ≡ b
        → lookup (same_key k) (remove_entry (same_key k) es) ≡ None
        → lookup (same_key k) (cond b es (e ∷ remove_entry (same_key k) es)) ≡ None
    by true s rest =
        none_there es k
        (subst (λ x. AllByRecursion {X = Key} (λ q. same_key x q ≡ false) (keys_of es))
        (sym ((same_key_Decides k e.0).0 s)) d.0)
    by false s rest =
        ap (λ b. cond b (Some e.1) (lookup (same_key k) (remove_entry (same_key k) es))) s ∙ rest

-- a key that is held keeps its place
pub held_key : (es : List (Key × ℤ)) (k : Key) (m n : ℤ) → lookup (same_key k) es ≡ Some m
    → int_eq m (pos 0) ≡ false
    → positions (insert_entry same_key es k (m +ℤ n)) ≡ added (positions es) k n
held_key [] k m n h z = absurd (is_none m (sym h))
held_key (e ∷ es) k m n h z = by (same_key k e.0) refl h (λ h. held_key es k m n h z)
  where
    by : (b : Bool) → same_key k e.0 ≡ b
        → cond b (Some e.1) (lookup (same_key k) es) ≡ Some m
        → (lookup (same_key k) es ≡ Some m
        → positions (insert_entry same_key es k (m +ℤ n)) ≡ added (positions es) k n)
        → positions (cond b ((e.0, m +ℤ n) ∷ es) (e ∷ insert_entry same_key es k (m +ℤ n)))
        ≡ added (held_as e.0 e.1 ++ positions es) k n
    by true s h rest =
        let same = same_some e.1 m h in
        ap (λ x. held_as e.0 (x +ℤ n) ++ positions es) (sym same)
        ∙ sym (at_front k e.0 e.1 n (positions es) s (ap (λ x. int_eq x (pos 0)) same ∙ z))
    by false s h rest =
        ap (λ l. held_as e.0 e.1 ++ l) (rest h) ∙ sym (behind k e.0 e.1 n (positions es) s)

-- nothing is held in a hole
pub hole_out : (es : List (Key × ℤ)) (k : Key) → lookup (same_key k) es ≡ Some (pos 0)
    → positions (remove_entry (same_key k) es) ≡ positions es
hole_out [] k h = refl
hole_out (e ∷ es) k h = by (same_key k e.0) h (hole_out es k)
  where
    by : (b : Bool) → cond b (Some e.1) (lookup (same_key k) es) ≡ Some (pos 0)
        → (lookup (same_key k) es ≡ Some (pos 0)
        → positions (remove_entry (same_key k) es) ≡ positions es)
        → positions (cond b es (e ∷ remove_entry (same_key k) es))
        ≡ held_as e.0 e.1 ++ positions es
    by true h rest = ap (λ n. held_as e.0 n ++ positions es) (sym (same_some e.1 (pos 0) h))
    by false h rest = ap (λ l. held_as e.0 e.1 ++ l) (rest h)

-- a write at the index of a key
pub written : (es : List (Key × ℤ)) (k : Key) (i : ℕ) (n : ℤ)
    → position (same_key k) (keys_of es) ≡ Some i
    → set_value_at es i n ≡ insert_entry same_key es k n
written es k i n p =
    sym (insert_entry-first same_key k n es i (Found-position (same_key k) es i p).first)

pub holes_held : (n : ℕ) (es : List (Key × ℤ)) (k : Key) (m w : ℤ) → AreHoles n es
    → lookup (same_key k) es ≡ Some m → int_eq m (pos 0) ≡ false
    → AreHoles n (insert_entry same_key es k w)
holes_held zero es k m w a h z = tt
holes_held (suc n) [] k m w a h z = absurd a
holes_held (suc n) (e ∷ es) k m w a h z =
    by (same_key k e.0) h (λ h. holes_held n es k m w a.1 h z)
  where
    by : (b : Bool) → cond b (Some e.1) (lookup (same_key k) es) ≡ Some m
        → (lookup (same_key k) es ≡ Some m → AreHoles n (insert_entry same_key es k w))
        → AreHoles (suc n) (cond b ((e.0, w) ∷ es) (e ∷ insert_entry same_key es k w))
    by true h rest =
        absurd (zero_apart (sym (ap (λ x. int_eq x (pos 0)) (sym a.0 ∙ same_some e.1 m h)) ∙ refl))
      where
        zero_apart : int_eq m (pos 0) ≡ int_eq (pos 0) (pos 0) → ⊥
        zero_apart e = let same : true ≡ false = sym e ∙ z in cc
    by false h rest = (a.0, rest h)

-- a slot more, at the end
pub holes_more : (n : ℕ) (es : List (Key × ℤ)) (e : Key × ℤ) → AreHoles n es
    → AreHoles n (es ++ e ∷ [])
holes_more zero es x a = tt
holes_more (suc n) [] x a = absurd a
holes_more (suc n) (e ∷ es) x a = (a.0, holes_more n es x a.1)

-- a write at or behind the first slot
pub holes_written : (n : ℕ) (es : List (Key × ℤ)) (i : ℕ) (w : ℤ) (m : ℕ) → AreHoles n es → m ≤ n
    → m ≤ i → AreHoles m (set_value_at es i w)
holes_written n es i w zero a p q = tt
holes_written zero es i w (suc m) a p q = absurd (omega (arith, p))
holes_written (suc n) [] i w (suc m) a p q = absurd a
holes_written (suc n) (e ∷ es) zero w (suc m) a p q = absurd (omega (arith, q))
holes_written (suc n) (e ∷ es) (suc i) w (suc m) a p q =
    (a.0, holes_written n es i w m a.1 (omega (arith, p)) (omega (arith, q)))

one_hole_out : (n : ℕ) (t : Key → Bool) (es : List (Key × ℤ)) → AreHoles (suc n) es
    → AreHoles n (remove_entry t es)
one_hole_out zero t es a = tt
one_hole_out (suc n) t [] a = absurd a
one_hole_out (suc n) t (e ∷ es) a = by (t e.0) (one_hole_out n t es a.1)
  where
    by : (b : Bool) → AreHoles n (remove_entry t es)
        → AreHoles (suc n) (cond b es (e ∷ remove_entry t es))
    by true rest = a.1
    by false rest = (a.0, rest)

pub holes_out : (n : ℕ) (t : Key → Bool) (es : List (Key × ℤ)) → AreHoles n es
    → AreHoles (n - 1) (remove_entry t es)
holes_out zero t es a =
    let none : 0 ≡ 0 - 1 = omega arith in subst (λ m. AreHoles m (remove_entry t es)) none tt
holes_out (suc n) t es a =
    let less : n ≡ suc n - 1 = omega arith in
    subst (λ m. AreHoles m (remove_entry t es)) less (one_hole_out n t es a)

pub holes_few : (n : ℕ) (es : List (Key × ℤ)) → AreHoles n es → n ≤ length es
holes_few zero es a = omega arith
holes_few (suc n) [] a = absurd a
holes_few (suc n) (e ∷ es) a = let rest = holes_few n es a.1 in omega (arith, rest)

-- nothing is held below the holes' end
pub holes_passed : (n : ℕ) (es : List (Key × ℤ)) → AreHoles n es
    → positions (drop n es) ≡ positions es
holes_passed zero es a = refl
holes_passed (suc n) [] a = absurd a
holes_passed (suc n) (e ∷ es) a =
    holes_passed n es a.1 ∙ ap (λ m. held_as e.0 m ++ positions es) (sym a.0)

pub one_hole_more : (n : ℕ) (es : List (Key × ℤ)) → AreHoles n es
    → slice_get (values_of es) n ≡ Some (pos 0) → AreHoles (suc n) es
one_hole_more n [] a h = absurd (is_none (pos 0) (sym h))
one_hole_more zero (e ∷ es) a h = (same_some e.1 (pos 0) h, tt)
one_hole_more (suc n) (e ∷ es) a h = (a.0, one_hole_more n es a.1 h)

-- the position of one slot, and those behind it
pub slot_at : (es : List (Key × ℤ)) (i : ℕ) (k : Key) (n : ℤ) → slice_get es i ≡ Some (k, n)
    → positions (drop i es) ≡ held_as k n ++ positions (drop (suc i) es)
slot_at [] i k n h = absurd (is_none (k, n) (sym h))
slot_at (e ∷ es) zero k n h =
    ap (λ (x : Key × ℤ). held_as x.0 x.1 ++ positions es) (same_some e (k, n) h)
slot_at (e ∷ es) (suc i) k n h = slot_at es i k n h

pub full_slot : (es : List (Key × ℤ)) (i : ℕ) (k : Key) (n : ℤ) → slice_get es i ≡ Some (k, n)
    → int_eq n (pos 0) ≡ false
    → positions (drop i es) ≡ record { key = k; count = n } ∷ positions (drop (suc i) es)
full_slot es i k n h z =
    slot_at es i k n h
    ∙ ap (λ c. cond c [] (record { key = k; count = n } ∷ []) ++ positions (drop (suc i) es)) z

pub hole_at : (es : List (Key × ℤ)) (i : ℕ) (k : Key) (n : ℤ) → slice_get es i ≡ Some (k, n)
    → n ≡ pos 0 → positions (drop (suc i) es) ≡ positions (drop i es)
hole_at es i k n h z =
    sym (slot_at es i k n h ∙ ap (λ m. held_as k m ++ positions (drop (suc i) es)) z)
