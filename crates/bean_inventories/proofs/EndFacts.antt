-- Slots from their end.
use Rattle.std.proofs.Common.{◌≡◌, ◌≤◌, ℕ, zero, suc, ℤ, pos, false, cond, not, filter}
use Rattle.std.proofs.Common.{List, [], ◌∷◌, ◌++◌, append_assoc, length, take, slice_get, Some, refl}
use Rattle.std.proofs.Common.{sym, ◌∙◌, ap, arith}
use Rattle.std.specs.List.{AllByRecursion}
use Rattle.std.specs.Map.{values_of}
use Rattle.std.specs.Ordering.{int_eq}
use Rattle.std.proofs.lemmas.List.{append-nil}
use Rattle.bean_lots.specs.Inventory.{held_as}
use Rattle.bean_lots.specs.Slots.{AreHoles, is_full, positions}
use Rattle.bean_inventories.specs.Kept.{AreBy, AreInOrder, IsBy}
use Rattle.bean_inventories.specs.Days.{IsNotBefore}
use Rattle.bean_lots.specs.declared.lot.Key.{Key}
use Rattle.bean_lots.proofs.SlotFacts.{is_none, same_some}

-- a hole at the end isn't kept
pub last_hole : (es : List (Key × ℤ)) (i : ℕ) → slice_get (values_of es) i ≡ Some (pos 0)
    → filter is_full (take i es) ≡ filter is_full (take (suc i) es)
last_hole [] i h = absurd (is_none (pos 0) (sym h))
last_hole (e ∷ es) zero h =
    ap (λ n. cond (not (int_eq n (pos 0))) (e ∷ []) []) (sym (same_some e.1 (pos 0) h))
last_hole (e ∷ es) (suc i) h = ap (λ l. cond (is_full e) (e ∷ l) l) (last_hole es i h)

-- the holes below the first slot, of a front
pub holes_in_front : (n m : ℕ) (es : List (Key × ℤ)) → AreHoles n es → (k : ℕ) → k ≤ n → k ≤ m
    → AreHoles k (take m es)
holes_in_front n m es a zero p q = tt
holes_in_front zero m es a (suc k) p q = absurd (omega (arith, p))
holes_in_front (suc n) zero es a (suc k) p q = absurd (omega (arith, q))
holes_in_front (suc n) (suc m) [] a (suc k) p q = absurd a
holes_in_front (suc n) (suc m) (e ∷ es) a (suc k) p q =
    (a.0, holes_in_front n m es a.1 k (omega (arith, p)) (omega (arith, q)))

pub all_in_front : {A : Type 0} (P : A → Type 0) (n : ℕ) (xs : List A) → AllByRecursion P xs
    → AllByRecursion P (take n xs)
all_in_front P zero xs a = tt
all_in_front P (suc n) [] a = tt
all_in_front P (suc n) (x ∷ xs) a = (a.0, all_in_front P n xs a.1)

pub order_in_front : (n : ℕ) (es : List (Key × ℤ)) → AreInOrder es → AreInOrder (take n es)
order_in_front zero es a = tt
order_in_front (suc n) [] a = tt
order_in_front (suc n) (e ∷ es) a =
    (all_in_front (λ f. IsNotBefore e.0.lot f.0.lot) n es a.0, order_in_front n es a.1)

pub days_in_front : (day : ℤ) (n : ℕ) (es : List (Key × ℤ)) → AreInOrder es × AreBy day es
    → AreInOrder (take n es) × AreBy day (take n es)
days_in_front day n es a =
    (order_in_front n es a.0, all_in_front (λ e. IsBy day e.0.lot) n es a.1)

-- where all slots are holes, none is full
pub none_full : (n : ℕ) (es : List (Key × ℤ)) → AreHoles n es → n ≡ length es
    → filter is_full (take 0 es) ≡ filter is_full es
none_full zero [] a e = refl
none_full zero (x ∷ es) a e = absurd (omega (arith, e))
none_full (suc n) [] a e = absurd a
none_full (suc n) (x ∷ es) a e =
    none_full n es a.1 (omega (arith, e))
    ∙ ap (λ m. cond (not (int_eq m (pos 0))) (x ∷ filter is_full es) (filter is_full es)) (sym a.0)

-- the position of the last slot of a front, behind those before it
pub slot_before : (es : List (Key × ℤ)) (i : ℕ) (k : Key) (n : ℤ) → slice_get es i ≡ Some (k, n)
    → positions (take (suc i) es) ≡ positions (take i es) ++ held_as k n
slot_before [] i k n h = absurd (is_none (k, n) (sym h))
slot_before (e ∷ es) zero k n h =
    ap (λ (x : Key × ℤ). held_as x.0 x.1 ++ []) (same_some e (k, n) h) ∙ append-nil (held_as k n)
slot_before (e ∷ es) (suc i) k n h =
    ap (λ l. held_as e.0 e.1 ++ l) (slot_before es i k n h)
    ∙ sym (append_assoc (held_as e.0 e.1) (positions (take i es)) (held_as k n))

pub full_before : (es : List (Key × ℤ)) (i : ℕ) (k : Key) (n : ℤ) → slice_get es i ≡ Some (k, n)
    → int_eq n (pos 0) ≡ false
    → positions (take (suc i) es) ≡ positions (take i es) ++ record { key = k; count = n } ∷ []
full_before es i k n h z =
    slot_before es i k n h
    ∙ ap (λ c. positions (take i es) ++ cond c [] (record { key = k; count = n } ∷ [])) z

pub hole_before : (es : List (Key × ℤ)) (i : ℕ) (k : Key) (n : ℤ) → slice_get es i ≡ Some (k, n)
    → n ≡ pos 0 → positions (take i es) ≡ positions (take (suc i) es)
hole_before es i k n h z =
    sym (slot_before es i k n h ∙ ap (λ m. positions (take i es) ++ held_as k m) z
    ∙ append-nil (positions (take i es)))
