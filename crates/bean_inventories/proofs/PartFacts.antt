-- A part of slots that has all lots of a day, and the positions of a part.
use Rattle.std.proofs.Common.{◌≡◌, ℕ, zero, suc, ℤ, Bool, true, false, cond, List, [], ◌∷◌, ◌++◌}
use Rattle.std.proofs.Common.{append_assoc, take, drop, slice_get, Option, Some, None, pos, refl}
use Rattle.std.proofs.Common.{sym, ◌∙◌, ap, subst, arith}
use Rattle.std.specs.declared.cmp.Ordering.TheVariants.{Less, Equal, Greater}
use Rattle.std.specs.List.{AllByRecursion}
use Rattle.std.specs.Ordering.{int_eq}
use Rattle.std.proofs.lemmas.Int.{ints}
use Rattle.std.proofs.lemmas.List.{append-nil, take-append-drop}
use Rattle.bean_base.specs.declared.days.Day.{Day}
use Rattle.bean_inventories.specs.Days.{IsNotBefore}
use Rattle.bean_lots.specs.Inventory.{held_as}
use Rattle.bean_inventories.specs.Part.{AreOff, AreSlotsOff, HasAllOf, HasAllSlots, IsOff, side_of}
use Rattle.bean_lots.specs.Slots.{positions}
use Rattle.bean_inventories.specs.Kept.{AreInOrder}
use Rattle.bean_lots.specs.declared.lot.Key.{Key}
use Rattle.bean_lots.specs.declared.lot.Lot.{Lot}
use Rattle.bean_lots.specs.declared.lot.Position.{Position}
use Rattle.bean_lots.proofs.SlotFacts.{is_none, same_some}

-- all of two lists

pub both : {A : Type 0} (P : A → Type 0) (xs ys : List A) → AllByRecursion P xs → AllByRecursion P ys
    → AllByRecursion P (xs ++ ys)
both P [] ys a b = b
both P (x ∷ xs) ys a b = (a.0, both P xs ys a.1 b)

pub first : {A : Type 0} (P : A → Type 0) (xs ys : List A) → AllByRecursion P (xs ++ ys)
    → AllByRecursion P xs
first P [] ys a = tt
first P (x ∷ xs) ys a = (a.0, first P xs ys a.1)

pub second : {A : Type 0} (P : A → Type 0) (xs ys : List A) → AllByRecursion P (xs ++ ys)
    → AllByRecursion P ys
second P [] ys a = a
second P (x ∷ xs) ys a = second P xs ys a.1

at : {A : Type 0} (P : A → Type 0) (xs : List A) (i : ℕ) (x : A) → AllByRecursion P xs
    → slice_get xs i ≡ Some x → P x
at P [] i x a h = absurd (is_none x (sym h))
at P (y ∷ xs) zero x a h = subst P (same_some y x h) a.0
at P (y ∷ xs) (suc i) x a h = at P xs i x a.1 h

-- the middle of a list has what all of it has
pub middle : {A : Type 0} (P : A → Type 0) (before part behind all : List A)
    → all ≡ before ++ (part ++ behind) → AllByRecursion P all → AllByRecursion P part
middle P before part behind all e a =
    first P part behind (second P before (part ++ behind) (subst (AllByRecursion P) e a))

-- lots before one of an earlier day, and behind one of a later

earlier_off : (day : Day) (a b : Option Lot) → IsNotBefore a b → side_of day b ≡ Less
    → IsOff (Some day) a
earlier_off day None b h s = tt
earlier_off day (Some a) None h s = absurd (apart s)
  where
    apart : Equal ≡ Less → ⊥
    apart e = cc
earlier_off day (Some a) (Some b) h s = grind (arith, ints)

later_off : (day : Day) (a b : Option Lot) → IsNotBefore a b → side_of day a ≡ Greater
    → IsOff (Some day) b
later_off day None b h s = absurd (apart s)
  where
    apart : Equal ≡ Greater → ⊥
    apart e = cc
later_off day (Some a) None h s = tt
later_off day (Some a) (Some b) h s = grind (arith, ints)

pub own_day : (a : Option Lot) → IsNotBefore a a
own_day None = tt
own_day (Some a) = omega (arith, ints)

pub all_earlier : (day : Day) (es : List (Key × ℤ)) (i : ℕ) (k : Key) (n : ℤ) → AreInOrder es
    → slice_get es i ≡ Some (k, n) → side_of day k.lot ≡ Less → AreSlotsOff day (take (suc i) es)
all_earlier day [] i k n a h s = absurd (is_none (k, n) (sym h))
all_earlier day (e ∷ es) zero k n a h s =
    let same = ap (λ (x : Key × ℤ). x.0) (same_some e (k, n) h) in
    (subst (λ q. IsOff (Some day) q.lot) (sym same) (earlier_off day k.lot k.lot (own_day k.lot) s), tt)
all_earlier day (e ∷ es) (suc i) k n a h s = (
  earlier_off day e.0.lot k.lot
      (at (λ f. IsNotBefore e.0.lot f.0.lot) es i (k, n) a.0 h) s,
  all_earlier day es i k n a.1 h s,
)

all_off : (day : Day) (l : Option Lot) (es : List (Key × ℤ)) → side_of day l ≡ Greater
    → AllByRecursion {X = Key × ℤ} (λ f. IsNotBefore l f.0.lot) es → AreSlotsOff day es
all_off day l [] s a = tt
all_off day l (e ∷ es) s a = (later_off day l e.0.lot a.0 s, all_off day l es s a.1)

pub all_later : (day : Day) (es : List (Key × ℤ)) (i : ℕ) (k : Key) (n : ℤ) → AreInOrder es
    → slice_get es i ≡ Some (k, n) → side_of day k.lot ≡ Greater → AreSlotsOff day (drop i es)
all_later day [] i k n a h s = absurd (is_none (k, n) (sym h))
all_later day (e ∷ es) zero k n a h s =
    let same = ap (λ (x : Key × ℤ). x.0) (same_some e (k, n) h) in
    let side = ap (λ q. side_of day q.lot) same ∙ s in
    (later_off day e.0.lot e.0.lot (own_day e.0.lot) side, all_off day e.0.lot es side a.0)
all_later day (e ∷ es) (suc i) k n a h s = all_later day es i k n a.1 h s

order_first : (xs ys : List (Key × ℤ)) → AreInOrder (xs ++ ys) → AreInOrder xs
order_first [] ys a = tt
order_first (x ∷ xs) ys a =
    (first (λ f. IsNotBefore x.0.lot f.0.lot) xs ys a.0, order_first xs ys a.1)

order_second : (xs ys : List (Key × ℤ)) → AreInOrder (xs ++ ys) → AreInOrder ys
order_second [] ys a = a
order_second (x ∷ xs) ys a = order_second xs ys a.1

-- the slots behind one of an earlier day
pub behind_earlier : (day : Day) (es : List (Key × ℤ)) (i : ℕ) (k : Key) (n : ℤ) → AreInOrder es
    → slice_get es i ≡ Some (k, n) → side_of day k.lot ≡ Less
    → HasAllSlots day (drop (suc i) es) es
behind_earlier day es i k n a h s = record {
  before = take (suc i) es;
  behind = [];
  all =
      sym (take-append-drop (suc i) es)
      ∙ ap (λ l. take (suc i) es ++ l) (sym (append-nil (drop (suc i) es)));
  none_before = all_earlier day es i k n a h s;
  none_behind = tt;
  ordered =
      order_second (take (suc i) es) (drop (suc i) es)
      (subst AreInOrder (sym (take-append-drop (suc i) es)) a);
}

-- the slots before one of a later day
pub before_later : (day : Day) (es : List (Key × ℤ)) (i : ℕ) (k : Key) (n : ℤ) → AreInOrder es
    → slice_get es i ≡ Some (k, n) → side_of day k.lot ≡ Greater
    → HasAllSlots day (take i es) es
before_later day es i k n a h s = record {
  before = [];
  behind = drop i es;
  all = sym (take-append-drop i es);
  none_before = tt;
  none_behind = all_later day es i k n a h s;
  ordered =
      order_first (take i es) (drop i es) (subst AreInOrder (sym (take-append-drop i es)) a);
}

pub whole : (day : Day) (es : List (Key × ℤ)) → AreInOrder es → HasAllSlots day es es
whole day es a = record {
  before = [];
  behind = [];
  all = sym (append-nil es);
  none_before = tt;
  none_behind = tt;
  ordered = a;
}

-- a part of a part
pub narrower : (day : Day) (half part es : List (Key × ℤ)) → HasAllSlots day half part
    → HasAllSlots day part es → HasAllSlots day half es
narrower day half part es h p = record {
  before = p.before ++ h.before;
  behind = h.behind ++ p.behind;
  all =
      p.all ∙ ap (λ l. p.before ++ (l ++ p.behind)) h.all
      ∙ ap (λ l. p.before ++ l)
      (append_assoc h.before (half ++ h.behind) p.behind
      ∙ ap (λ l. h.before ++ l) (append_assoc half h.behind p.behind))
      ∙ sym (append_assoc p.before h.before (half ++ (h.behind ++ p.behind)));
  none_before =
      both (λ e. IsOff (Some day) e.0.lot) p.before h.before p.none_before h.none_before;
  none_behind =
      both (λ e. IsOff (Some day) e.0.lot) h.behind p.behind h.none_behind p.none_behind;
  ordered = h.ordered;
}

-- the positions of a part

held_in : (xs ys : List (Key × ℤ)) → positions (xs ++ ys) ≡ positions xs ++ positions ys
held_in [] ys = refl
held_in (x ∷ xs) ys =
    ap (λ l. held_as x.0 x.1 ++ l) (held_in xs ys)
    ∙ sym (append_assoc (held_as x.0 x.1) (positions xs) (positions ys))

held_off : (day : Day) (es : List (Key × ℤ)) → AreSlotsOff day es
    → AreOff (Some day) (positions es)
held_off day [] a = tt
held_off day (e ∷ es) a = by (int_eq e.1 (pos 0)) (held_off day es a.1)
  where
    by : (z : Bool) → AreOff (Some day) (positions es)
        → AreOff (Some day)
        (cond z [] (record { key = e.0; count = e.1 } ∷ []) ++ positions es)
    by true rest = rest
    by false rest = (a.0, rest)

pub positions_of : (day : Day) (part es : List (Key × ℤ)) → HasAllSlots day part es
    → HasAllOf (Some day) (positions part) (positions es)
positions_of day part es h = record {
  before = positions h.before;
  behind = positions h.behind;
  all =
      ap positions h.all ∙ held_in h.before (part ++ h.behind)
      ∙ ap (λ l. positions h.before ++ l) (held_in part h.behind);
  none_before = held_off day h.before h.none_before;
  none_behind = held_off day h.behind h.none_behind;
}

pub all_positions : (day : Option Day) (es : List Position) → HasAllOf day es es
all_positions day es = record {
  before = [];
  behind = [];
  all = sym (append-nil es);
  none_before = tt;
  none_behind = tt;
}

-- what is behind some slots in order is in order
pub in_order_behind : (n : ℕ) (es : List (Key × ℤ)) → AreInOrder es → AreInOrder (drop n es)
in_order_behind zero es a = a
in_order_behind (suc n) [] a = tt
in_order_behind (suc n) (e ∷ es) a = in_order_behind n es a.1
