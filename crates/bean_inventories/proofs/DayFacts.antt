-- Slots whose lots stand in the order of their days.
use Rattle.std.proofs.Common.{◌≡◌, ◌≤ℤ◌, ℤ, Bool, true, false, cond, List, [], ◌∷◌, ◌++◌, Option}
use Rattle.std.proofs.Common.{Some, None, sym, subst, arith}
use Rattle.std.specs.List.{AllByRecursion}
use Rattle.std.specs.Map.{lookup, remove_entry}
use Rattle.std.proofs.lemmas.Int.{ints}
use Rattle.indexmap.specs.IndexMap.{insert_entry}
use Rattle.bean_base.specs.Day.{number}
use Rattle.bean_inventories.specs.Days.{IsNotBefore}
use Rattle.bean_lots.specs.Lot.{same_key}
use Rattle.bean_inventories.specs.Kept.{IsBy, AreBy, AreInOrder}
use Rattle.bean_lots.specs.declared.lot.Key.{Key}
use Rattle.bean_lots.specs.declared.lot.Lot.{Lot}
use Rattle.bean_lots.proofs.SlotFacts.{is_none}

abbrev pub All : (Key → Type 0) → List (Key × ℤ) → Type 0
All P es = AllByRecursion {X = Key × ℤ} (λ e. P e.0) es

-- a write keeps the keys
pub all_written : (P : Key → Type 0) (es : List (Key × ℤ)) (k : Key) (m n : ℤ)
    → lookup (same_key k) es ≡ Some m → All P es → All P (insert_entry same_key es k n)
all_written P [] k m n h a = absurd (is_none m (sym h))
all_written P (e ∷ es) k m n h a =
    by (same_key k e.0) h (λ h. all_written P es k m n h a.1)
  where
    by : (b : Bool) → cond b (Some e.1) (lookup (same_key k) es) ≡ Some m
        → (lookup (same_key k) es ≡ Some m → All P (insert_entry same_key es k n))
        → All P (cond b ((e.0, n) ∷ es) (e ∷ insert_entry same_key es k n))
    by true h rest = (a.0, a.1)
    by false h rest = (a.0, rest h)

order_written : (es : List (Key × ℤ)) (k : Key) (m n : ℤ)
    → lookup (same_key k) es ≡ Some m → AreInOrder es → AreInOrder (insert_entry same_key es k n)
order_written [] k m n h a = absurd (is_none m (sym h))
order_written (e ∷ es) k m n h a =
    by (same_key k e.0) h (λ h. order_written es k m n h a.1)
  where
    by : (b : Bool) → cond b (Some e.1) (lookup (same_key k) es) ≡ Some m
        → (lookup (same_key k) es ≡ Some m → AreInOrder (insert_entry same_key es k n))
        → AreInOrder (cond b ((e.0, n) ∷ es) (e ∷ insert_entry same_key es k n))
    by true h rest = (a.0, a.1)
    by false h rest = (all_written (λ q. IsNotBefore e.0.lot q.lot) es k m n h a.0, rest h)

pub written : (day : ℤ) (es : List (Key × ℤ)) (k : Key) (m n : ℤ)
    → lookup (same_key k) es ≡ Some m → AreInOrder es × AreBy day es
    → AreInOrder (insert_entry same_key es k n) × AreBy day (insert_entry same_key es k n)
written day es k m n h a =
    (order_written es k m n h a.0, all_written (λ q. IsBy day q.lot) es k m n h a.1)

pub all_out : (P : Key → Type 0) (t : Key → Bool) (es : List (Key × ℤ)) → All P es
    → All P (remove_entry t es)
all_out P t [] a = tt
all_out P t (e ∷ es) a = by (t e.0) (all_out P t es a.1)
  where
    by : (b : Bool) → All P (remove_entry t es) → All P (cond b es (e ∷ remove_entry t es))
    by true rest = a.1
    by false rest = (a.0, rest)

order_out : (t : Key → Bool) (es : List (Key × ℤ)) → AreInOrder es
    → AreInOrder (remove_entry t es)
order_out t [] a = tt
order_out t (e ∷ es) a = by (t e.0) (order_out t es a.1)
  where
    by : (b : Bool) → AreInOrder (remove_entry t es)
        → AreInOrder (cond b es (e ∷ remove_entry t es))
    by true rest = a.1
    by false rest = (all_out (λ q. IsNotBefore e.0.lot q.lot) t es a.0, rest)

pub taken_out : (day : ℤ) (t : Key → Bool) (es : List (Key × ℤ)) → AreInOrder es × AreBy day es
    → AreInOrder (remove_entry t es) × AreBy day (remove_entry t es)
taken_out day t es a = (order_out t es a.0, all_out (λ q. IsBy day q.lot) t es a.1)

-- a lot that comes behind all others isn't of an earlier day
pub all_pushed : (P : Key → Type 0) (es : List (Key × ℤ)) (k : Key) (n : ℤ) → All P es → P k
    → All P (es ++ (k, n) ∷ [])
all_pushed P [] k n a p = (p, tt)
all_pushed P (e ∷ es) k n a p = (a.0, all_pushed P es k n a.1 p)

later : (day : ℤ) (a : Option Lot) (b : Lot) → IsBy day a → day ≤ℤ number b.day
    → IsNotBefore a (Some b)
later day None b by below = tt
later day (Some a) b by below = omega (arith, ints, by, below)

without : (a : Option Lot) → IsNotBefore a None
without None = tt
without (Some a) = tt

order_without : (es : List (Key × ℤ)) (k : Key) (n : ℤ) → k.lot ≡ None → AreInOrder es
    → AreInOrder (es ++ (k, n) ∷ [])
order_without [] k n h a = (tt, tt)
order_without (e ∷ es) k n h a = (
  all_pushed (λ q. IsNotBefore e.0.lot q.lot) es k n a.0
      (subst (IsNotBefore e.0.lot) (sym h) (without e.0.lot)),
  order_without es k n h a.1,
)

order_lot : (day : ℤ) (es : List (Key × ℤ)) (k : Key) (l : Lot) (n : ℤ) → k.lot ≡ Some l
    → day ≤ℤ number l.day → AreInOrder es → AreBy day es → AreInOrder (es ++ (k, n) ∷ [])
order_lot day [] k l n h below a b = (tt, tt)
order_lot day (e ∷ es) k l n h below a b = (
  all_pushed (λ q. IsNotBefore e.0.lot q.lot) es k n a.0
      (subst (IsNotBefore e.0.lot) (sym h) (later day e.0.lot l b.0 below)),
  order_lot day es k l n h below a.1 b.1,
)

pub pushed_without : (day : ℤ) (es : List (Key × ℤ)) (k : Key) (n : ℤ) → k.lot ≡ None
    → AreInOrder es × AreBy day es
    → AreInOrder (es ++ (k, n) ∷ []) × AreBy day (es ++ (k, n) ∷ [])
pushed_without day es k n h a = (
  order_without es k n h a.0,
  all_pushed (λ q. IsBy day q.lot) es k n a.1 (subst (IsBy day) (sym h) tt),
)

all_by : (day more : ℤ) (es : List (Key × ℤ)) → day ≤ℤ more → AreBy day es → AreBy more es
all_by day more [] h a = tt
all_by day more (e ∷ es) h a = (by e.0.lot a.0, all_by day more es h a.1)
  where
    by : (l : Option Lot) → IsBy day l → IsBy more l
    by None x = tt
    by (Some l) x = omega (arith, ints, x, h)

pub pushed_lot : (day : ℤ) (es : List (Key × ℤ)) (k : Key) (l : Lot) (n : ℤ) → k.lot ≡ Some l
    → day ≤ℤ number l.day → AreInOrder es × AreBy day es
    → AreInOrder (es ++ (k, n) ∷ []) × AreBy (number l.day) (es ++ (k, n) ∷ [])
pushed_lot day es k l n h below a =
    let own : number l.day ≤ℤ number l.day = omega (arith, ints) in (
      order_lot day es k l n h below a.0 a.1,
      all_pushed (λ q. IsBy (number l.day) q.lot) es k n
          (all_by day (number l.day) es below a.1) (subst (IsBy (number l.day)) (sym h) own),
    )
