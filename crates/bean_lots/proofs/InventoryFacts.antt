-- An addition keeps an inventory one, and adds to one count.
use Rattle.std.proofs.Common.{◌≡◌, ℤ, pos, ◌+ℤ◌, Bool, true, false, cond, List, [], ◌∷◌, ◌++◌, refl}
use Rattle.std.proofs.Common.{sym, ◌∙◌, ap, subst, arith, if◌then◌else◌, Result, Ok, Err, OnOk}
use Rattle.std.proofs.Common.{OnErr}
use Rattle.std.specs.declared.alloc.AllocError.{AllocError}
use Rattle.std.specs.Cmp.{signed_Decides}
use Rattle.std.specs.Ordering.{int_eq}
use Rattle.std.specs.List.{AllByRecursion}
use Rattle.std.proofs.lemmas.Int.{ints}
use Rattle.bean_lots.specs.Lot.{same_key}
use Rattle.bean_lots.specs.declared.lot.Key.{Key}
use Rattle.bean_lots.specs.declared.lot.Position.{Position}
use Rattle.bean_lots.proofs.LotFacts.{same_key_equiv, same_key_Decides}
use Rattle.bean_lots.specs.Inventory.{count_of, held_as, added, DiffersFrom, IsInventory}

kept_all : (P : Key → Type 0) (es : List Position) (k : Key) (n : ℤ) → P k
    → AllByRecursion {X = Position} (λ e. P e.key) es
    → AllByRecursion {X = Position} (λ e. P e.key) (added es k n)
kept_all P [] k n p h = one (int_eq n (pos 0))
  where
    one : (b : Bool)
        → AllByRecursion {X =
        Position} (λ e. P e.key) (cond b [] (record { key = k; count = n } ∷ []))
    one true = tt
    one false = (p, tt)
kept_all P (e ∷ es) k n p h =
    by (same_key k e.key) (int_eq (e.count +ℤ n) (pos 0)) (kept_all P es k n p h.1)
  where
    by : (b z : Bool) → AllByRecursion {X = Position} (λ e. P e.key) (added es k n)
        → AllByRecursion {X =
        Position} (λ e. P e.key)
        (cond b (cond z [] (record { key = e.key; count = e.count +ℤ n } ∷ []) ++ es)
        (e ∷ added es k n))
    by true true rest = h.1
    by true false rest = h
    by false z rest = (h.0, rest)

pub kept : (es : List Position) (k : Key) (n : ℤ) → IsInventory es → IsInventory (added es k n)
kept [] k n h = one (int_eq n (pos 0)) refl
  where
    one : (b : Bool) → int_eq n (pos 0) ≡ b
        → IsInventory (cond b [] (record { key = k; count = n } ∷ []))
    one true e = tt
    one false e = (e, tt, tt)
kept (e ∷ es) k n h =
    by (same_key k e.key) refl (int_eq (e.count +ℤ n) (pos 0)) refl (kept es k n h.2)
  where
    by : (b : Bool) → same_key k e.key ≡ b → (z : Bool) → int_eq (e.count +ℤ n) (pos 0) ≡ z
        → IsInventory (added es k n)
        → IsInventory
        (cond b (cond z [] (record { key = e.key; count = e.count +ℤ n } ∷ []) ++ es)
        (e ∷ added es k n))
    by true s true z rest = h.2
    by true s false z rest = (z, h.1, h.2)
    by false s t z rest = (
      h.0,
      kept_all (λ q. same_key e.key q
          ≡ false) es k n (same_key_equiv.symm e.key k ∙ s) h.1,
      rest,
    )

absent_zero : (es : List Position) (k : Key) → AllByRecursion (DiffersFrom k) es
    → count_of es k ≡ pos 0
absent_zero [] k h = refl
absent_zero (e ∷ es) k h = ap (λ b. cond b e.count (count_of es k)) h.0 ∙ absent_zero es k h.1

zero_either : (n : ℤ) (b : Bool) → int_eq n (pos 0) ≡ true → pos 0 ≡ cond b n (pos 0)
zero_either n true e = sym ((signed_Decides n (pos 0)).0 e)
zero_either n false e = refl

entry_count : (k q : Key) (n : ℤ) → count_of (held_as k n) q ≡ cond (same_key q k) n (pos 0)
entry_count k q n = by (int_eq n (pos 0)) refl
  where
    by : (z : Bool) → int_eq n (pos 0) ≡ z
        → count_of (cond z [] (record { key = k; count = n } ∷ [])) q
        ≡ cond (same_key q k) n (pos 0)
    by true e = zero_either n (same_key q k) e
    by false e = refl

pub pointwise_added : (es : List Position) (k q : Key) (n : ℤ) → IsInventory es
    → count_of (added es k n) q ≡ count_of es q +ℤ (if same_key q k then n else pos 0)
pointwise_added [] k q n h = entry_count k q n ∙ omega (arith, ints)
pointwise_added (e ∷ es) k q n h =
    by (same_key k e.key) refl (same_key q e.key) refl (int_eq (e.count +ℤ n) (pos 0)) refl
    (pointwise_added es k q n h.2)
  where
    absent : same_key q e.key ≡ true → count_of es q ≡ pos 0
    absent s =
        absent_zero es q
        (subst (λ x. AllByRecursion (DiffersFrom x) es) (sym ((same_key_Decides q e.key).0 s)) h.1)

    alike : same_key k e.key ≡ true → same_key q k ≡ same_key q e.key
    alike s =
        same_key_equiv.symm q k ∙ same_key_equiv.congr k e.key q s ∙ same_key_equiv.symm e.key q

    apart : same_key k e.key ≡ false → same_key q e.key ≡ true → same_key q k ≡ false
    apart s t = same_key_equiv.congr q e.key k t ∙ same_key_equiv.symm e.key k ∙ s

    by : (b : Bool) → same_key k e.key ≡ b → (c : Bool) → same_key q e.key ≡ c → (z : Bool)
        → int_eq (e.count +ℤ n) (pos 0) ≡ z
        → count_of (added es k n) q ≡ count_of es q +ℤ cond (same_key q k) n (pos 0)
        → count_of
        (cond b (cond z [] (record { key = e.key; count = e.count +ℤ n } ∷ []) ++ es)
        (e ∷ added es k n)) q ≡ cond c e.count (count_of es q) +ℤ cond (same_key q k) n (pos 0)
    by true s true t true z rest =
        rw (alike s, t) (absent t ∙ sym ((signed_Decides (e.count +ℤ n) (pos 0)).0 z))
    by true s true t false z rest = rw (alike s, t) refl
    by true s false t true z rest = rw (alike s, t) (omega (arith, ints))
    by true s false t false z rest = rw (alike s, t) (omega (arith, ints))
    by false s true t z y rest = rw (apart s t, t) (omega (arith, ints))
    by false s false t z y rest = rw t rest

pub kept_either : (r : Result (Unit {0}) AllocError) (old new : List Position) (k : Key) (n : ℤ)
    → OnOk r (new ≡ added old k n) → OnErr r (new ≡ old) → IsInventory old → IsInventory new
kept_either (Ok x) old new k n e f h = subst IsInventory (sym e) (kept old k n h)
kept_either (Err x) old new k n e f h = subst IsInventory (sym f) h
