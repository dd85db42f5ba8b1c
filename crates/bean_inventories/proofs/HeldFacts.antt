-- What slots say of the positions that they hold, and what is left to say of the rest of a list.
use Rattle.std.proofs.Common.{◌≡◌, ◌+◌, ◌<◌, ◌≤◌, nat_lt, ℕ, ℤ, pos, Bool, true, false, cond, ◌&&◌, ◌||◌, List, []}
use Rattle.std.proofs.Common.{◌∷◌}
use Rattle.std.proofs.Common.{◌++◌, length, Option, refl, ◌∙◌, ap, arith}
use Rattle.std.specs.List.{AllByRecursion}
use Rattle.std.specs.Option.{is_some}
use Rattle.std.specs.Ordering.{int_eq}
use Rattle.std.proofs.lemmas.Bool.Decides.{nat_tests}
use Rattle.std.proofs.lemmas.Int.{ints}
use Rattle.bean_lots.specs.Inventory.{as_long, as_short, has_lot, in_each, long_lot, short_lot}
use Rattle.bean_lots.specs.Lot.{same_text}
use Rattle.bean_inventories.specs.Days.{IsNotBefore, RiseInDays}
use Rattle.bean_lots.specs.Slots.{in_all, positions}
use Rattle.bean_inventories.specs.Kept.{AreInOrder}
use Rattle.bean_lots.specs.declared.lot.Key.{Key}
use Rattle.bean_lots.specs.declared.lot.Lot.{Lot}
use Rattle.bean_lots.specs.declared.lot.Position.{Position}
use Rattle.bean_lots.proofs.SlotFacts.{is_zero}
use Rattle.bean_inventories.proofs.TallyFacts.{not_long, not_short}

pub shorter : {A : Type 0} (es rest : List A) (e : A) → es ≡ e ∷ rest → length rest < length es
shorter es rest e is = let same = ap length is in omega (arith, same)

all_behind : (l : Option Lot) (es : List (Key × ℤ))
    → AllByRecursion {X = Key × ℤ} (λ f. IsNotBefore l f.0.lot) es
    → AllByRecursion {X = Position} (λ f. IsNotBefore l f.key.lot) (positions es)
all_behind l [] a = tt
all_behind l (e ∷ es) a = by (int_eq e.1 (pos 0)) (all_behind l es a.1)
  where
    by : (z : Bool) → AllByRecursion {X = Position} (λ f. IsNotBefore l f.key.lot) (positions es)
        → AllByRecursion {X = Position} (λ f. IsNotBefore l f.key.lot)
        (cond z [] (record { key = e.0; count = e.1 } ∷ []) ++ positions es)
    by true rest = rest
    by false rest = (a.0, rest)

-- slots in order hold lots in order
pub rising : (es : List (Key × ℤ)) → AreInOrder es → RiseInDays (positions es)
rising [] a = tt
rising (e ∷ es) a = by (int_eq e.1 (pos 0)) (rising es a.1)
  where
    by : (z : Bool) → RiseInDays (positions es)
        → RiseInDays (cond z [] (record { key = e.0; count = e.1 } ∷ []) ++ positions es)
    by true rest = rest
    by false rest = (all_behind e.0.lot es a.0, rest)

-- each position has a slot
pub no_more_held : (es : List (Key × ℤ)) → length (positions es) ≤ length es
no_more_held [] = omega arith
no_more_held (e ∷ es) = by (int_eq e.1 (pos 0)) (no_more_held es)
  where
    by : (z : Bool) → length (positions es) ≤ length es
        → length (cond z [] (record { key = e.0; count = e.1 } ∷ []) ++ positions es)
        ≤ length (e ∷ es)
    by true rest = omega (arith, rest)
    by false rest = omega (arith, rest)

-- so many in slots as of what is held in them
pub in_slots : (f : Key → ℤ → ℕ) (none : (k : Key) → f k (pos 0) ≡ 0) (es : List (Key × ℤ))
    → in_all f es ≡ in_each f (positions es)
in_slots f none [] = refl
in_slots f none (e ∷ es) = by (int_eq e.1 (pos 0)) refl (in_slots f none es)
  where
    by : (z : Bool) → int_eq e.1 (pos 0) ≡ z → in_all f es ≡ in_each f (positions es)
        → f e.0 e.1 + in_all f es
        ≡ in_each f (cond z [] (record { key = e.0; count = e.1 } ∷ []) ++ positions es)
    by true z rest =
        let zero : f e.0 e.1 ≡ 0 = ap (f e.0) (is_zero e.1 z) ∙ none e.0 in omega (arith, zero, rest)
    by false z rest = ap (λ n. f e.0 e.1 + n) rest

some : (n : ℤ) → int_eq n (pos 0) ≡ false → as_long n + as_short n ≡ 1
some n h = grind (arith, ints)

-- a lot is above 0 or below
pub either_sign : (c : List ℕ) (es : List (Key × ℤ))
    → has_lot c (positions es) ≡ nat_lt 0 (in_all (long_lot c) es + in_all (short_lot c) es)
either_sign c [] = refl
either_sign c (e ∷ es) = by (int_eq e.1 (pos 0)) refl (either_sign c es)
  where
    long : ℕ
    long = in_all (long_lot c) es

    short : ℕ
    short = in_all (short_lot c) es

    lot : (b : Bool) → int_eq e.1 (pos 0) ≡ false → has_lot c (positions es) ≡ nat_lt 0 (long + short)
        → (b || has_lot c (positions es))
        ≡ nat_lt 0 ((cond b (as_long e.1) 0 + long) + (cond b (as_short e.1) 0 + short))
    lot true z rest = let one = some e.1 z in grind (arith, nat_tests, one)
    lot false z rest = let same : long + short ≡ (0 + long) + (0 + short) = omega arith in
        rest ∙ ap (nat_lt 0) same

    by : (z : Bool) → int_eq e.1 (pos 0) ≡ z → has_lot c (positions es) ≡ nat_lt 0 (long + short)
        → has_lot c (cond z [] (record { key = e.0; count = e.1 } ∷ []) ++ positions es)
        ≡ nat_lt 0 ((long_lot c e.0 e.1 + long) + (short_lot c e.0 e.1 + short))
    by true z rest =
        let above : long_lot c e.0 e.1 ≡ 0 = ap (long_lot c e.0) (is_zero e.1 z) ∙ not_long c e.0 in
        let below : short_lot c e.0 e.1 ≡ 0 =
        ap (short_lot c e.0) (is_zero e.1 z) ∙ not_short c e.0 in
        let same : long + short ≡ (long_lot c e.0 e.1 + long) + (short_lot c e.0 e.1 + short) =
        omega (arith, above, below) in
        rest ∙ ap (nat_lt 0) same
    by false z rest = lot (same_text e.0.currency c && is_some e.0.lot) z rest

pub first_sign : (long short l s : ℕ) (has : Bool) → l ≡ long → s ≡ short
    → has ≡ nat_lt 0 (long + short) → 0 < l → nat_lt 0 l ≡ has
first_sign long short l s has e f h t = grind (arith, nat_tests)

pub other_sign : (long short l s : ℕ) (has : Bool) → l ≡ long → s ≡ short
    → has ≡ nat_lt 0 (long + short) → l ≤ 0 → nat_lt 0 s ≡ has
other_sign long short l s has e f h t = grind (arith, nat_tests)
