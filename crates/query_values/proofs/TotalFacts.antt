-- Inventories whose counts are held, after an addition and with the other sign.
use Rattle.std.proofs.Common.{◌≡◌, ◌<◌, ◌^◌, ℤ, pos, neg_ℤ, ◌+ℤ◌, Bool, true, false, cond}
use Rattle.std.proofs.Common.{IsTrue, List, [], ◌∷◌, ◌++◌, map, unsigned_abs, refl, sym, ap, subst}
use Rattle.std.proofs.Common.{All, arith}
use Rattle.std.proofs.lemmas.Bool.Decides.{nat_tests}
use Rattle.std.proofs.lemmas.Int.{ints}
use Rattle.std.proofs.lemmas.List.Elements.{All-from_recursion}
use Rattle.std.specs.List.{AllByRecursion, list_all}
use Rattle.std.specs.Ordering.{int_eq}
use Rattle.bean_lots.specs.Inventory.{added, count_of, held_as, negative_entry, MayBeNegated}
use Rattle.bean_lots.specs.Lot.{same_key}
use Rattle.bean_lots.specs.declared.lot.Key.{Key}
use Rattle.bean_lots.specs.declared.lot.Position.{Position}
use Rattle.query_bags.proofs.SumFacts.{both}
use Rattle.query_holdings.specs.Total.{is_count}
use Rattle.query_values.specs.Held.{has_count}

nothing : (n : ℤ) → int_eq n (pos 0) ≡ true → IsTrue (is_count n)
nothing n h = grind (arith, ints, nat_tests)

held_count : (k : Key) (n : ℤ) (es : List Position)
    → (IsTrue (list_all has_count (held_as k n ++ es))) → IsTrue (is_count n)
held_count k n es h = by (int_eq n (pos 0)) refl h
  where
    by : (b : Bool) → int_eq n (pos 0) ≡ b
        → IsTrue (list_all has_count (cond b [] (record { key = k; count = n } ∷ []) ++ es))
        → IsTrue (is_count n)
    by true z h = nothing n z
    by false z h = (both (is_count n) (list_all has_count es) h).0

zero_more : (n : ℤ) → pos 0 +ℤ n ≡ n
zero_more n = omega (arith, ints)

nothing_behind : (es : List Position) → es ++ [] ≡ es
nothing_behind [] = refl
nothing_behind (e ∷ es) = ap (λ l. e ∷ l) (nothing_behind es)

-- where no count of an inventory is too large after an addition, the sum under its key isn't
pub within : (es : List Position) (k : Key) (n : ℤ) → IsTrue (list_all has_count (added es k n))
    → IsTrue (is_count (count_of es k +ℤ n))
within [] k n h =
    subst (λ m. IsTrue (is_count m)) (sym (zero_more n))
    (held_count k n []
    (subst (λ l. IsTrue (list_all has_count l)) (sym (nothing_behind (held_as k n))) h))
within (e ∷ es) k n h = by (same_key k e.key) h (within es k n)
  where
    by : (b : Bool)
        → IsTrue (list_all has_count
        (cond b (held_as e.key (e.count +ℤ n) ++ es) (e ∷ added es k n)))
        → (IsTrue (list_all has_count (added es k n)) → IsTrue (is_count (count_of es k +ℤ n)))
        → IsTrue (is_count (cond b e.count (count_of es k) +ℤ n))
    by true h rest = held_count e.key (e.count +ℤ n) es h
    by false h rest = rest (both (has_count e) (list_all has_count (added es k n)) h).1

small : (n : ℤ) → IsTrue (is_count (neg_ℤ n)) → unsigned_abs n < 2 ^ 127
small n h = grind (arith, ints, nat_tests)

negatable_each : (es : List Position) → IsTrue (list_all has_count (map negative_entry es))
    → AllByRecursion MayBeNegated es
negatable_each [] h = tt
negatable_each (e ∷ es) h = let parts =
    both (is_count (neg_ℤ e.count)) (list_all has_count (map negative_entry es)) h in
    (small e.count parts.0, negatable_each es parts.1)

-- an inventory may change its sign where it is held then
pub negatable : (es : List Position) → IsTrue (list_all has_count (map negative_entry es))
    → All MayBeNegated es
negatable es h = All-from_recursion MayBeNegated es (negatable_each es h)
