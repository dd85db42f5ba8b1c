-- What is counted over all slots.
use Rattle.std.proofs.Common.{◌≡◌, ◌&&◌, ◌+◌, ◌≤◌, ℕ, ℤ, pos, Bool, true, false, cond, List, []}
use Rattle.std.proofs.Common.{◌∷◌, ◌++◌, length, Some, refl, sym, ◌∙◌, ap, arith}
use Rattle.std.specs.Map.{lookup, remove_entry}
use Rattle.std.specs.Option.{is_some}
use Rattle.indexmap.specs.IndexMap.{insert_entry}
use Rattle.bean_lots.specs.Lot.{same_key, same_text}
use Rattle.bean_lots.specs.Inventory.{long_lot, short_lot}
use Rattle.bean_lots.specs.Slots.{in_all}
use Rattle.bean_lots.specs.declared.lot.Key.{Key}
use Rattle.bean_lots.proofs.LotFacts.{same_key_Decides}
use Rattle.bean_lots.proofs.SlotFacts.{is_none, same_some}

pub written : (f : Key → ℤ → ℕ) (es : List (Key × ℤ)) (k : Key) (m n : ℤ)
    → lookup (same_key k) es ≡ Some m
    → in_all f (insert_entry same_key es k n) + f k m ≡ in_all f es + f k n
written f [] k m n h = absurd (is_none m (sym h))
written f (e ∷ es) k m n h = by (same_key k e.0) refl h (written f es k m n)
  where
    by : (b : Bool) → same_key k e.0 ≡ b → cond b (Some e.1) (lookup (same_key k) es) ≡ Some m
        → (lookup (same_key k) es ≡ Some m
        → in_all f (insert_entry same_key es k n) + f k m ≡ in_all f es + f k n)
        → in_all f (cond b ((e.0, n) ∷ es) (e ∷ insert_entry same_key es k n)) + f k m
        ≡ (f e.0 e.1 + in_all f es) + f k n
    by true s h rest =
        let key = (same_key_Decides k e.0).0 s in
        let new : f e.0 n ≡ f k n = ap (λ q. f q n) (sym key) in
        let old : f e.0 e.1 ≡ f k m =
        ap (λ q. f q e.1) (sym key) ∙ ap (f k) (same_some e.1 m h) in
        omega (arith, new, old)
    by false s h rest = let more = rest h in omega (arith, more)

-- a hole more adds nothing
pub hole_more : (f : Key → ℤ → ℕ) (none : (k : Key) → f k (pos 0) ≡ 0) (es : List (Key × ℤ))
    (k : Key) → in_all f (es ++ (k, pos 0) ∷ []) ≡ in_all f es
hole_more f none [] k = let zero = none k in omega (arith, zero)
hole_more f none (e ∷ es) k = ap (λ n. f e.0 e.1 + n) (hole_more f none es k)

pub taken_out : (f : Key → ℤ → ℕ) (none : (k : Key) → f k (pos 0) ≡ 0) (es : List (Key × ℤ))
    (k : Key) → lookup (same_key k) es ≡ Some (pos 0)
    → in_all f (remove_entry (same_key k) es) ≡ in_all f es
taken_out f none [] k h = refl
taken_out f none (e ∷ es) k h = by (same_key k e.0) h (taken_out f none es k)
  where
    by : (b : Bool) → cond b (Some e.1) (lookup (same_key k) es) ≡ Some (pos 0)
        → (lookup (same_key k) es ≡ Some (pos 0)
        → in_all f (remove_entry (same_key k) es) ≡ in_all f es)
        → in_all f (cond b es (e ∷ remove_entry (same_key k) es)) ≡ f e.0 e.1 + in_all f es
    by true h rest =
        let zero : f e.0 e.1 ≡ 0 = ap (f e.0) (same_some e.1 (pos 0) h) ∙ none e.0 in
        omega (arith, zero)
    by false h rest = let more = rest h in omega (arith, more)

-- one slot's part is a part of all
pub part : (f : Key → ℤ → ℕ) (es : List (Key × ℤ)) (k : Key) (m : ℤ)
    → lookup (same_key k) es ≡ Some m → f k m ≤ in_all f es
part f [] k m h = absurd (is_none m (sym h))
part f (e ∷ es) k m h = by (same_key k e.0) refl h (part f es k m)
  where
    by : (b : Bool) → same_key k e.0 ≡ b → cond b (Some e.1) (lookup (same_key k) es) ≡ Some m
        → (lookup (same_key k) es ≡ Some m → f k m ≤ in_all f es)
        → f k m ≤ f e.0 e.1 + in_all f es
    by true s h rest =
        let own : f e.0 e.1 ≡ f k m =
        ap (λ q. f q e.1) (sym ((same_key_Decides k e.0).0 s))
        ∙ ap (f k) (same_some e.1 m h) in
        omega (arith, own)
    by false s h rest = let more = rest h in omega (arith, more)

pub few : (f : Key → ℤ → ℕ) (one : (k : Key) (n : ℤ) → f k n ≤ 1) (es : List (Key × ℤ))
    → in_all f es ≤ length es
few f one [] = omega arith
few f one (e ∷ es) = let rest = few f one es in let own = one e.0 e.1 in omega (arith, rest, own)

at_most_one : (b c : Bool) → cond b (cond c 1 0) 0 ≤ 1
at_most_one true true = omega arith
at_most_one true false = omega arith
at_most_one false c = omega arith

no_part : (b : Bool) (n : ℕ) → cond b n n ≡ n
no_part true n = refl
no_part false n = refl

pub one_long : (c : List ℕ) (k : Key) (n : ℤ) → long_lot c k n ≤ 1
one_long c k n = at_most_one (same_text k.currency c && is_some k.lot) _

pub one_short : (c : List ℕ) (k : Key) (n : ℤ) → short_lot c k n ≤ 1
one_short c k n = at_most_one (same_text k.currency c && is_some k.lot) _

pub not_long : (c : List ℕ) (k : Key) → long_lot c k (pos 0) ≡ 0
not_long c k = no_part (same_text k.currency c && is_some k.lot) 0

pub not_short : (c : List ℕ) (k : Key) → short_lot c k (pos 0) ≡ 0
not_short c k = no_part (same_text k.currency c && is_some k.lot) 0
