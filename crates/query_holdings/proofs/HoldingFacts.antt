-- A key that comes behind all others.
use Rattle.std.proofs.Common.{◌≡◌, ℤ, pos, ◌+ℤ◌, Bool, true, false, cond, List, [], ◌∷◌, ◌++◌, Some, None}
use Rattle.std.proofs.Common.{refl, sym, ap, ◌∙◌}
use Rattle.std.proofs.lemmas.List.{append-nil}
use Rattle.std.specs.Map.{lookup}
use Rattle.std.specs.Ordering.{int_eq}
use Rattle.bean_lots.specs.Inventory.{added, held_as}
use Rattle.bean_lots.specs.Lot.{same_key}
use Rattle.bean_lots.specs.Slots.{positions}
use Rattle.bean_lots.specs.declared.lot.Key.{Key}
use Rattle.bean_lots.specs.declared.lot.Position.{Position}
use Rattle.bean_lots.proofs.SlotFacts.{is_none}

behind : (k q : Key) (m n : ℤ) (es : List Position) → same_key k q ≡ false
    → added (held_as q m ++ es) k n ≡ held_as q m ++ added es k n
behind k q m n es s = by (int_eq m (pos 0))
  where
    by : (z : Bool)
        → added (cond z [] (record { key = q; count = m } ∷ []) ++ es) k n
        ≡ cond z [] (record { key = q; count = m } ∷ []) ++ added es k n
    by true = refl
    by false =
        ap (λ b. cond b (held_as q (m +ℤ n) ++ es) (record { key = q; count = m } ∷ added es k n)) s

pub last : (es : List (Key × ℤ)) (k : Key) (n : ℤ) → lookup (same_key k) es ≡ None
    → positions (es ++ (k, n) ∷ []) ≡ added (positions es) k n
last [] k n h = append-nil (held_as k n)
last (e ∷ es) k n h = by (same_key k e.0) refl h (last es k n)
  where
    by : (b : Bool) → same_key k e.0 ≡ b → cond b (Some e.1) (lookup (same_key k) es) ≡ None
        → (lookup (same_key k) es ≡ None
        → positions (es ++ (k, n) ∷ []) ≡ added (positions es) k n)
        → held_as e.0 e.1 ++ positions (es ++ (k, n) ∷ [])
        ≡ added (held_as e.0 e.1 ++ positions es) k n
    by true s h rest = absurd (is_none e.1 h)
    by false s h rest =
        ap (λ l. held_as e.0 e.1 ++ l) (rest h) ∙ sym (behind k e.0 e.1 n (positions es) s)
