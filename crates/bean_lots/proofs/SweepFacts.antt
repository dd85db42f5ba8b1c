-- Slots of which the holes are taken out.
use Rattle.std.proofs.Common.{◌≡◌, ◌+◌, ℕ, ℤ, pos, Bool, true, false, cond, not, filter, List, []}
use Rattle.std.proofs.Common.{◌∷◌, ◌++◌, Some, None, refl, ◌∙◌, ap, arith}
use Rattle.std.specs.List.{AllByRecursion}
use Rattle.std.specs.Map.{lookup}
use Rattle.std.specs.Ordering.{int_eq}
use Rattle.bean_lots.specs.Slots.{positions, in_all, is_full}
use Rattle.bean_lots.specs.declared.lot.Key.{Key}
use Rattle.bean_lots.proofs.SlotFacts.{is_zero, is_none}

pub same : (es : List (Key × ℤ)) → positions (filter is_full es) ≡ positions es
same [] = refl
same (e ∷ es) = by (int_eq e.1 (pos 0)) refl (same es)
  where
    by : (z : Bool) → int_eq e.1 (pos 0) ≡ z → positions (filter is_full es) ≡ positions es
        → positions (cond (not z) (e ∷ filter is_full es) (filter is_full es))
        ≡ cond z [] (record { key = e.0; count = e.1 } ∷ []) ++ positions es
    by true z rest = rest
    by false z rest =
        ap (λ c. cond c [] (record { key = e.0; count = e.1 } ∷ [])
        ++ positions (filter is_full es)) z
        ∙ ap (λ l. record { key = e.0; count = e.1 } ∷ l) rest

pub counted : (f : Key → ℤ → ℕ) (none : (k : Key) → f k (pos 0) ≡ 0) (es : List (Key × ℤ))
    → in_all f (filter is_full es) ≡ in_all f es
counted f none [] = refl
counted f none (e ∷ es) = by (int_eq e.1 (pos 0)) refl (counted f none es)
  where
    by : (z : Bool) → int_eq e.1 (pos 0) ≡ z → in_all f (filter is_full es) ≡ in_all f es
        → in_all f (cond (not z) (e ∷ filter is_full es) (filter is_full es))
        ≡ f e.0 e.1 + in_all f es
    by true z rest =
        let zero : f e.0 e.1 ≡ 0 = ap (f e.0) (is_zero e.1 z) ∙ none e.0 in
        omega (arith, zero, rest)
    by false z rest = omega (arith, rest)

pub absent : (t : Key → Bool) (es : List (Key × ℤ)) → lookup t es ≡ None
    → lookup t (filter is_full es) ≡ None
absent t [] h = refl
absent t (e ∷ es) h = by (t e.0) refl (int_eq e.1 (pos 0)) h (absent t es)
  where
    by : (b : Bool) → t e.0 ≡ b → (z : Bool) → cond b (Some e.1) (lookup t es) ≡ None
        → (lookup t es ≡ None → lookup t (filter is_full es) ≡ None)
        → lookup t (cond (not z) (e ∷ filter is_full es) (filter is_full es)) ≡ None
    by true s z h rest = absurd (is_none e.1 h)
    by false s true h rest = rest h
    by false s false h rest =
        ap (λ b. cond b (Some e.1) (lookup t (filter is_full es))) s ∙ rest h

pub all_left : (P : Key → Type 0) (es : List (Key × ℤ)) → AllByRecursion {X = Key × ℤ} (λ e. P e.0) es
    → AllByRecursion {X = Key × ℤ} (λ e. P e.0) (filter is_full es)
all_left P [] a = tt
all_left P (e ∷ es) a = by (int_eq e.1 (pos 0)) (all_left P es a.1)
  where
    by : (z : Bool) → AllByRecursion {X = Key × ℤ} (λ e. P e.0) (filter is_full es)
        → AllByRecursion {X = Key × ℤ} (λ e. P e.0)
        (cond (not z) (e ∷ filter is_full es) (filter is_full es))
    by true rest = rest
    by false rest = (a.0, rest)
