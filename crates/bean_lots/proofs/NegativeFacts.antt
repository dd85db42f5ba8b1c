-- Slots whose counts change their sign one after the other.
use Rattle.std.proofs.Common.{◌≡◌, ◌<◌, ◌^◌, ℕ, zero, suc, ℤ, pos, neg_ℤ, Bool, true, false, cond}
use Rattle.std.proofs.Common.{List, [], ◌∷◌, ◌++◌, map, slice_get, Some, refl, sym, ◌∙◌}
use Rattle.std.proofs.Common.{ap, subst, arith}
use Rattle.std.specs.List.{AllByRecursion}
use Rattle.std.specs.Map.{values_of}
use Rattle.std.specs.Ordering.{int_eq}
use Rattle.std.specs.Int.RustNames.{unsigned_abs}
use Rattle.std.proofs.lemmas.Int.{ints}
use Rattle.bean_lots.specs.Inventory.{MayBeNegated, held_as, negative_entry}
use Rattle.bean_lots.specs.Slots.{positions}
use Rattle.bean_lots.specs.declared.lot.Key.{Key}
use Rattle.bean_lots.proofs.ChangedFacts.{changed, changed_front}
use Rattle.bean_lots.proofs.SlotFacts.{is_none, is_zero, same_some}

-- the first n have the other sign
abbrev pub negative_front : ℕ → List (Key × ℤ) → List (Key × ℤ)
negative_front = changed_front neg_ℤ

abbrev pub negative : List (Key × ℤ) → List (Key × ℤ)
negative = changed neg_ℤ

still_zero : (n : ℤ) (b : Bool) → int_eq n (pos 0) ≡ b → int_eq (neg_ℤ n) (pos 0) ≡ b
still_zero n true h = grind (arith, ints)
still_zero n false h = grind (arith, ints)

pub held : (es : List (Key × ℤ)) → positions (negative es) ≡ map negative_entry (positions es)
held [] = refl
held (e ∷ es) = by (int_eq e.1 (pos 0)) (still_zero e.1 _ refl) (held es)
  where
    by : (z : Bool) → int_eq (neg_ℤ e.1) (pos 0) ≡ z
        → positions (negative es) ≡ map negative_entry (positions es)
        → held_as e.0 (neg_ℤ e.1) ++ positions (negative es)
        ≡ map negative_entry (cond z [] (record { key = e.0; count = e.1 } ∷ []) ++ positions es)
    by true z rest =
        ap (λ c. cond c [] (record { key = e.0; count = neg_ℤ e.1 } ∷ [])
        ++ positions (negative es)) z
        ∙ rest
    by false z rest =
        ap (λ c. cond c [] (record { key = e.0; count = neg_ℤ e.1 } ∷ [])
        ++ positions (negative es)) z
        ∙ ap (λ l. record { key = e.0; count = neg_ℤ e.1 } ∷ l) rest

-- no slot's count is the least of 128 bits
pub fits : (es : List (Key × ℤ)) (i : ℕ) (n : ℤ) → AllByRecursion MayBeNegated (positions es)
    → slice_get (values_of es) i ≡ Some n → unsigned_abs n < 2 ^ 127
fits [] i n a h = absurd (is_none n (sym h))
fits (e ∷ es) i n a h =
    by (λ a i h. fits es i n a h) (int_eq e.1 (pos 0)) refl i a h
  where
    by : (AllByRecursion MayBeNegated (positions es) → (i : ℕ)
        → slice_get (values_of es) i ≡ Some n → unsigned_abs n < 2 ^ 127)
        → (z : Bool) → int_eq e.1 (pos 0) ≡ z → (i : ℕ)
        → AllByRecursion MayBeNegated
        (cond z [] (record { key = e.0; count = e.1 } ∷ []) ++ positions es)
        → slice_get (values_of (e ∷ es)) i ≡ Some n → unsigned_abs n < 2 ^ 127
    by rest true z zero a h =
        let none : n ≡ pos 0 = sym (same_some e.1 n h) ∙ is_zero e.1 z in omega (arith, ints, none)
    by rest true z (suc i) a h = rest a i h
    by rest false z zero a h = subst (λ m. unsigned_abs m < 2 ^ 127) (same_some e.1 n h) a.0
    by rest false z (suc i) a h = rest a.1 i h
