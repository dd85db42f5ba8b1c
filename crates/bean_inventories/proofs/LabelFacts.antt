-- What is told of the labels of lots, once one more comes.
use Rattle.std.proofs.Common.{◌≡◌, ℕ, Bool, true, false, cond, List, Some, refl, sym, subst}
use Rattle.std.proofs.lemmas.Slice.Eq.{bytes_eq-Decides}
use Rattle.bean_inventories.specs.Labels.{IsAsNamed, lot_at}
use Rattle.bean_inventories.specs.declared.inventory.labels.LabelLot.{LabelLot}
use Rattle.bean_inventories.specs.declared.inventory.labels.LabelLots.{LabelLots}
use Rattle.bean_lots.specs.Lot.{same_text}
use Rattle.bean_lots.specs.declared.lot.Lot.{Lot}

-- what is told of one label anew holds of all lots of which it held before
pub still : (t u : LabelLots) (n : List ℕ) (told : LabelLot)
    → ((m : List ℕ) → lot_at u m ≡ cond (same_text n m) (Some told) (lot_at t m))
    → ((l : Lot) → IsAsNamed (lot_at t n) l → IsAsNamed (Some told) l)
    → (m : List ℕ) (l : Lot) → IsAsNamed (lot_at t m) l → IsAsNamed (lot_at u m) l
still t u n told put more m l h =
    subst (λ o. IsAsNamed o l) (sym (put m)) (by (same_text n m) refl)
  where
    by : (b : Bool) → same_text n m ≡ b → IsAsNamed (cond b (Some told) (lot_at t m)) l
    by true e =
        more l
        (subst (λ m. IsAsNamed (lot_at t m) l) (sym ((bytes_eq-Decides n m).0 e)) h)
    by false e = h
