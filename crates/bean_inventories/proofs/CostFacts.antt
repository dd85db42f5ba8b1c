-- What is told of the costs of lots, once one more comes.
use Rattle.std.proofs.Common.{◌≡◌, ℤ, Bool, true, false, cond, Some, refl, sym, subst}
use Rattle.std.specs.Cmp.{signed_Decides}
use Rattle.std.specs.Ordering.{int_eq}
use Rattle.bean_inventories.specs.Costs.{IsAsTold, day_at}
use Rattle.bean_inventories.specs.declared.inventory.costs.CostDays.{CostDays}
use Rattle.bean_inventories.specs.declared.inventory.costs.LotDay.{LotDay}
use Rattle.bean_lots.specs.declared.lot.Lot.{Lot}

-- what is told of one count anew holds of all lots of which it held before
pub still : (t u : CostDays) (n : ℤ) (told : LotDay)
    → ((m : ℤ) → day_at u m ≡ cond (int_eq n m) (Some told) (day_at t m))
    → ((l : Lot) → IsAsTold (day_at t n) l → IsAsTold (Some told) l)
    → (l : Lot) → IsAsTold (day_at t l.cost.count) l → IsAsTold (day_at u l.cost.count) l
still t u n told put more l h =
    subst (λ o. IsAsTold o l) (sym (put l.cost.count)) (by (int_eq n l.cost.count) refl)
  where
    by : (b : Bool) → int_eq n l.cost.count ≡ b
        → IsAsTold (cond b (Some told) (day_at t l.cost.count)) l
    by true e =
        more l
        (subst (λ m. IsAsTold (day_at t m) l) (sym ((signed_Decides n l.cost.count).0 e)) h)
    by false e = h
