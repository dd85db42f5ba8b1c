-- The days of slots of which the holes are taken out.
use Rattle.std.proofs.Common.{ℤ, pos, Bool, true, false, cond, not, filter, List, [], ◌∷◌}
use Rattle.std.specs.Ordering.{int_eq}
use Rattle.bean_inventories.specs.Days.{IsNotBefore}
use Rattle.bean_inventories.specs.Kept.{IsBy, AreBy, AreInOrder}
use Rattle.bean_lots.specs.Slots.{is_full}
use Rattle.bean_lots.specs.declared.lot.Key.{Key}
use Rattle.bean_lots.proofs.SweepFacts.{all_left}

order_left : (es : List (Key × ℤ)) → AreInOrder es → AreInOrder (filter is_full es)
order_left [] a = tt
order_left (e ∷ es) a = by (int_eq e.1 (pos 0)) (order_left es a.1)
  where
    by : (z : Bool) → AreInOrder (filter is_full es)
        → AreInOrder (cond (not z) (e ∷ filter is_full es) (filter is_full es))
    by true rest = rest
    by false rest = (all_left (λ q. IsNotBefore e.0.lot q.lot) es a.0, rest)

pub days_left : (day : ℤ) (es : List (Key × ℤ)) → AreInOrder es × AreBy day es
    → AreInOrder (filter is_full es) × AreBy day (filter is_full es)
days_left day es a = (order_left es a.0, all_left (λ q. IsBy day q.lot) es a.1)
