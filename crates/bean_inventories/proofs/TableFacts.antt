-- What is told of lots, once one more comes.
use Rattle.std.proofs.Common.{◌≡◌, ℕ, zero, suc, ℤ, List, [], ◌∷◌, Option, Some, None, Box, take}
use Rattle.std.proofs.Common.{slice_get, sym, subst}
use Rattle.std.specs.declared.alloc.Global.{Global}
use Rattle.bean_inventories.specs.Table.{AreNoted, AreTold, IsNoted}
use Rattle.bean_inventories.specs.declared.inventory.table.LotTable.{LotTable}
use Rattle.bean_lots.specs.declared.lot.Key.{Key}
use Rattle.bean_lots.specs.declared.lot.Lot.{Lot}
use Rattle.bean_lots.proofs.SlotFacts.{is_none, same_some}

untold : (es : List (Key × ℤ)) → AreTold None es
untold [] = tt
untold (e ∷ es) = (tt, untold es)

-- without a table nothing is told
pub nothing_told : (t : Option (Box LotTable Global)) (es : List (Key × ℤ)) → t ≡ None → AreTold t es
nothing_told t es none = subst (λ x. AreTold x es) (sym none) (untold es)

pub all_still : (t u : LotTable) (es : List (Key × ℤ))
    → ((l : Option Lot) → IsNoted t l → IsNoted u l) → AreNoted t es → AreNoted u es
all_still t u [] more a = tt
all_still t u (e ∷ es) more a = (more e.0.lot a.0, all_still t u es more a.1)

pub one_more : (t : LotTable) (i : ℕ) (es : List (Key × ℤ)) (k : Key) (n : ℤ)
    → slice_get es i ≡ Some (k, n) → AreNoted t (take i es) → IsNoted t k.lot
    → AreNoted t (take (suc i) es)
one_more t i [] k n at a own = absurd (is_none (k, n) (sym at))
one_more t zero (e ∷ es) k n at a own =
    (subst (λ (x : Key × ℤ). IsNoted t x.0.lot) (sym (same_some e (k, n) at)) own, tt)
one_more t (suc i) (e ∷ es) k n at a own = (a.0, one_more t i es k n at a.1 own)
