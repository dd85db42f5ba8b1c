-- Lots that are counted by currency and sign, once what is held under a key becomes another count.
use Rattle.std.specs.Prelude.{◌≡◌, ◌+◌, ◌≤◌, ◌<◌, ◌^◌, ℕ, ℤ, List}
use Rattle.bean_lots.specs.Inventory.{long_lot, short_lot}
use Rattle.bean_inventories.specs.declared.inventory.signs.Signs.{Signs}
use Rattle.bean_lots.specs.declared.lot.Key.{Key}

-- what is held under the key is counted, where it is a lot
pub record IsCounted (signs : List ℕ → Signs) (k : Key) (n : ℤ) : Type 0 where
  pub long : (c : List ℕ) → long_lot c k n ≤ (signs c).long
  pub short : (c : List ℕ) → short_lot c k n ≤ (signs c).short

-- there is room to count one more
pub record AreFew (signs : List ℕ → Signs) : Type 0 where
  pub long : (c : List ℕ) → (signs c).long < 2 ^ 63
  pub short : (c : List ℕ) → (signs c).short < 2 ^ 63

-- where one count under the key was counted, another is
pub record IsRecounted (old : List ℕ → Signs) (k : Key) (before after : ℤ) (new : List ℕ → Signs) :
    Type 0 where
  pub long : (c : List ℕ) → (new c).long + long_lot c k before ≡ (old c).long + long_lot c k after
  pub short : (c : List ℕ)
      → (new c).short + short_lot c k before ≡ (old c).short + short_lot c k after
