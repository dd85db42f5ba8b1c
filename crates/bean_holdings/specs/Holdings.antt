-- What is kept of each account: its lots.
use Rattle.std.specs.Prelude.{◌≡◌, ℕ, ◌*◌, ◌^◌, List}
use Rattle.bean_reductions.specs.After.{AreSmall}
use Rattle.bean_lots.specs.Inventory.{IsInventory}
use Rattle.bean_lots.specs.declared.lot.Position.{Position}
use Rattle.bean_holdings.specs.Held.{held, lots_in}
use Rattle.bean_holdings.specs.Inventories.{inventory_in}
use Rattle.bean_holdings.specs.declared.holdings.Holdings.{Holdings}
use Rattle.bean_holdings.specs.declared.posted.Posted.{Posted}

-- the inventory of an account's lots
abbrev pub holding : Holdings → List ℕ → List Position
holding h a = inventory_in h.inventories a

abbrev pub additions_in : Holdings → ℕ
additions_in h = h.additions

-- each account has an inventory, of which so many additions can't have made a count greater
pub record IsBounded (h : Holdings) : Type 0 where
  pub inventories : (a : List ℕ) → IsInventory (holding h a)
  pub counts : (a : List ℕ) → AreSmall (h.additions * 10 ^ 20) (holding h a)

-- each account has the lots of what it holds by its postings
pub record AreHeld (ps : List Posted) (h : Holdings) : Type 0 where
  pub each : (a : List ℕ) → holding h a ≡ lots_in (held a ps)
