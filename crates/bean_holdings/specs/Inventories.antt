-- An inventory for each account.
use Rattle.std.specs.Prelude.{ℕ, List, [], unwrap_or}
use Rattle.std.specs.Str.{bytes_eq}
use Rattle.indexmap.specs.IndexMap.{get}
use Rattle.bean_lots.specs.declared.lot.Position.{Position}
use Rattle.bean_holdings.specs.declared.inventories.Inventories.{Inventories}

-- that of an account
abbrev pub inventory_in : Inventories → List ℕ → List Position
inventory_in i a = unwrap_or (get bytes_eq i.by_account a) []
