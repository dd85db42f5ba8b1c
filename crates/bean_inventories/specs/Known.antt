-- What is known of an inventory's lots, beside their slots.
use Rattle.std.specs.Prelude.{ℕ, List, Option, Some, None, Box}
use Rattle.std.specs.declared.alloc.Global.{Global}
use Rattle.bean_inventories.specs.Signs.{no_signs, signs_at}
use Rattle.bean_inventories.specs.declared.inventory.known.KnownLots.{KnownLots}
use Rattle.bean_inventories.specs.declared.inventory.signs.SignTable.{SignTable}
use Rattle.bean_inventories.specs.declared.inventory.signs.Signs.{Signs}

-- where there is no table there are no lots
abbrev pub signs_in : Option (Box SignTable Global) → List ℕ → Signs
signs_in None c = no_signs
signs_in (Some t) c = signs_at t.value c

-- the signs of the lots of a currency
abbrev pub signs_of : KnownLots → List ℕ → Signs
signs_of k c = signs_in k.signs c
