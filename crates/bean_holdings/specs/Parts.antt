-- What is taken of what is held.
use Rattle.std.specs.Prelude.{◌≡◌, ◌+◌, ◌+ℤ◌, ℤ, List}
use Rattle.std.specs.Int.RustNames.{unsigned_abs}
use Rattle.bean_lots.specs.Inventory.{count_of}
use Rattle.bean_lots.specs.declared.lot.Key.{Key}
use Rattle.bean_lots.specs.declared.lot.Position.{Position}

-- what is taken has the other sign and is no more than what is held: with what is left it makes that up
abbrev pub IsPart : ℤ → ℤ → Type 0
IsPart held taken = unsigned_abs taken + unsigned_abs (held +ℤ taken) ≡ unsigned_abs held

-- under each key
pub record AreParts (held taken : List Position) : Type 0 where
  pub each : (k : Key) → IsPart (count_of held k) (count_of taken k)
