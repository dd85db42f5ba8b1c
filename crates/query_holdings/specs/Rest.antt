-- Positions that are still to come, however they lie.
use Rattle.std.specs.Prelude.{◌≡◌, List, map}
use Rattle.bean_lots.specs.Slots.{positions}
use Rattle.bean_lots.specs.declared.lot.Position.{Position}
use Rattle.query_holdings.specs.Entries.{in_order}
use Rattle.query_holdings.specs.Kept.{held_in}
use Rattle.query_holdings.specs.Placed.{entry_in}
use Rattle.query_holdings.specs.declared.holdings.Rest.{Rest}
use Rattle.query_holdings.specs.declared.holdings.Rest.TheVariants.{Slots, Whole, Beside}

abbrev pub still_to_come : Rest → List Position
still_to_come (Slots slots) = positions slots
still_to_come (Whole keys counts placed) = held_in keys.now counts.now
still_to_come (Beside keys counts) = held_in keys.now counts.now

-- where all are still to come, they are known in the order of their keys, too
abbrev pub AreInOrder : Rest → Type 0
AreInOrder (Slots slots) = Unit {0}
AreInOrder (Whole keys counts placed) =
    map (entry_in counts.now) placed ≡ in_order (held_in keys.now counts.now)
AreInOrder (Beside keys counts) = Unit {0}
