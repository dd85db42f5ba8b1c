-- Values that are held: at most 32 decimals, and counts of at most 2^127 - 1, signs left off.
use Rattle.std.specs.Prelude.{Bool, true, ◌&&◌, nat_le, Option, Some, None, if◌then◌else◌}
use Rattle.std.specs.List.{list_all}
use Rattle.limits.specs.declared.counts.TheConstants.{MOST_PLACES}
use Rattle.query_terms.specs.WideCount.{is_wide}
use Rattle.bean_lots.specs.declared.lot.Position as entry
use Rattle.query_holdings.specs.Total.{is_count}
use Rattle.query_bags.specs.declared.bag.Bag.{Bag}
use Rattle.query_values.specs.declared.value.Value.{Value}
use Rattle.query_values.specs.declared.value.Value.TheVariants.{Number, Amount, Position, Inventory}

abbrev pub has_count : entry.Position → Bool
has_count e = is_count e.count

abbrev pub is_held_bag : Bag → Bool
is_held_bag b = nat_le b.places MOST_PLACES && list_all has_count b.held

abbrev pub is_held : Value → Bool
is_held (Number p n) = is_wide p n
is_held (Amount p c n) = is_wide p n
is_held (Position k n) = is_count n
is_held (Inventory b) = is_held_bag b
is_held x = true

-- a value, where it may be asked for and can be held
abbrev pub checked : Bool → Value → Option Value
checked may x = if may && is_held x then Some x else None
