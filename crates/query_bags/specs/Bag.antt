-- Inventories with their decimals, with units added, of the other sign, without their lots and at cost.
use Rattle.std.specs.Prelude.{◌+◌, map, ℤ}
use Rattle.bean_lots.specs.Inventory.{added, negative_entry}
use Rattle.bean_lots.specs.declared.lot.Key.{Key}
use Rattle.query_holdings.specs.Total.{units_total, cost_total}
use Rattle.query_bags.specs.declared.bag.Bag.{Bag}

abbrev pub with_entry : Bag → Key → ℤ → Bag
with_entry b k n = record { places = b.places; held = added b.held k n }

abbrev pub negative_bag : Bag → Bag
negative_bag b = record { places = b.places; held = map negative_entry b.held }

abbrev pub bag_units : Bag → Bag
bag_units b = record { places = b.places; held = units_total b.held }

-- costs have 8 decimals of their own
abbrev pub bag_cost : Bag → Bag
bag_cost b = record { places = b.places + 8; held = cost_total b.held }
