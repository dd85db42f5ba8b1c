-- The bag that lies in one form or the other.
use Rattle.query_bags.specs.declared.bag.Bag.{Bag}
use Rattle.query_bags.specs.declared.bag.Form.{Form}
use Rattle.query_bags.specs.declared.bag.Form.TheVariants.{Grown, Kept}

abbrev pub bag_in : Form → Bag
bag_in (Grown bag) = bag.value
bag_in (Kept places held) = record { places = places; held = held }
