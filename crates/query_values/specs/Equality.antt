-- When values are the same.
use Rattle.std.specs.Prelude.{ℕ, ℤ, Bool, true, false, not, ◌&&◌, max, if◌then◌else◌}
use Rattle.std.specs.Cmp.Lexicographic.{pointwise}
use Rattle.std.specs.List.{list_all}
use Rattle.std.specs.Ordering.{int_eq}
use Rattle.bean_base.specs.Day.{number}
use Rattle.bean_base.specs.Decimal.{scaled}
use Rattle.bean_lots.specs.Inventory.{count_of}
use Rattle.bean_lots.specs.Lot.{same_key, same_text}
use Rattle.bean_lots.specs.declared.lot.Position.{Position}
use Rattle.query_bags.specs.declared.bag.Bag.{Bag}
use Rattle.query_values.specs.declared.value.Value.{Value}
use Rattle.query_values.specs.declared.value.Value.TheVariants.{Null, Truth, Number, Text, Day, Set}
use Rattle.query_values.specs.declared.value.Value.TheVariants.{Amount, Inventory}
use Rattle.query_values.specs.declared.value.Value.TheVariants as value

-- counts of 10^-p and of 10^-q that are the same number
abbrev pub same_number : ℕ → ℤ → ℕ → ℤ → Bool
same_number p m q n = int_eq (scaled m p (max p q)) (scaled n q (max p q))

abbrev pub same_truth : Bool → Bool → Bool
same_truth a b = if a then b else not b

-- the same count under the entry's key
abbrev pub agree_at : Bag → Bag → Position → Bool
agree_at a b e = same_number a.places (count_of a.held e.key) b.places (count_of b.held e.key)

-- the same count under each key that either has, in any order of entry
abbrev pub same_bag : Bag → Bag → Bool
same_bag a b = list_all (agree_at a b) a.held && list_all (agree_at a b) b.held

-- null is the same as null; numbers, amounts and inventories are told by value, whatever their
-- decimals
abbrev pub same : Value → Value → Bool
same Null Null = true
same (Truth a) (Truth b) = same_truth a b
same (Number p m) (Number q n) = same_number p m q n
same (Text a) (Text b) = same_text a b
same (Day a) (Day b) = int_eq (number a) (number b)
same (Set a) (Set b) = pointwise same_text a b
same (Amount p c m) (Amount q d n) = same_number p m q n && same_text c d
same (value.Position j m) (value.Position k n) = same_key j k && int_eq m n
same (Inventory a) (Inventory b) = same_bag a b
same x y = false
