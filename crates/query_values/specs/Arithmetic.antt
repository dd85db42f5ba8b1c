-- Arithmetic of values, with counts of any size; of null it gives null.
use Rattle.std.specs.Prelude.{ℕ, ◌+◌, max, pos, neg_ℤ, ◌+ℤ◌, ◌-ℤ◌, ◌*ℤ◌}
use Rattle.std.specs.Int.RustNames.{unsigned_abs}
use Rattle.bean_base.specs.Decimal.{scaled}
use Rattle.query_bags.specs.Bag.{negative_bag}
use Rattle.query_values.specs.declared.value.Value.{Value}
use Rattle.query_values.specs.declared.value.Value.TheVariants.{Null, Number, Amount, Position}
use Rattle.query_values.specs.declared.value.Value.TheVariants.{Inventory}

-- the same number with so many decimals
abbrev pub aligned : ℕ → Value → Value
aligned places (Number p n) = Number places (scaled n p places)
aligned places x = Null

-- a sum keeps the larger count of decimals
abbrev pub sum_of : Value → Value → Value
sum_of (Number p m) (Number q n) =
    Number (max p q) (scaled m p (max p q) +ℤ scaled n q (max p q))
sum_of x y = Null

abbrev pub difference_of : Value → Value → Value
difference_of (Number p m) (Number q n) =
    Number (max p q) (scaled m p (max p q) -ℤ scaled n q (max p q))
difference_of x y = Null

-- a product has the decimals of both together
abbrev pub product_of : Value → Value → Value
product_of (Number p m) (Number q n) = Number (p + q) (m *ℤ n)
product_of x y = Null

abbrev pub negative_of : Value → Value
negative_of (Number p n) = Number p (neg_ℤ n)
negative_of (Amount p c n) = Amount p c (neg_ℤ n)
negative_of (Position k n) = Position k (neg_ℤ n)
negative_of (Inventory b) = Inventory (negative_bag b)
negative_of x = Null

abbrev pub magnitude_of : Value → Value
magnitude_of (Number p n) = Number p (pos (unsigned_abs n))
magnitude_of x = Null
