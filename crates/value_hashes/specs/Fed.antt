-- What tables hash of values: what values that are the same have in common.
use Rattle.std.specs.Prelude.{◌≡◌, ℕ, ℤ, true, zero, suc, ◌+◌, ◌/◌, ◌%◌, ◌^◌, ◌==◌, List, [], ◌∷◌}
use Rattle.std.specs.Prelude.{◌++◌, fold, Option, Some, None, if◌then◌else◌}
use Rattle.std.specs.Hash.{HashWrites}
use Rattle.std.specs.Hash as fed
use Rattle.std.specs.Hash.FoldHasher as folding
use Rattle.std.specs.Int.RustNames.{unsigned_abs}
use Rattle.std.specs.List.{flat_map, list_any}
use Rattle.bean_base.specs.Day.{number}
use Rattle.bean_lots.specs.Lot.{same_key}
use Rattle.bean_lots.specs.declared.lot.Key.{Key}
use Rattle.bean_lots.specs.declared.lot.Lot.{Lot}
use Rattle.bean_lots.specs.declared.lot.Position.{Position}
use Rattle.query_rows.specs.Same.{same_values}
use Rattle.query_bags.specs.declared.bag.Bag.{Bag}
use Rattle.query_values.specs.declared.value.Value.{Value}
use Rattle.query_values.specs.declared.value.Value.TheVariants.{Null, Truth, Number, Text, Day, Set}
use Rattle.query_values.specs.declared.value.Value.TheVariants.{Amount, Inventory}
use Rattle.query_values.specs.declared.value.Value.TheVariants as value

-- the count of a magnitude in the fewest decimals that are exact
abbrev pub fewest : ℕ → ℕ → ℕ
fewest zero n = n
fewest (suc places) n = if n % 10 == 0 then fewest places (n / 10) else n

-- of a number its magnitude, whatever its decimals
abbrev pub number_fed : ℕ → ℤ → HashWrites
number_fed places n = fed.u128 (fewest places (unsigned_abs n))

abbrev pub label_fed : Option (List ℕ) → HashWrites
label_fed None = []
label_fed (Some text) = flat_map fed.u8 text

abbrev pub lot_fed : Option Lot → HashWrites
lot_fed None = []
lot_fed (Some lot) = fed.i128 lot.cost.count ++ (fed.i32 (number lot.day) ++ label_fed lot.label)

abbrev pub key_fed : Key → HashWrites
key_fed key = fed.str key.currency ++ lot_fed key.lot

-- what a key with a count in the fewest decimals is hashed to; where nothing is held, 0
abbrev pub mark_by : Key → ℕ → ℕ
mark_by key n = if n == 0 then 0 else
    folding.finish (fold folding.write folding.initial (fed.u128 n ++ key_fed key))

abbrev pub mark_of : ℕ → Key → ℤ → ℕ
mark_of places key n = mark_by key (fewest places (unsigned_abs n))

-- the marks of all keys together but those that were passed, each by its first entry
abbrev pub marks_beside : ℕ → List Key → List Position → ℕ
marks_beside places passed [] = 0
marks_beside places passed (e ∷ es) =
    (if list_any (same_key e.key) passed then 0 else mark_of places e.key e.count)
    + marks_beside places (e.key ∷ passed) es

-- of an inventory the sum of its marks, which is the same in any order of its entries
abbrev pub bag_fed : Bag → HashWrites
bag_fed b = fed.u64 (marks_beside b.places [] b.held % 2 ^ 64)

abbrev pub value_fed : Value → HashWrites
value_fed Null = fed.u8 0
value_fed (Truth b) = fed.bool b
value_fed (Number places n) = number_fed places n
value_fed (Text t) = fed.str t
value_fed (Day d) = fed.i32 (number d)
value_fed (Set texts) = flat_map fed.str texts
value_fed (Amount places currency n) = number_fed places n ++ fed.str currency
value_fed (value.Position key n) = fed.i128 n ++ key_fed key
value_fed (Inventory b) = bag_fed b

abbrev pub values_fed : List Value → HashWrites
values_fed = flat_map value_fed

-- lists of values that are the same are fed alike
abbrev pub SameAreFedAlike : Type 0
SameAreFedAlike = (xs ys : List Value) → same_values xs ys ≡ true → values_fed xs ≡ values_fed ys
