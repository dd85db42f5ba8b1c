-- What is left of an inventory by takes that aren't in it yet.
use Rattle.std.specs.Prelude.{ℕ, ◌≤◌, ℤ, ◌+ℤ◌, Bool, ◌&&◌, List, [], ◌∷◌, ◌++◌}
use Rattle.std.specs.Int.RustNames.{unsigned_abs}
use Rattle.std.specs.List.{AllByRecursion, list_any}
use Rattle.std.specs.Option.{is_some}
use Rattle.bean_lots.specs.Inventory.{is_opposite}
use Rattle.bean_lots.specs.Inventory.{count_of, held_as}
use Rattle.bean_lots.specs.Lot.{same_text}
use Rattle.bean_lots.specs.declared.lot.Key.{Key}
use Rattle.bean_lots.specs.declared.lot.Position.{Position}

-- each entry with what was taken of it; one that comes to 0 is gone
abbrev pub after : List Position → List Position → List Position
after [] taken = []
after (e ∷ es) taken = held_as e.key (e.count +ℤ count_of taken e.key) ++ after es taken

abbrev pub is_opposite_lot : List ℕ → ℤ → Key → ℤ → Bool
is_opposite_lot currency want k n =
    same_text k.currency currency && (is_some k.lot && is_opposite want n)

-- some lot of the currency has the sign opposite to the want
abbrev pub has_opposite : List ℕ → ℤ → List Position → Bool
has_opposite currency want es = list_any (λ e. is_opposite_lot currency want e.key e.count) es

abbrev pub IsSmall : ℕ → Position → Type 0
IsSmall n e = unsigned_abs e.count ≤ n

-- no count is greater than n, whatever its sign
abbrev pub AreSmall : ℕ → List Position → Type 0
AreSmall n es = AllByRecursion (IsSmall n) es
