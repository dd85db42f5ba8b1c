-- An inventory as the list of its positions, in order of entry.
use Rattle.std.specs.Prelude.{◌≡◌, ◌^◌, ◌<◌, ◌&&◌, ◌||◌, ℕ, Bool, false, List, [], ◌∷◌, ◌++◌, ℤ}
use Rattle.std.specs.Prelude.{pos}
use Rattle.std.specs.Prelude.{neg_ℤ, ◌+ℤ◌, ◌+◌}
use Rattle.std.specs.Prelude.{if◌then◌else◌}
use Rattle.std.specs.Int.RustNames.{unsigned_abs}
use Rattle.std.specs.Int.Signed.{lt_z}
use Rattle.std.specs.Ordering.{int_eq}
use Rattle.std.specs.List.{AllByRecursion, list_any}
use Rattle.std.specs.Option.{is_some}
use Rattle.bean_lots.specs.Lot.{same_key, same_text}
use Rattle.bean_lots.specs.declared.lot.Key.{Key}
use Rattle.bean_lots.specs.declared.lot.Position.{Position}

-- the count under a key, 0 where it has none
abbrev pub count_of : List Position → Key → ℤ
count_of [] k = pos 0
count_of (e ∷ es) k = if same_key k e.key then e.count else count_of es k

abbrev pub position_of : Key → ℤ → Position
position_of k n = record { key = k; count = n }

-- the position of a count, none for 0
abbrev pub held_as : Key → ℤ → List Position
held_as k n = if int_eq n (pos 0) then [] else position_of k n ∷ []

-- with n more under a key: a new key goes last, one that is there keeps its place, and one that
-- comes to 0 goes
abbrev pub added : List Position → Key → ℤ → List Position
added [] k n = held_as k n
added (e ∷ es) k n = if same_key k e.key then held_as e.key (e.count +ℤ n) ++ es else
    e ∷ added es k n

abbrev pub is_lot_of : List ℕ → Position → Bool
is_lot_of currency e = same_text e.key.currency currency && is_some e.key.lot

-- some lot of the currency is held
abbrev pub has_lot : List ℕ → List Position → Bool
has_lot currency es = list_any (is_lot_of currency) es

abbrev pub as_long : ℤ → ℕ
as_long n = if lt_z (pos 0) n then 1 else 0

abbrev pub as_short : ℤ → ℕ
as_short n = if lt_z n (pos 0) then 1 else 0

-- one for a lot of the currency that is held with a count above 0
abbrev pub long_lot : List ℕ → Key → ℤ → ℕ
long_lot currency k n =
    if same_text k.currency currency && is_some k.lot then as_long n else 0

-- one for a lot of the currency that is held with a count below 0
abbrev pub short_lot : List ℕ → Key → ℤ → ℕ
short_lot currency k n =
    if same_text k.currency currency && is_some k.lot then as_short n else 0

-- so many of each position together
abbrev pub in_each : (Key → ℤ → ℕ) → List Position → ℕ
in_each f [] = 0
in_each f (e ∷ es) = f e.key e.count + in_each f es

-- how many lots of the currency are held with a count above 0
abbrev pub long_lots : List ℕ → List Position → ℕ
long_lots currency es = in_each (long_lot currency) es

-- how many lots of the currency are held with a count below 0
abbrev pub short_lots : List ℕ → List Position → ℕ
short_lots currency es = in_each (short_lot currency) es

-- a count has the sign opposite to the want
abbrev pub is_opposite : ℤ → ℤ → Bool
is_opposite want n = (lt_z want (pos 0) && lt_z (pos 0) n) || (lt_z (pos 0) want && lt_z n (pos 0))

-- the entry of the other sign
abbrev pub negative_entry : Position → Position
negative_entry e = record { key = e.key; count = neg_ℤ e.count }

abbrev pub MayBeNegated : Position → Type 0
MayBeNegated e = unsigned_abs e.count < 2 ^ 127

abbrev pub DiffersFrom : Key → Position → Type 0
DiffersFrom k e = same_key k e.key ≡ false

-- no count is 0, and no key comes twice
abbrev pub IsInventory : List Position → Type 0
IsInventory [] = Unit {0}
IsInventory (e ∷ es) =
    (int_eq e.count (pos 0) ≡ false) × AllByRecursion (DiffersFrom e.key) es × IsInventory es
