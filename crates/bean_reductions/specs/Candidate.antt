-- The candidates of a reduction: the lots of the currency that agree with the selector and have the
-- opposite sign.
use Rattle.std.specs.Prelude.{◌<◌, Bool, true, false, ◌&&◌, ℕ, ℤ, List, [], ◌∷◌, ◌++◌, Option, Some}
use Rattle.std.specs.Prelude.{None, if◌then◌else◌}
use Rattle.std.specs.Int.RustNames.{unsigned_abs}
use Rattle.std.specs.Option.{option_eq}
use Rattle.bean_inventories.specs.Days.{has_day}
use Rattle.bean_lots.specs.Inventory.{is_opposite}
use Rattle.bean_lots.specs.Lot.{same_text, same_cost}
use Rattle.bean_lots.specs.declared.lot.Cost.{Cost}
use Rattle.bean_lots.specs.declared.lot.Lot.{Lot}
use Rattle.bean_lots.specs.declared.lot.Position.{Position}
use Rattle.bean_reductions.specs.declared.reduction.Selector.{Selector}

abbrev pub has_cost : Option Cost → Lot → Bool
has_cost None lot = true
has_cost (Some cost) lot = same_cost cost lot.cost

abbrev pub has_label : Option (List ℕ) → Lot → Bool
has_label None lot = true
has_label (Some label) lot = option_eq same_text (Some label) lot.label

-- the lot has every part that is given
abbrev pub agrees : Selector → Lot → Bool
agrees s lot = has_cost s.cost lot && has_day s.day lot && has_label s.label lot

-- a lot of the currency that agrees with the selector, whatever is held of it
abbrev pub selects : Selector → List ℕ → Option Lot → Bool
selects s currency None = false
selects s currency (Some lot) = same_text currency s.currency && agrees s lot

-- the candidate that an entry is, with what is held of it
abbrev pub candidate_of : Selector → ℤ → List ℕ → Option Lot → ℤ → List (Lot × ℕ)
candidate_of s want currency None n = []
candidate_of s want currency (Some lot) n =
    if same_text currency s.currency && agrees s lot && is_opposite want n then
    (lot, unsigned_abs n) ∷ [] else []

-- the candidates, in order of entry
abbrev pub candidates : Selector → ℤ → List Position → List (Lot × ℕ)
candidates s want [] = []
candidates s want (e ∷ es) =
    candidate_of s want e.key.currency e.key.lot e.count ++ candidates s want es

-- something is held of it
abbrev pub IsHeld : Lot × ℕ → Type 0
IsHeld c = 0 < c.1
