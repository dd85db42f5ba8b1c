-- The lots that have a label.
use Rattle.std.specs.Prelude.{◌&&◌, ℕ, Bool, false, List, Option, Some, None}
use Rattle.std.specs.Option.{option_eq}
use Rattle.bean_lots.specs.Lot.{same_text}
use Rattle.bean_lots.specs.declared.lot.Lot.{Lot}
use Rattle.bean_lots.specs.declared.lot.Position.{Position}

abbrev pub is_labelled : List ℕ → Option Lot → Bool
is_labelled label None = false
is_labelled label (Some lot) = option_eq same_text (Some label) lot.label

-- the position is a lot of that currency that has the label
abbrev pub is_lot_labelled : List ℕ → List ℕ → Position → Bool
is_lot_labelled currency label e =
    same_text e.key.currency currency && is_labelled label e.key.lot
