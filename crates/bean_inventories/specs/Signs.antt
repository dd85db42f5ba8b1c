-- The signs of the lots of a currency, as the program counts them.
use Rattle.std.specs.Prelude.{ℕ, ℤ, pos, Bool, List, unwrap_or, if◌then◌else◌}
use Rattle.std.specs.Int.Signed.{lt_z}
use Rattle.indexmap.specs.IndexMap.{get}
use Rattle.bean_lots.specs.Lot.{same_text}
use Rattle.bean_inventories.specs.declared.inventory.signs.LotCurrency.{LotCurrency}
use Rattle.bean_inventories.specs.declared.inventory.signs.Signs.{Signs}
use Rattle.bean_inventories.specs.declared.inventory.signs.SignTable.{SignTable}

abbrev pub no_signs : Signs
no_signs = record { long = 0; short = 0 }

-- of so many lots above 0 and so many below, those that have the sign opposite to the want
abbrev pub against : ℤ → ℕ → ℕ → ℕ
against want long short =
    if lt_z want (pos 0) then long else (if lt_z (pos 0) want then short else 0)

abbrev pub same_currency : LotCurrency → LotCurrency → Bool
same_currency a b = same_text a.currency b.currency

-- those of the lots of a currency
abbrev pub signs_at : SignTable → List ℕ → Signs
signs_at t c = unwrap_or (get same_currency t.by_currency (record { currency = c })) no_signs
