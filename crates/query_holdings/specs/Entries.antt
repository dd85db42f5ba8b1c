-- The order of entries.
use Rattle.std.specs.Prelude.{Bool, List}
use Rattle.theory.specs.Arrangement.{by_key, arranged_by}
use Rattle.bean_lots.specs.Lot.{key_order}
use Rattle.bean_lots.specs.declared.lot.Position as entry

-- by currency, then by lot, none first: by what it cost, its day and its label
abbrev pub comes_before : entry.Position → entry.Position → Bool
comes_before = by_key (λ e. e.key) key_order

abbrev pub in_order : List entry.Position → List entry.Position
in_order entries = arranged_by comes_before entries
