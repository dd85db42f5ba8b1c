-- Entries in order, however they lie.
use Rattle.std.specs.Prelude.{List}
use Rattle.bean_lots.specs.declared.lot.Position as entry
use Rattle.query_holdings.specs.declared.entry.Listed.{Listed}
use Rattle.query_holdings.specs.declared.entry.Listed.TheVariants.{Entries, Placed}

abbrev pub entries_in : Listed → List entry.Position
entries_in (Entries entries) = entries.items
entries_in (Placed run) = run
