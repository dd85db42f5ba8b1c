-- A ledger, as its callers see it.
use Rattle.std.specs.Prelude.{List}
use Rattle.posting_table.specs.Decimals.{Decimals}
use Rattle.posting_table.specs.declared.row.Row.{Row}

-- the postings in order, and the display decimals of each currency
pub record Ledger : Type 0 where
  pub rows : List Row
  pub decimals : Decimals
