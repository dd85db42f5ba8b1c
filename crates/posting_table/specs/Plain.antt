-- Rows that have nothing of their own but what they add to their accounts.
use Rattle.std.specs.Prelude.{ℕ, pos, ◌*ℤ◌, ◌^◌, List, [], None}
use Rattle.bean_lots.specs.declared.lot.Key.{Key}
use Rattle.posting_table.specs.declared.row.PlainRow.{PlainRow}
use Rattle.posting_table.specs.declared.row.Row.{Row}

-- units of a currency that are held without a lot
abbrev pub without_lot : List ℕ → Key
without_lot currency = record { currency = currency; lot = None }

-- the row that it is
abbrev pub row_of : PlainRow → Row
row_of p = record {
  entry = p.entry;
  account = p.account;
  position = record { key = without_lot p.currency; count = p.count };
  weight = record { count = p.count *ℤ pos (10 ^ 8); currency = p.currency };
  price = None;
  metadata = [];
  line = p.line;
  flag = None;
}
