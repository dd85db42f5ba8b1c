-- What is known of the values of a column, by the bounds of ledgers.
use Rattle.std.specs.Prelude.{ℕ, ◌-◌, ◌*◌, ◌^◌, ◌≤◌}
use Rattle.limits.specs.Version.{most_postings}
use Rattle.limits.specs.declared.bounds.Bounds.{Bounds}
use Rattle.limits.specs.declared.bounds.Version.TheVariants.{Second}
use Rattle.limits.specs.declared.counts.TheConstants.{MOST_POSTINGS, LARGEST_TEXT}
use Rattle.limits.specs.declared.counts.TheConstants.{MOST_UNITS_DIGITS, MOST_VALUE_DIGITS}
use Rattle.query_terms.specs.declared.column.Column.{Column}
use Rattle.query_terms.specs.declared.column.Column.TheVariants as column
use Rattle.query_rows.specs.Rules.{whole}
use Rattle.query_rows.specs.declared.shape.Shape.{Shape}
use Rattle.query_rows.specs.declared.shape.Shape.TheVariants.{Text, Day, Set, Number}
use Rattle.query_rows.specs.declared.shape.Shape.TheVariants.{Amount, Position, Inventory}

-- bounds that a query may have: each is at least 1, and at most its limit
pub record AreBounds (b : Bounds) : Type 0 where
  pub some_postings : 1 ≤ b.postings
  pub postings : b.postings ≤ most_postings b.schema
  pub some_units : 1 ≤ b.units_digits
  pub units : b.units_digits ≤ MOST_UNITS_DIGITS
  pub some_value : 1 ≤ b.value_digits
  pub value : b.value_digits ≤ MOST_VALUE_DIGITS

-- the widest of them
abbrev pub widest : Bounds
widest = record {
  schema = Second;
  postings = MOST_POSTINGS;
  units_digits = MOST_UNITS_DIGITS;
  value_digits = MOST_VALUE_DIGITS;
}

-- the greatest count of units, of costs and of prices, and of what units are worth
abbrev pub units_most : Bounds → ℕ
units_most b = 10 ^ b.units_digits - 1

abbrev pub value_most : Bounds → ℕ
value_most b = 10 ^ b.value_digits - 1

abbrev pub column_shape : Bounds → Column → Shape
column_shape b column.Date = Day
column_shape b column.Year = whole 9999
column_shape b column.Month = whole 12
column_shape b column.Day = whole 31
column_shape b column.Flag = Text
column_shape b column.Payee = Text
column_shape b column.Narration = Text
column_shape b column.Tags = Set
column_shape b column.Links = Set
column_shape b column.Account = Text
column_shape b column.PostingFlag = Text
column_shape b column.Number = Number 8 (units_most b)
column_shape b column.Currency = Text
column_shape b column.CostNumber = Number 8 (units_most b)
column_shape b column.CostCurrency = Text
column_shape b column.CostDate = Day
column_shape b column.CostLabel = Text
column_shape b column.Position = Position (units_most b) (value_most b)
column_shape b column.Weight = Amount 16 (value_most b)
column_shape b column.Balance =
    Inventory 8 (b.postings * units_most b) (b.postings * value_most b)
column_shape b column.Lineno = whole LARGEST_TEXT
column_shape b column.Accounts = Set
column_shape b column.Price = Amount 8 (units_most b)
