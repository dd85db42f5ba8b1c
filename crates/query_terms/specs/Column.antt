-- The columns of the postings, and their names.
use Rattle.std.specs.Prelude.{◌≡◌, ◌&&◌, ℕ, Bool, true, false, List, codes, Option, Some}
use Rattle.std.specs.Prelude.{None, slice_get, option_and_then, if◌then◌else◌}
use Rattle.std.specs.List.{find}
use Rattle.std.specs.Str.{str_eq_ignore_ascii_case}
use Rattle.limits.specs.declared.bounds.Version.{Version}
use Rattle.limits.specs.declared.bounds.Version.TheVariants.{First, Second}
use Rattle.query_terms.specs.declared.column.Column as columns
use Rattle.query_terms.specs.declared.column.Column.TheVariants.{Date, Year, Month, Day, Flag}
use Rattle.query_terms.specs.declared.column.Column.TheVariants.{Payee, Narration, Tags, Links}
use Rattle.query_terms.specs.declared.column.Column.TheVariants.{Account, PostingFlag, Number}
use Rattle.query_terms.specs.declared.column.Column.TheVariants.{Currency, CostNumber}
use Rattle.query_terms.specs.declared.column.Column.TheVariants.{CostCurrency, CostDate}
use Rattle.query_terms.specs.declared.column.Column.TheVariants.{CostLabel, Position, Weight}
use Rattle.query_terms.specs.declared.column.Column.TheVariants.{Balance, Lineno, Accounts}
use Rattle.query_terms.specs.declared.column.Column.TheVariants.{Price}
use Rattle.query_terms.specs.declared.column.TheConstants.{COLUMNS}

abbrev pub name : columns.Column → List ℕ
name Date = codes "date"
name Year = codes "year"
name Month = codes "month"
name Day = codes "day"
name Flag = codes "flag"
name Payee = codes "payee"
name Narration = codes "narration"
name Tags = codes "tags"
name Links = codes "links"
name Account = codes "account"
name PostingFlag = codes "posting_flag"
name Number = codes "number"
name Currency = codes "currency"
name CostNumber = codes "cost_number"
name CostCurrency = codes "cost_currency"
name CostDate = codes "cost_date"
name CostLabel = codes "cost_label"
name Position = codes "position"
name Weight = codes "weight"
name Balance = codes "balance"
name Lineno = codes "lineno"
name Accounts = codes "accounts"
name Price = codes "price"

-- the accounts of a transaction have no name in queries
abbrev pub has_name : columns.Column → Bool
has_name Accounts = false
has_name _ = true

-- in small or capital letters
abbrev pub named : List ℕ → Option columns.Column
named bs =
    find (λ column. has_name column && str_eq_ignore_ascii_case bs (name column)) COLUMNS

-- the numbers of columns in the file of a query
abbrev pub number : columns.Column → ℕ
number Date = 0
number Year = 1
number Month = 2
number Day = 3
number Flag = 4
number Payee = 5
number Narration = 6
number Tags = 7
number Links = 8
number Account = 9
number PostingFlag = 10
number Number = 11
number Currency = 12
number CostNumber = 13
number CostCurrency = 14
number CostDate = 15
number CostLabel = 16
number Position = 17
number Weight = 18
number Balance = 19
number Lineno = 20
number Accounts = 21
number Price = 22

abbrev pub numbered : ℕ → Option columns.Column
numbered n = slice_get COLUMNS n

-- each column has its number, and each number at most one column
abbrev pub NumbersAreOfColumns : Type 0
NumbersAreOfColumns =
    (n : ℕ) (c : columns.Column) → numbered n ≡ Some c → number c ≡ n

abbrev pub ColumnsHaveNumbers : Type 0
ColumnsHaveNumbers = (c : columns.Column) → numbered (number c) ≡ Some c

-- the first schema has no prices
abbrev pub has_prices : Version → Bool
has_prices First = false
has_prices Second = true

-- the columns of a schema
abbrev pub is_in : Version → columns.Column → Bool
is_in schema Price = has_prices schema
is_in schema c = true

abbrev pub if_in : Version → columns.Column → Option columns.Column
if_in schema c = if is_in schema c then Some c else None

-- the column of a schema that has the number
abbrev pub numbered_in : Version → ℕ → Option columns.Column
numbered_in schema n = option_and_then (if_in schema) (numbered n)

-- those that FROM knows
abbrev pub is_of_transaction : columns.Column → Bool
is_of_transaction Date = true
is_of_transaction Year = true
is_of_transaction Month = true
is_of_transaction Day = true
is_of_transaction Flag = true
is_of_transaction Payee = true
is_of_transaction Narration = true
is_of_transaction Tags = true
is_of_transaction Links = true
is_of_transaction _ = false
