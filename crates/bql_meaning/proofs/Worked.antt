-- The postings of a worked ledger, and what the queries over it are made of:
--
--   2014-01-02 * "Buy"
--     Assets:Inv   10 HOOL {100 USD}
--     Assets:Cash
--   2014-01-03 * "Buy"
--     Assets:Inv   5 HOOL {110 USD}
--     Assets:Cash
--   2014-02-01 * "Sell"
--     Assets:Inv   -12 HOOL {}
--     Assets:Cash  1300.00 USD
--     Income:Gain
--
-- where Assets:Inv is FIFO. Cells that no worked query reads are null.
use Rattle.std.proofs.Common.{◌<◌, ◌^◌, ◌*◌, ℕ, ℤ, pos, neg_ℤ, List, [], ◌∷◌, ◌++◌, Option, Some}
use Rattle.std.proofs.Common.{None}
use Rattle.std.proofs.Common.{codes, rules, arith}
use Rattle.std.specs.Int.{IsInRange}
use Rattle.std.specs.Int.RustNames.{unsigned_abs}
use Rattle.jiff_core.specs.Calendar.{days_in_month}
use Rattle.bean_base.proofs.WorkedDays.{january_2, january_3, a_year, after}
use Rattle.bean_base.specs.declared.days.Day as day
use Rattle.bean_lots.specs.declared.lot.Key.{Key}
use Rattle.bean_lots.specs.declared.lot.Lot.{Lot}
use Rattle.bean_lots.specs.declared.lot.Position as entry
use Rattle.query_terms.specs.declared.column.Column.{Column}
use Rattle.query_terms.specs.declared.column.Column.TheVariants as column
use Rattle.query_values.specs.Operation.{whole}
use Rattle.query_values.specs.declared.value.Value.{Value}
use Rattle.query_values.specs.declared.value.Value.TheVariants.{Null, Number, Text, Day, Set}
use Rattle.query_values.specs.declared.value.Value.TheVariants.{Position, Inventory}
use Rattle.query_rows.specs.Row.{Row}

-- ---- days, counts and keys

pub february : IsInRange 1 12 2
february = search rules

pub first : IsInRange 1 (days_in_month (pos 2014) 2) 1
first = search rules

abbrev pub february_1 : day.Day
february_1 = record {
  date = record {
    year = pos 2014;
    month = 2;
    day = 1;
    year_in = a_year;
    month_in = february;
    day_in = first;
  };
  after_christ = after;
}

-- so many units, as a count of 10^-8
abbrev pub units : ℕ → ℤ
units n = pos (n * 10 ^ 8)

abbrev pub minus : ℕ → ℤ
minus n = neg_ℤ (units n)

abbrev pub usd : Key
usd = record { currency = codes "USD"; lot = None }

pub few_100 : unsigned_abs (units 100) < 10 ^ 20
few_100 = omega arith

pub few_110 : unsigned_abs (units 110) < 10 ^ 20
few_110 = omega arith

abbrev pub hool : (n : ℕ) → unsigned_abs (units n) < 10 ^ 20 → day.Day → Key
hool n few d = record {
  currency = codes "HOOL";
  lot = Some (record {
    cost = record { currency = codes "USD"; count = units n; small = few };
    day = d;
    label = None;
  });
}

abbrev pub at_100 : Key
at_100 = hool 100 few_100 january_2

abbrev pub at_110 : Key
at_110 = hool 110 few_110 january_3

abbrev pub inv : List ℕ
inv = codes "Assets:Inv"

abbrev pub cash : List ℕ
cash = codes "Assets:Cash"

abbrev pub gain : List ℕ
gain = codes "Income:Gain"

-- ---- rows

abbrev pub of_lot : (Lot → Value) → Option Lot → Value
of_lot told None = Null
of_lot told (Some lot) = told lot

abbrev pub cell_of : day.Day → List ℕ → List ℕ → Key → ℤ → Column → Value
cell_of d narration account key count column.Date = Day d
cell_of d narration account key count column.Year = whole (unsigned_abs d.date.year)
cell_of d narration account key count column.Month = whole d.date.month
cell_of d narration account key count column.Day = whole d.date.day
cell_of d narration account key count column.Flag = Text (codes "*")
cell_of d narration account key count column.Narration = Text narration
cell_of d narration account key count column.Tags = Set []
cell_of d narration account key count column.Links = Set []
cell_of d narration account key count column.Account = Text account
cell_of d narration account key count column.Number = Number 8 count
cell_of d narration account key count column.Currency = Text key.currency
cell_of d narration account key count column.CostNumber =
    of_lot (λ lot. Number 8 lot.cost.count) key.lot
cell_of d narration account key count column.CostCurrency =
    of_lot (λ lot. Text lot.cost.currency) key.lot
cell_of d narration account key count column.CostDate = of_lot (λ lot. Day lot.day) key.lot
cell_of d narration account key count column.Position = Position key count
cell_of d narration account key count column.Accounts = Set (cash ∷ inv ∷ [])
cell_of d narration account key count c = Null

abbrev pub posting : day.Day → List ℕ → List ℕ → Key → ℤ → Row
posting d narration account key count = record {
  cell = cell_of d narration account key count;
  posting_entries = [];
  transaction_entries = [];
}

abbrev pub buys : List Row
buys =
    posting january_2 (codes "Buy") inv at_100 (units 10)
    ∷ posting january_2 (codes "Buy") cash usd (minus 1000)
    ∷ posting january_3 (codes "Buy") inv at_110 (units 5)
    ∷ posting january_3 (codes "Buy") cash usd (minus 550) ∷ []

abbrev pub sale : List Row
sale =
    posting february_1 (codes "Sell") inv at_100 (minus 10)
    ∷ posting february_1 (codes "Sell") inv at_110 (minus 2)
    ∷ posting february_1 (codes "Sell") cash usd (units 1300)
    ∷ posting february_1 (codes "Sell") gain usd (minus 80) ∷ []

abbrev pub ledger : List Row
ledger = buys ++ sale

-- ---- values

abbrev pub held : Key → ℤ → entry.Position
held k n = record { key = k; count = n }

abbrev pub bag : List entry.Position → Value
bag es = Inventory (record { places = 8; held = es })
