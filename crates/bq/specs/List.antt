-- `list LEDGER`: the table of the postings of a ledger.
use Rattle.std.specs.Prelude.{◌≡◌, ℕ, List, map, Ok}
use Rattle.bean_book.specs.Book.{Book}
use Rattle.bean_load.specs.Texts.{Texts}
use Rattle.clap.specs.Walk.{Text}
use Rattle.bq.specs.Columns.{shown}
use Rattle.requests.specs.Names as requests
use Rattle.bq.specs.Command.{Command}
use Rattle.bq.specs.Due.{End}
use Rattle.bq.specs.Ledgers.{about_book, about_ledger}
use Rattle.bq.specs.declared.given.Given.TheVariants.{Told}
use Rattle.endings.specs.declared.verdict.Verdict.TheVariants.{Fine}
use Rattle.posting_table.specs.Decimals.{decimals_of}
use Rattle.posting_table.specs.Ledger.{Ledger}
use Rattle.posting_table.specs.Row.{cell_at}
use Rattle.posting_table.specs.declared.row.Row.{Row}
use Rattle.query_terms.specs.Column.{name}
use Rattle.query_values.specs.declared.value.Value.{Value}
use Rattle.table_printer.specs.Table.{table_text}

-- date, flag, account and position
abbrev pub shown_row : Row → List Value
shown_row row = map (cell_at row) shown

abbrev pub headers : List (List ℕ)
headers = map name shown

-- the table of a ledger's postings
abbrev pub table_of : Ledger → List ℕ
table_of ledger =
    table_text headers (map shown_row ledger.rows) (decimals_of ledger.decimals)

-- that of a book, which says nothing of faults
abbrev pub Listed : Book → End → Type 0
Listed b end = end ≡ Ok (Told Fine (table_of b.ledger))

-- the table of the postings that the texts are booked as
abbrev pub Lists : Texts → End → Type 0
Lists texts end = about_book Listed texts end

abbrev pub list : Command Text
list = record {
  words = requests.list;
  due = about_ledger Lists;
}
