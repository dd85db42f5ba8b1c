-- `query LEDGER TEXT`: the table of what a query answers over a ledger.
use Rattle.std.specs.Prelude.{◌≡◌, ℕ, List, Ok}
use Rattle.bean_book.specs.Book.{Book}
use Rattle.bql_parser.specs.Asked.{Asked}
use Rattle.bql_compiler.specs.Carried.{Carries}
use Rattle.clap.specs.Walk.{Text}
use Rattle.limits.specs.declared.bounds.Bounds.{Bounds}
use Rattle.query_code.specs.QueryFile.{IsFile}
use Rattle.query_code.specs.declared.program.Parts.{Parts}
use Rattle.query_rows.specs.ColumnShape.{widest}
use Rattle.query_tables.specs.Table.{IsTableOfQuery}
use Rattle.bq.specs.Asking.{about_program_of}
use Rattle.requests.specs.Names as requests
use Rattle.bq.specs.Command.{Command}
use Rattle.bq.specs.Due.{End}
use Rattle.bq.specs.Ledgers.{about_book, about_ledger}
use Rattle.bq.specs.declared.given.Given.TheVariants.{Told}
use Rattle.endings.specs.declared.verdict.Verdict.TheVariants.{Fine}

-- the table of the rows that the query answers over the postings of a book
abbrev pub Answered : Asked → Book → End → Type 0
Answered q b end =
    (text : List ℕ) × IsTableOfQuery widest q b.ledger text × (end ≡ Ok (Told Fine text))

-- by a file: that of each query that its program carries
abbrev pub FileAnswers : List ℕ → Book → End → Type 0
FileAnswers file b end =
    (text : List ℕ) × ((p : Parts) (q : Asked) → IsFile file p → Carries widest p q
    → IsTableOfQuery widest q b.ledger text) × (end ≡ Ok (Told Fine text))

-- its program has these bounds
abbrev pub HasBounds : Bounds → List ℕ → Type 0
HasBounds b file = (p : Parts) → IsFile file p → p.bounds ≡ b

-- by the widest bounds, which each ledger is within
abbrev pub query : Command (Text × Text)
query = record {
  words = requests.query;
  due = λ words. about_program_of widest (λ q. about_ledger (about_book (Answered q)) words.0) words.1;
}
