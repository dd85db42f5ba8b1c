-- From a book with as many details as what is asked of it needs, to the book with all.
use Rattle.std.proofs.Common.{◌≡◌, ℕ, List, [], ◌∷◌, map, refl, ap, ◌∙◌, subst, Result, Ok, Err}
use Rattle.std.specs.List.{AllByRecursion}
use Rattle.bean_book.proofs.LeftOutFacts.{whole_book}
use Rattle.bean_book.specs.LeftOut.{IsToldOf, row_told}
use Rattle.bean_book.specs.Book.{Book}
use Rattle.bean_book.specs.declared.details.Details.{Details}
use Rattle.bean_book.specs.declared.details.Details.TheVariants.{All, ButAccounts, Few}
use Rattle.bean_books.specs.Booking.{Books, IsBookOf}
use Rattle.bean_load.specs.Texts.{Texts}
use Rattle.plain_machine.specs.Unread.{but_accounts, cell_but_accounts}
use Rattle.posting_table.specs.Decimals.{decimals_of}
use Rattle.posting_table.specs.Ledger.{Ledger}
use Rattle.posting_table.specs.Row.{cell_at}
use Rattle.posting_table.specs.Rows.{row_of}
use Rattle.posting_table.specs.declared.row.Row.{Row}
use Rattle.query_rows.specs.Row as rows
use Rattle.query_values.specs.declared.value.Value.{Value}
use Rattle.query_fates.proofs.UnreadFacts.{files_alike}
use Rattle.query_fates.specs.Fates.{AreFatesOf}
use Rattle.query_fates.specs.declared.tabulating.Fate.{Fate}
use Rattle.query_tables.proofs.UnreadFacts.{outside_alike, texts_alike}
use Rattle.query_tables.specs.Unread.{AreAlikeButAccounts, FileNeedsNoAccounts, IsSoOfBoth}
use Rattle.query_terms.specs.declared.column.Column.{Column}
use Rattle.query_terms.specs.declared.column.Column.TheVariants as column
use Rattle.bq.specs.Details.{Suffice}
use Rattle.bq.specs.Ran.{HasTable}
use Rattle.endings.specs.declared.refusal.Cause.TheVariants as cause
use Rattle.endings.specs.declared.refusal.Refusal.{Refusal}
use Rattle.endings.specs.declared.refusal.Refusal.TheVariants.{OutOfMemory, Refused, NotWritten, NotKept}

-- ---- the rows of one are those of the other, but for the accounts

cell_alike : (r : Row) (c : Column)
    → cell_at (row_told ButAccounts r) c ≡ cell_but_accounts (row_of r) c
cell_alike r column.Date = refl
cell_alike r column.Year = refl
cell_alike r column.Month = refl
cell_alike r column.Day = refl
cell_alike r column.Flag = refl
cell_alike r column.Payee = refl
cell_alike r column.Narration = refl
cell_alike r column.Tags = refl
cell_alike r column.Links = refl
cell_alike r column.Account = refl
cell_alike r column.PostingFlag = refl
cell_alike r column.Number = refl
cell_alike r column.Currency = refl
cell_alike r column.CostNumber = refl
cell_alike r column.CostCurrency = refl
cell_alike r column.CostDate = refl
cell_alike r column.CostLabel = refl
cell_alike r column.Position = refl
cell_alike r column.Weight = refl
cell_alike r column.Balance = refl
cell_alike r column.Lineno = refl
cell_alike r column.Accounts = refl
cell_alike r column.Price = refl

with_cells : Row → (Column → Value) → rows.Row
with_cells r cell = record {
  cell = cell;
  posting_entries = (row_of r).posting_entries;
  transaction_entries = (row_of r).transaction_entries;
}

row_alike : (r : Row) → row_of (row_told ButAccounts r) ≡ but_accounts (row_of r)
unfolding with_cells
row_alike r = ap (with_cells r) (λ i c. cell_alike r c i)

rows_alike : (rs : List Row)
    → map row_of (map (row_told ButAccounts) rs) ≡ map but_accounts (map row_of rs)
rows_alike [] = refl
rows_alike (r ∷ rs) = λ i. row_alike r i ∷ rows_alike rs i

ledgers_alike : (bare whole : Book) → IsToldOf ButAccounts bare whole
    → AreAlikeButAccounts bare.ledger whole.ledger
ledgers_alike bare whole same = record {
  rows = ap (map row_of) same.rows ∙ rows_alike whole.ledger.rows;
  decimals = λ currency. ap (λ d. decimals_of d currency) same.decimals;
}

-- ---- so what nothing of needs them is so of the book with them

module _ (texts : Texts) (NoneNeeds : Type 0) (IsSo : Ledger → Type 0)
    (law : NoneNeeds → IsSoOfBoth IsSo) where
  so_of_whole : (details : Details) → Suffice details NoneNeeds → (b : Book)
      → IsBookOf details texts b → IsSo b.ledger
      → (whole : Book) × IsBookOf All texts whole × IsSo whole.ledger
  so_of_whole All suffice b book is = (b, book, is)
  so_of_whole Few suffice b book is = absurd suffice
  so_of_whole ButAccounts none b book is =
      let whole = whole_book ButAccounts book.0 b book.2 in
      let alike = ledgers_alike b whole.0 whole.2 in (
        whole.0,
        (book.0, book.1, whole.1),
        (law none b.ledger whole.0.ledger alike).0 is,
      )

-- what a query file has

has_alike : (file : List ℕ) → FileNeedsNoAccounts file → (r : Result (List ℕ) Refusal)
    → IsSoOfBoth (λ l. HasTable file l r)
has_alike file none (Ok text) = texts_alike file none text
has_alike file none (Err (Refused cause.OutsideBounds)) = outside_alike file
has_alike file none (Err OutOfMemory) = λ bare l alike. ((λ is. is), (λ is. is))
has_alike file none (Err (Refused cause.Words)) = λ bare l alike. ((λ is. is), (λ is. is))
has_alike file none (Err (Refused (cause.Load c))) = λ bare l alike. ((λ is. is), (λ is. is))
has_alike file none (Err (Refused (cause.Text c))) = λ bare l alike. ((λ is. is), (λ is. is))
has_alike file none (Err (Refused (cause.File c))) = λ bare l alike. ((λ is. is), (λ is. is))
has_alike file none (Err (Refused cause.TooManyPostings)) = λ bare l alike.
    ((λ is. is), (λ is. is))
has_alike file none (Err (NotWritten n)) = λ bare l alike. ((λ is. is), (λ is. is))
has_alike file none (Err NotKept) = λ bare l alike. ((λ is. is), (λ is. is))

module _ (texts : Texts) (details : Details) (ledger : Ledger)
    (books : Books details texts (Ok ledger)) where
  pub has_of_whole : (file : List ℕ) → Suffice details (FileNeedsNoAccounts file)
      → (r : Result (List ℕ) Refusal) → HasTable file ledger r
      → (whole : Book) × IsBookOf All texts whole × HasTable file whole.ledger r
  has_of_whole file suffice r has =
      so_of_whole texts (FileNeedsNoAccounts file) (λ l. HasTable file l r)
      (λ none. has_alike file none r) details suffice books.0 books.1
      (subst (λ l. HasTable file l r) books.2 has)

  pub fates_of_whole : (files : List (List ℕ))
      → Suffice details (AllByRecursion FileNeedsNoAccounts files) → (fates : List Fate)
      → AreFatesOf ledger files fates
      → (whole : Book) × IsBookOf All texts whole × AreFatesOf whole.ledger files fates
  fates_of_whole files suffice fates are =
      so_of_whole texts (AllByRecursion FileNeedsNoAccounts files) (λ l. AreFatesOf l files fates)
      (λ none. files_alike files none fates) details suffice books.0 books.1
      (subst (λ l. AreFatesOf l files fates) books.2 are)
