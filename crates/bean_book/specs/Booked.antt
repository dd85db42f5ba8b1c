-- What a loaded ledger comes to.
use Rattle.std.specs.Prelude.{◌≡◌, ℕ, ◌<◌, ◌≤◌, ◌++◌, ⊤, List, filter, fold, length, map, max}
use Rattle.std.specs.Prelude.{reverse, Result, Ok, Err}
use Rattle.std.specs.List.{flat_map}
use Rattle.std.specs.Str.{bytes_eq}
use Rattle.bean_base.specs.declared.amounts.Amount.{Amount}
use Rattle.bean_replay.specs.Booked.{bookings_of, faults_of, method_in_ledger}
use Rattle.bean_replay.specs.Stand.{LeadsTo, Stand}
use Rattle.bean_replay.specs.declared.booking.Booking.{Booking}
use Rattle.bean_replay.specs.declared.cause.BookCause.{BookCause}
use Rattle.bean_replay.specs.declared.cause.BookCause.TheVariants.{TooManyPostings}
use Rattle.refusals.specs.declared.refusal.Refusal.{Refusal}
use Rattle.refusals.specs.declared.refusal.Refusal.TheVariants.{OutOfMemory, Refused}
use Rattle.bean_loaded.specs.Loaded.{Loaded}
use Rattle.posting_table.specs.Decimals.{decimals_of}
use Rattle.posting_table.specs.Ledger as tables
use Rattle.limits.specs.declared.counts.TheConstants.{MOST_POSTINGS}
use Rattle.posting_table.specs.declared.row.Row.{Row}
use Rattle.bean_book.specs.Reported.{reported}
use Rattle.bean_book.specs.Rows.{rows_of, written_of}
use Rattle.bean_book.specs.Book.{Book}
use Rattle.bean_book.specs.declared.details.Details.{Details}
use Rattle.bean_book.specs.declared.details.Details.TheVariants.{All}

-- the greatest of n and the counts of decimals in the numbers written for the currency
abbrev pub decimals_from : ℕ → List ℕ → List Amount → ℕ
decimals_from n currency amounts =
    fold max n
    (map (λ a. a.number.places) (filter (λ a. bytes_eq a.currency currency) amounts))

abbrev pub rows_of_all : Details → List Booking → List Row
rows_of_all details bs = flat_map (rows_of details) bs

abbrev pub written_in_all : List Booking → List Amount
written_in_all bs = flat_map written_of bs

-- one ledger has the rows of a booking behind those of another, and shows its decimals too
pub record Adds (details : Details) (b : Booking) (old new : tables.Ledger) : Type 0 where
  pub rows : new.rows ≡ old.rows ++ rows_of details b
  pub decimals : (currency : List ℕ)
      → decimals_of new.decimals currency
      ≡ decimals_from (decimals_of old.decimals currency) currency (written_of b)

-- a ledger has the rows of these bookings, and shows for each currency the most decimals that are
-- written for it in a transaction of theirs
pub record IsLedgerOf (details : Details) (bs : List Booking) (ledger : tables.Ledger)
    : Type 0 where
  pub rows : ledger.rows ≡ rows_of_all details bs
  pub few : length ledger.rows ≤ MOST_POSTINGS
  pub decimals : (currency : List ℕ)
      → decimals_of ledger.decimals currency ≡ decimals_from 0 currency (written_in_all bs)

-- whatever is told: there are as many rows
abbrev pub AreTooMany : List Booking → Type 0
AreTooMany bs = MOST_POSTINGS < length (rows_of_all All bs)

-- the ledger of bookings, or B1 where their rows are too many
abbrev pub MakesLedger : Details → List Booking → Result tables.Ledger (Refusal BookCause)
    → Type 0
MakesLedger details bs (Ok ledger) = IsLedgerOf details bs ledger
MakesLedger details bs (Err (Refused TooManyPostings)) = AreTooMany bs
MakesLedger details bs (Err OutOfMemory) = ⊤

-- The ledger of what is booked, and all faults.
pub record IsBookOf (details : Details) (l : Loaded) (b : Book) : Type 0 where
  pub stand : Stand
  pub leads : LeadsTo (method_in_ledger l) (reverse l.directives) stand
  pub ledger : IsLedgerOf details (bookings_of stand) b.ledger
  pub faults : b.faults ≡ reported (faults_of l stand)

-- what is booked has too many rows
abbrev pub HasTooMany : Loaded → Type 0
HasTooMany l =
    (st : Stand) → LeadsTo (method_in_ledger l) (reverse l.directives) st
    → AreTooMany (bookings_of st)

-- the ledger in the book of a loaded one, with so much told, or B1 exactly where it has too many
-- postings
abbrev pub Books : Details → Loaded → Result tables.Ledger (Refusal BookCause) → Type 0
Books details l (Ok ledger) = (b : Book) × IsBookOf details l b × (ledger ≡ b.ledger)
Books details l (Err (Refused TooManyPostings)) = HasTooMany l
Books details l (Err OutOfMemory) = ⊤
