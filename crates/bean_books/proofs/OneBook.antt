-- Texts have one book, so they have not both a book and too many postings.
use Rattle.std.proofs.Common.{◌≡◌, ℕ, ◌<◌, ◌≤◌, List, length, reverse, Result, Ok, Err}
use Rattle.std.proofs.Common.{sym, ap, ◌∙◌, subst, arith}
use Rattle.bean_base.specs.declared.fault.Fault.{Fault}
use Rattle.bean_book.specs.Found as found
use Rattle.bean_book.specs.Booked as booked
use Rattle.bean_book.specs.Booked.{decimals_from, rows_of_all, written_in_all}
use Rattle.bean_book.specs.OneBook.{AreAlike}
use Rattle.bean_book.specs.Reported.{reported}
use Rattle.bean_book.specs.Book.{Book}
use Rattle.bean_book.specs.declared.details.Details.{Details}
use Rattle.bean_book.specs.declared.details.Details.TheVariants.{All}
use Rattle.bean_book.proofs.LeftOutFacts.{as_many_rows}
use Rattle.bean_replay.proofs.OneBooking.{one_stand}
use Rattle.bean_replay.specs.Booked.{bookings_of, faults_of, method_in_ledger}
use Rattle.bean_replay.specs.declared.cause.BookCause.{BookCause}
use Rattle.bean_replay.specs.declared.cause.BookCause.TheVariants.{TooManyPostings}
use Rattle.refusals.specs.declared.refusal.Refusal.{Refusal}
use Rattle.refusals.specs.declared.refusal.Refusal.TheVariants.{OutOfMemory, Refused}
use Rattle.bean_load.specs.Loaded.{IsLoaded}
use Rattle.bean_loaded.specs.Loaded.{Loaded}
use Rattle.bean_load.specs.Texts.{Texts}
use Rattle.bean_load.proofs.OneLoading.{one_loading}
use Rattle.limits.specs.declared.counts.TheConstants.{MOST_POSTINGS}
use Rattle.posting_table.specs.Ledger.{Ledger}
use Rattle.bean_books.specs.Booking.{Books, FindsFaults, HasTooMany, IsBookOf}

too_many : (most n m : ℕ) → n ≤ most → n ≡ m → most < m → ⊥
too_many most n m few same many = absurd (omega (arith, few, same, many))

pub not_too_many : (details : Details) (texts : Texts) (b : Book) → IsBookOf details texts b
    → ¬ HasTooMany texts
not_too_many details texts b is many =
    let l = is.0 in
    let book = is.2 in
    let more : booked.HasTooMany l =
    subst booked.HasTooMany (one_loading texts many.0 l many.1 is.1) many.2 in
    let bs = bookings_of book.stand in
    too_many MOST_POSTINGS (length b.ledger.rows) (length (rows_of_all All bs)) book.ledger.few
    (ap length book.ledger.rows ∙ as_many_rows details bs) (more book.stand book.leads)

alike : (details : Details) (l : Loaded) (a b : Book) → booked.IsBookOf details l a
    → booked.IsBookOf details l b → AreAlike a b
alike details l a b h g =
    let same =
    one_stand (method_in_ledger l) (reverse l.directives) h.stand g.stand h.leads g.leads in
    record {
      rows = h.ledger.rows ∙ ap (λ st. rows_of_all details (bookings_of st)) same ∙ sym g.ledger.rows;
      decimals = λ currency. h.ledger.decimals currency
          ∙ ap (λ st. decimals_from 0 currency (written_in_all (bookings_of st))) same
          ∙ sym (g.ledger.decimals currency);
      faults = h.faults ∙ ap (λ st. reported (faults_of l st)) same ∙ sym g.faults;
    }

pub one_book : (details : Details) (texts : Texts) (a b : Book) → IsBookOf details texts a
    → IsBookOf details texts b → AreAlike a b
one_book details texts a b h g =
    alike details h.0 a b h.2
    (subst (λ l. booked.IsBookOf details l b) (one_loading texts g.0 h.0 g.1 h.1) g.2)

-- what is found in what texts say is found in the texts
pub found_in : (texts : Texts) (l : Loaded) → IsLoaded texts l
    → (r : Result (List Fault) (Refusal BookCause)) → found.FindsFaults l r → FindsFaults texts r
found_in texts l is (Ok faults) h = (h.0, (l, is, h.1), h.2)
found_in texts l is (Err (Refused TooManyPostings)) h = (l, is, h)
found_in texts l is (Err OutOfMemory) h = tt

-- the ledger of what texts say is that of the texts
pub books_in : (details : Details) (texts : Texts) (l : Loaded) → IsLoaded texts l
    → (r : Result Ledger (Refusal BookCause)) → booked.Books details l r → Books details texts r
books_in details texts l is (Ok ledger) h = (h.0, (l, is, h.1), h.2)
books_in details texts l is (Err (Refused TooManyPostings)) h = (l, is, h)
books_in details texts l is (Err OutOfMemory) h = tt
