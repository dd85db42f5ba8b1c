-- The book of texts.
use Rattle.std.specs.Prelude.{◌≡◌, ⊤, List, Result, Ok, Err}
use Rattle.bean_base.specs.declared.fault.Fault.{Fault}
use Rattle.bean_book.specs.Booked as booked
use Rattle.bean_book.specs.LeftOut.{IsToldOf}
use Rattle.bean_book.specs.Book.{Book}
use Rattle.bean_book.specs.declared.details.Details.{Details}
use Rattle.bean_book.specs.declared.details.Details.TheVariants.{All}
use Rattle.posting_table.specs.Ledger.{Ledger}
use Rattle.bean_replay.specs.declared.cause.BookCause.{BookCause}
use Rattle.bean_replay.specs.declared.cause.BookCause.TheVariants.{TooManyPostings}
use Rattle.refusals.specs.declared.refusal.Refusal.{Refusal}
use Rattle.refusals.specs.declared.refusal.Refusal.TheVariants.{OutOfMemory, Refused}
use Rattle.bean_load.specs.Loaded.{IsLoaded}
use Rattle.bean_loaded.specs.Loaded.{Loaded}
use Rattle.bean_load.specs.Texts.{Texts}

-- what the texts say together is booked as this, with so much told
abbrev pub IsBookOf : Details → Texts → Book → Type 0
IsBookOf details texts b = (l : Loaded) × IsLoaded texts l × booked.IsBookOf details l b

-- the texts have more postings than a ledger holds
abbrev pub HasTooMany : Texts → Type 0
HasTooMany texts = (l : Loaded) × IsLoaded texts l × booked.HasTooMany l

-- the ledger in the book of the texts, or B1 where they have too many postings
abbrev pub Books : Details → Texts → Result Ledger (Refusal BookCause) → Type 0
Books details texts (Ok ledger) = (b : Book) × IsBookOf details texts b × (ledger ≡ b.ledger)
Books details texts (Err (Refused TooManyPostings)) = HasTooMany texts
Books details texts (Err OutOfMemory) = ⊤

-- the faults in the book of the texts, or B1 where they have too many postings
abbrev pub FindsFaults : Texts → Result (List Fault) (Refusal BookCause) → Type 0
FindsFaults texts (Ok faults) = (b : Book) × IsBookOf All texts b × (faults ≡ b.faults)
FindsFaults texts (Err (Refused TooManyPostings)) = HasTooMany texts
FindsFaults texts (Err OutOfMemory) = ⊤

-- ---- details

-- the book with so much told is the book with all told, but for what isn't
abbrev pub OnlyDetailsAreLeftOut : Type 0
OnlyDetailsAreLeftOut =
    (details : Details) (texts : Texts) (bare : Book) → IsBookOf details texts bare
    → (whole : Book) × IsBookOf All texts whole × IsToldOf details bare whole

-- and nothing is refused with some details that isn't with any others
abbrev pub DetailsRefuseNothing : Type 0
DetailsRefuseNothing =
    (a b : Details) (texts : Texts) (fault : Refusal BookCause)
    → Books a texts (Err fault) → Books b texts (Err fault)
