-- The faults of what a loaded ledger is booked as.
use Rattle.std.specs.Prelude.{◌≡◌, ⊤, List, Result, Ok, Err}
use Rattle.bean_base.specs.declared.fault.Fault.{Fault}
use Rattle.bean_replay.specs.declared.cause.BookCause.{BookCause}
use Rattle.bean_replay.specs.declared.cause.BookCause.TheVariants.{TooManyPostings}
use Rattle.refusals.specs.declared.refusal.Refusal.{Refusal}
use Rattle.refusals.specs.declared.refusal.Refusal.TheVariants.{OutOfMemory, Refused}
use Rattle.bean_loaded.specs.Loaded.{Loaded}
use Rattle.bean_book.specs.Booked.{HasTooMany, IsBookOf}
use Rattle.bean_book.specs.Book.{Book}
use Rattle.bean_book.specs.declared.details.Details.TheVariants.{All}

-- the faults of the book of a loaded ledger, or B1 exactly where it has too many postings
abbrev pub FindsFaults : Loaded → Result (List Fault) (Refusal BookCause) → Type 0
FindsFaults l (Ok faults) = (b : Book) × IsBookOf All l b × (faults ≡ b.faults)
FindsFaults l (Err (Refused TooManyPostings)) = HasTooMany l
FindsFaults l (Err OutOfMemory) = ⊤
