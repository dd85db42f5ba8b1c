-- What is due about a ledger: why nothing is said of it, or what its texts or its book come to.
use Rattle.std.specs.Prelude.{◌≡◌, ◌⊎◌, Ok, Err}
use Rattle.bean_book.specs.Book.{Book}
use Rattle.bean_book.specs.declared.details.Details.TheVariants.{All}
use Rattle.bean_load.specs.Following.{IsGathered}
use Rattle.bean_load.specs.Texts.{Texts}
use Rattle.bean_load.specs.declared.cause.LoadCause.{LoadCause}
use Rattle.clap.specs.Walk.{Text}
use Rattle.refusals.specs.declared.refusal.Refusal.TheVariants as refusal
use Rattle.bean_books.specs.Booking.{HasTooMany, IsBookOf}
use Rattle.bq.specs.Due.{Due, End}
use Rattle.endings.specs.declared.refusal.Cause.TheVariants.{Load, TooManyPostings}

-- what the store gave comes to no texts, or this comes of them
abbrev pub about_ledger : (Texts → End → Type 0) → Text → Due
about_ledger Says name readings end =
    ((cause : LoadCause) × IsGathered name readings (Err (refusal.Refused cause))
    × (end ≡ Err (Load cause)))
    ⊎ ((texts : Texts) × IsGathered name readings (Ok texts) × Says texts end)

-- the texts have too many postings, or this comes of their book, however much of it is told
abbrev pub about_book : (Book → End → Type 0) → Texts → End → Type 0
about_book Says texts end =
    (HasTooMany texts × (end ≡ Err TooManyPostings))
    ⊎ ((b : Book) × IsBookOf All texts b × Says b end)
