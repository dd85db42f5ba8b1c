-- When what is booked is too much.
use Rattle.std.proofs.Common.{◌≡◌, reverse, arith, refl, subst, Err}
use Rattle.bean_replay.proofs.OneBooking.{one_stand}
use Rattle.bean_replay.specs.Booked as booker
use Rattle.bean_replay.specs.Booked.{bookings_of, method_in_ledger}
use Rattle.bean_replay.specs.Stand.{LeadsTo, Stand}
use Rattle.bean_replay.specs.declared.cause.BookCause.{BookCause}
use Rattle.bean_replay.specs.declared.cause.BookCause.TheVariants.{TooManyPostings}
use Rattle.refusals.specs.declared.refusal.Refusal.{Refusal}
use Rattle.refusals.specs.declared.refusal.Refusal.TheVariants.{OutOfMemory, Refused}
use Rattle.bean_loaded.specs.Loaded.{Loaded}
use Rattle.bean_book.specs.Booked.{AreTooMany, Books, MakesLedger}
use Rattle.bean_book.specs.declared.details.Details.{Details}
use Rattle.bean_book.proofs.LedgerFacts.{rows_hold}

-- where the kept postings are too many, so are the rows
pub too_many_kept : (details : Details) (l : Loaded) (fault : Refusal BookCause)
    → (fault ≡ Refused TooManyPostings → booker.HasTooMany l) → Books details l (Err fault)
too_many_kept details l (Refused TooManyPostings) full = λ st leads.
    let rows = rows_hold st in
    let many = full refl st leads in omega (arith, rows, many)
too_many_kept details l OutOfMemory full = tt

-- where the rows are too many of what is booked, so are they of all that it may lead to
pub too_many_rows : (details : Details) (l : Loaded) (here : Stand)
    → LeadsTo (method_in_ledger l) (reverse l.directives) here → (fault : Refusal BookCause)
    → MakesLedger details (bookings_of here) (Err fault) → Books details l (Err fault)
too_many_rows details l here led (Refused TooManyPostings) many = λ st leads.
    let same = one_stand (method_in_ledger l) (reverse l.directives) here st led leads in
    subst (λ s. AreTooMany (bookings_of s)) same many
too_many_rows details l here led OutOfMemory many = tt
