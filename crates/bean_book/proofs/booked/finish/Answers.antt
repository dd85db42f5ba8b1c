use Rattle.std.proofs.Common.{◌∙◌, Result, Ok, Err, ap, length, refl, reverse, subst, sym}
use Rattle.std.specs.List.{AllByRecursion}
use Rattle.bean_loaded.specs.Loaded.{Loaded}
use Rattle.bean_replay.proofs.PadFacts.{as_many}
use Rattle.bean_replay.specs.Booked.{bookings_of, faults_of, method_in_ledger, with_pads}
use Rattle.bean_replay.specs.Small.{IsSmallNoted}
use Rattle.bean_replay.specs.Stand.{LeadsTo, Stand}
use Rattle.bean_replay.specs.declared.cause.BookCause.{BookCause}
use Rattle.posting_table.specs.Ledger.{Ledger}
use Rattle.refusals.specs.declared.refusal.Refusal.{Refusal}
use Rattle.bean_book.specs.Booked.{Books, MakesLedger}
use Rattle.bean_book.specs.Reported.{reported}
use Rattle.bean_book.specs.declared.details.Details.{Details}
use Rattle.bean_book.proofs.BookFacts.{too_many_rows}
use Rattle.bean_book.proofs.booked.finish.Goals as goal

pub with_pads-requires-clause-small : goal.with_pads-requires-clause-small
with_pads-requires-clause-small c =
    subst (AllByRecursion IsSmallNoted) (sym c.into_vec.ensures) c.requires.small

pub with_pads-requires-clause-booked : goal.with_pads-requires-clause-booked
with_pads-requires-clause-booked c =
    let l = c.requires.booked.0 in
    let b = c.requires.booked.1 in (
      b.stand.drafts,
      b.finished.taken,
      as_many (method_in_ledger l) (reverse l.directives) b.stand b.leads
          ∙ ap length (sym (c.into_vec.ensures ∙ b.finished.pads_are)),
    )

-- the ledger that is made is that of the book
books : (details : Details) (l : Loaded) (st : Stand)
    → LeadsTo (method_in_ledger l) (reverse l.directives) st
    → (result : Result Ledger (Refusal BookCause)) → MakesLedger details (bookings_of st) result
    → Books details l result
books details l st leads (Ok ledger) makes = (
  record { ledger = ledger; faults = reported (faults_of l st) },
  record { stand = st; leads = leads; ledger = makes; faults = refl },
  refl,
)
books details l st leads (Err fault) makes = too_many_rows details l st leads fault makes

pub returns : goal.returns
returns c = λ l b.
    let details = c.args.details in
    let pads = c.into_vec.ensures ∙ b.finished.pads_are in
    let places =
    as_many (method_in_ledger l) (reverse l.directives) b.stand b.leads ∙ ap length (sym pads) in
    books details l b.stand b.leads c.with_pads.result
    (subst (λ ps. MakesLedger details (with_pads b.stand.drafts ps) c.with_pads.result) pads
    (c.with_pads.ensures b.stand.drafts b.finished.taken places))
