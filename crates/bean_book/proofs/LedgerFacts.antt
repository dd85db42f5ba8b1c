-- The ledger of what is booked, once pads are put in.
use Rattle.std.proofs.Common.{◌≡◌, ◌+◌, ◌≤◌, List, [], length, Err, refl, sym, ap, ◌∙◌, subst, arith}
use Rattle.std.specs.List.{flat_map}
use Rattle.limits.specs.declared.counts.TheConstants.{MOST_POSTINGS}
use Rattle.bean_pad.specs.Note.{noted_pads}
use Rattle.bean_pad.specs.declared.note.NotedPad.{NotedPad}
use Rattle.bean_replay.specs.Booked.{bookings_of, places_in, with_pads}
use Rattle.bean_replay.specs.Stand.{Stand, postings_of}
use Rattle.bean_replay.specs.declared.booking.Booking.{Booking}
use Rattle.bean_replay.specs.Draft.{Draft}
use Rattle.bean_replay.specs.declared.cause.BookCause.{BookCause}
use Rattle.bean_replay.specs.declared.cause.BookCause.TheVariants.{TooManyPostings}
use Rattle.refusals.specs.declared.refusal.Refusal.{Refusal}
use Rattle.refusals.specs.declared.refusal.Refusal.TheVariants.{OutOfMemory, Refused}
use Rattle.posting_table.specs.Decimals.{decimals_of}
use Rattle.posting_table.specs.Ledger.{Ledger}
use Rattle.bean_book.specs.Booked.{AreTooMany, IsLedgerOf, MakesLedger, decimals_from, rows_of_all}
use Rattle.bean_book.specs.Rows.{rows_of_pad}
use Rattle.bean_book.specs.Taken.{IsLedgerSoFar, with_rows}
use Rattle.bean_book.specs.declared.details.Details.{Details}
use Rattle.bean_book.specs.declared.details.Details.TheVariants.{All}
use Rattle.bean_book.specs.declared.ledger.LedgerRows.{LedgerRows}
use Rattle.bean_book.proofs.TakenFacts.{all_count, amounts_are, kept_count, kept_within, none_in}
use Rattle.bean_book.proofs.TakenFacts.{put_in}

pub refused : (details : Details) (bs : List Booking) (fault : Refusal BookCause)
    → (fault ≡ Refused TooManyPostings → AreTooMany bs) → MakesLedger details bs (Err fault)
refused details bs (Refused TooManyPostings) full = full refl
refused details bs OutOfMemory full = tt

-- each kept posting has a row
pub rows_hold : (st : Stand)
    → length (postings_of st.drafts) ≤ length (rows_of_all All (bookings_of st))
rows_hold st = kept_within All st.drafts (noted_pads st.steps)

-- so many rows there are, with those that pads insert
pub rows_in_all : (details : Details) (ds : List Draft) (l : LedgerRows) (qs : List NotedPad)
    → IsLedgerSoFar details ds l
    → places_in ds ≡ length qs
    → length (rows_of_all details (with_pads ds qs))
    ≡ length l.ledger.rows + length (flat_map (rows_of_pad details) qs)
rows_in_all details ds l qs h as_many =
    all_count details ds qs as_many
    ∙ ap (λ n. n + length (flat_map (rows_of_pad details) qs)) (sym (ap length h.rows ∙ kept_count details ds))

-- put in, they are the rows of all that is booked
pub put : (details : Details) (ds : List Draft) (l : LedgerRows) (qs : List NotedPad)
    → IsLedgerSoFar details ds l
    → with_rows details 0 l.ledger.rows l.places.items qs ≡ rows_of_all details (with_pads ds qs)
put details ds l qs h = (λ i. with_rows details 0 (h.rows i) (h.places i) qs) ∙ put_in details 0 [] ds qs

pub is_ledger : (details : Details) (ds : List Draft) (l : LedgerRows) (qs : List NotedPad)
    (new : Ledger)
    → IsLedgerSoFar details ds l → new.rows ≡ rows_of_all details (with_pads ds qs)
    → new.decimals ≡ l.ledger.decimals → length (rows_of_all details (with_pads ds qs)) ≤ MOST_POSTINGS
    → IsLedgerOf details (with_pads ds qs) new
is_ledger details ds l qs new h rows same few = record {
  rows = rows;
  few = subst (λ r. length r ≤ MOST_POSTINGS) (sym rows) few;
  decimals = λ c.
      ap (λ d. decimals_of d c) same ∙ h.decimals c
      ∙ ap (decimals_from 0 c) (sym (amounts_are ds qs));
}

-- as it is, where pads insert nothing
pub is_ledger_so_far : (details : Details) (ds : List Draft) (l : LedgerRows)
    (qs : List NotedPad) → IsLedgerSoFar details ds l
    → places_in ds ≡ length qs → length (flat_map (rows_of_pad details) qs) ≡ 0
    → length l.ledger.rows ≤ MOST_POSTINGS → IsLedgerOf details (with_pads ds qs) l.ledger
is_ledger_so_far details ds l qs h as_many none few =
    let all = rows_in_all details ds l qs h as_many in
    is_ledger details ds l qs l.ledger h (h.rows ∙ sym (none_in details ds qs none)) refl
    (omega (arith, all, none, few))
