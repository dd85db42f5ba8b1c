-- The rows of what is booked, with few details and with all.
use Rattle.std.proofs.Common.{◌≡◌, ℕ, ℤ, neg_ℤ, ◌≤◌, List, [], ◌∷◌, ◌++◌, length, map, Option, None}
use Rattle.std.proofs.Common.{Some, refl, sym, ap, ◌∙◌, slice_get, subst}
use Rattle.std.specs.List.{flat_map}
use Rattle.std.proofs.lemmas.List.{length-map, map-append}
use Rattle.bean_base.specs.Counts.{at_8}
use Rattle.bean_postings.specs.declared.posting.Posting.{Posting}
use Rattle.bean_pad.specs.declared.note.Note.{Note}
use Rattle.bean_pad.specs.declared.note.NotedPad.{NotedPad}
use Rattle.bean_pad.specs.declared.note.Outcome as outcomes
use Rattle.bean_pad.specs.declared.note.Outcome.TheVariants as outcome
use Rattle.bean_holdings.specs.declared.posted.Posted.{Posted}
use Rattle.bean_loaded.specs.Loaded.{Loaded}
use Rattle.bean_replay.specs.Booked.{bookings_of}
use Rattle.bean_replay.specs.declared.booking.Booking.{Booking}
use Rattle.bean_replay.specs.declared.booking.Booking.TheVariants as booking
use Rattle.bean_replay.specs.declared.booking.Kept.{Kept}
use Rattle.limits.specs.declared.counts.TheConstants.{MOST_POSTINGS}
use Rattle.posting_entries.specs.declared.entry.EntryParts.{EntryParts}
use Rattle.posting_table.specs.declared.row.Row.{Row}
use Rattle.bean_book.specs.Booked.{IsBookOf, rows_of_all}
use Rattle.bean_book.specs.Details.{told}
use Rattle.bean_book.specs.LeftOut.{IsToldOf, entry_told, row_told}
use Rattle.bean_book.specs.Rows.{entry_of, items_in, padding_entry, padding_row, row_by, row_of}
use Rattle.bean_book.specs.Rows.{rows_by, rows_of, rows_of_note, rows_of_pad}
use Rattle.bean_book.specs.Book.{Book}
use Rattle.bean_book.specs.declared.details.Details.{Details}
use Rattle.bean_book.specs.declared.details.Details.TheVariants.{All, ButAccounts, Few}

-- what holds of the rows of each holds of those of all
each_row : {X : Type 0} (details : Details) (f g : X → List Row)
    → ((x : X) → f x ≡ map (row_told details) (g x)) → (xs : List X)
    → flat_map f xs ≡ map (row_told details) (flat_map g xs)
each_row details f g each [] = refl
each_row details f g each (x ∷ xs) =
    (λ i. each x i ++ each_row details f g each xs i)
    ∙ sym (map-append (row_told details) (g x) (flat_map g xs))

-- ---- transactions

entry_alike : (details : Details) (k : Kept)
    → entry_of details k ≡ entry_told details (entry_of All k)
entry_alike All k = refl
entry_alike ButAccounts k = refl
entry_alike Few k = refl

items_alike : (details : Details) (w : Option Posting)
    → items_in details w ≡ told details (items_in All w)
items_alike All w = refl
items_alike ButAccounts None = refl
items_alike ButAccounts (Some w) = refl
items_alike Few None = refl
items_alike Few (Some w) = refl

row_alike : (details : Details) (e : EntryParts) (line : ℕ) (ps : List Posting) (p : Posted)
    → row_of details (entry_told details e) line ps p ≡ row_told details (row_of All e line ps p)
row_alike details e line ps p =
    let w = slice_get ps p.written in
    ap (λ items. row_by (entry_told details e) line items w p) (items_alike details w)

posted_rows : (details : Details) (e : EntryParts) (line : ℕ) (ps : List Posting)
    (posted : List Posted)
    → map (row_of details (entry_told details e) line ps) posted
    ≡ map (row_told details) (map (row_of All e line ps) posted)
posted_rows details e line ps [] = refl
posted_rows details e line ps (p ∷ posted) =
    λ i. row_alike details e line ps p i ∷ posted_rows details e line ps posted i

transaction_rows : (details : Details) (k : Kept)
    → rows_of details (booking.Transaction k)
    ≡ map (row_told details) (rows_of All (booking.Transaction k))
transaction_rows details k =
    let line = k.written.place.line in
    let ps = k.written.transaction.postings in
    ap (λ e. map (row_of details e line ps) k.postings) (entry_alike details k)
    ∙ posted_rows details (entry_of All k) line ps k.postings

-- ---- pads

padding_alike : (details : Details) (n : NotedPad)
    → padding_entry details n ≡ entry_told details (padding_entry All n)
padding_alike All n = refl
padding_alike ButAccounts n = refl
padding_alike Few n = refl

padded_alike : (details : Details) (e : EntryParts) (n : NotedPad) (account currency : List ℕ)
    (count : ℤ)
    → padding_row (entry_told details e) n account currency count
    ≡ row_told details (padding_row e n account currency count)
padded_alike All e n account currency count = refl
padded_alike ButAccounts e n account currency count = refl
padded_alike Few e n account currency count = refl

rows_by_outcome : (details : Details) (e : EntryParts) (n : NotedPad) (currency : List ℕ)
    (o : outcomes.Outcome)
    → rows_by (entry_told details e) n currency o
    ≡ map (row_told details) (rows_by e n currency o)
rows_by_outcome details e n currency (outcome.Padding number) = λ i.
    padded_alike details e n n.pad.account currency (at_8 number) i
    ∷ padded_alike details e n n.pad.source currency (neg_ℤ (at_8 number)) i ∷ []
rows_by_outcome details e n currency outcome.AtCost = refl
rows_by_outcome details e n currency outcome.TooWide = refl

pad_rows : (details : Details) (n : NotedPad)
    → rows_of_pad details n ≡ map (row_told details) (rows_of_pad All n)
pad_rows details n =
    let e = padding_entry All n in
    ap (λ (e : EntryParts). flat_map (rows_of_note e n) n.notes) (padding_alike details n)
    ∙ each_row details (rows_of_note (entry_told details e) n) (rows_of_note e n)
    (λ (note : Note). rows_by_outcome details e n note.currency note.outcome) n.notes

-- ---- all

booking_rows : (details : Details) (b : Booking)
    → rows_of details b ≡ map (row_told details) (rows_of All b)
booking_rows details (booking.Transaction k) = transaction_rows details k
booking_rows details (booking.Pad n) = pad_rows details n

-- they are the same but for what isn't told
pub bare_rows : (details : Details) (bs : List Booking)
    → rows_of_all details bs ≡ map (row_told details) (rows_of_all All bs)
bare_rows details bs = each_row details (rows_of details) (rows_of All) (booking_rows details) bs

-- so they are as many

pub as_many_rows : (details : Details) (bs : List Booking)
    → length (rows_of_all details bs) ≡ length (rows_of_all All bs)
as_many_rows details bs =
    ap length (bare_rows details bs) ∙ length-map (rows_of_all All bs) (row_told details)

pub as_many_padded : (details : Details) (qs : List NotedPad)
    → length (flat_map (rows_of_pad details) qs) ≡ length (flat_map (rows_of_pad All) qs)
as_many_padded details qs =
    ap length (each_row details (rows_of_pad details) (rows_of_pad All) (pad_rows details) qs)
    ∙ length-map (flat_map (rows_of_pad All) qs) (row_told details)

-- the book with all details, of one with few

with_all : Book → List Booking → Book
with_all bare bs = record {
  ledger = record { rows = rows_of_all All bs; decimals = bare.ledger.decimals };
  faults = bare.faults;
}

pub whole_book : (details : Details) (l : Loaded) (bare : Book) → IsBookOf details l bare
    → (whole : Book) × IsBookOf All l whole × IsToldOf details bare whole
unfolding with_all
whole_book details l bare h =
    let bs = bookings_of h.stand in (
      with_all bare bs,
      record {
        stand = h.stand;
        leads = h.leads;
        ledger = record {
          rows = refl;
          few = subst (λ n. n ≤ MOST_POSTINGS)
              (ap length h.ledger.rows ∙ as_many_rows details bs) h.ledger.few;
          decimals = h.ledger.decimals;
        };
        faults = h.faults;
      },
      record { rows = h.ledger.rows ∙ bare_rows details bs; decimals = refl; faults = refl },
    )
