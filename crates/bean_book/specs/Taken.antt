-- What stands of a ledger while it is booked, and it isn't known yet what comes of pads.
use Rattle.std.specs.Prelude.{◌≡◌, ℕ, ◌+◌, ◌-◌, List, [], ◌∷◌, ◌++◌, take, drop, length}
use Rattle.std.specs.List.{flat_map}
use Rattle.bean_base.specs.declared.amounts.Amount.{Amount}
use Rattle.bean_pad.specs.declared.note.NotedPad.{NotedPad}
use Rattle.bean_replay.specs.Draft.{Draft}
use Rattle.bean_replay.specs.Draft as draft
use Rattle.bean_replay.specs.declared.bookings.Bookings.{Ghosts as BookingsOf}
use Rattle.posting_table.specs.Decimals.{decimals_of}
use Rattle.posting_table.specs.declared.row.Row.{Row}
use Rattle.bean_book.specs.Booked.{decimals_from}
use Rattle.bean_book.specs.Rows.{rows_of_pad, rows_of_transaction, written_in}
use Rattle.bean_book.specs.declared.details.Details.{Details}
use Rattle.bean_book.specs.declared.ledger.LedgerRows.{LedgerRows}

-- the rows of transactions, and the numbers that are written in them

abbrev pub rows_in : Details → Draft → List Row
rows_in details (draft.Transaction k) = rows_of_transaction details k
rows_in details draft.Pad = []

abbrev pub kept_rows : Details → List Draft → List Row
kept_rows details ds = flat_map (rows_in details) ds

abbrev pub amounts_in : Draft → List Amount
amounts_in (draft.Transaction k) = flat_map written_in k.written.transaction.postings
amounts_in draft.Pad = []

abbrev pub kept_amounts : List Draft → List Amount
kept_amounts ds = flat_map amounts_in ds

-- how many of these rows stand before each pad, where n stand before all
abbrev pub places_from : ℕ → List Draft → List ℕ
places_from n [] = []
places_from n (draft.Transaction k ∷ ds) = places_from (n + length k.postings) ds
places_from n (draft.Pad ∷ ds) = n ∷ places_from n ds

-- a ledger has the rows of these transactions, and shows their decimals; the places of pads stand
-- beside it
pub record IsLedgerSoFar (details : Details) (ds : List Draft) (l : LedgerRows) : Type 0 where
  pub rows : l.ledger.rows ≡ kept_rows details ds
  pub decimals : (currency : List ℕ)
      → decimals_of l.ledger.decimals currency ≡ decimals_from 0 currency (kept_amounts ds)
  pub places : l.places.items ≡ places_from 0 ds

-- that, as what takes bookings says it
abbrev pub as_rows : Details → BookingsOf LedgerRows
as_rows details = record { has_taken = λ l ds. IsLedgerSoFar details ds l }

-- rows, n of which are passed, with those of pads put in at their places
abbrev pub with_rows : Details → ℕ → List Row → List ℕ → List NotedPad → List Row
with_rows details n rows places [] = rows
with_rows details n rows [] (q ∷ qs) = with_rows details n rows [] qs
with_rows details n rows (p ∷ places) (q ∷ qs) =
    (take (p - n) rows ++ rows_of_pad details q) ++ with_rows details p (drop (p - n) rows) places qs
