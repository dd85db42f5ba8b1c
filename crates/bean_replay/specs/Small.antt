-- What of the books is small: what is booked has no larger texts and lines than a ledger's text
-- may have.
use Rattle.std.specs.Prelude.{◌≤◌, IfSome, length}
use Rattle.std.specs.List.{AllByRecursion}
use Rattle.bean_directives.specs.declared.accounts.Pad.{Pad}
use Rattle.bean_interp.specs.Residual.{IsLight}
use Rattle.bean_lots.specs.declared.lot.Lot.{Lot}
use Rattle.bean_pad.specs.declared.note.Note.{Note}
use Rattle.bean_pad.specs.declared.note.NotedPad.{NotedPad}
use Rattle.bean_transactions.specs.Tried.{booked_legs}
use Rattle.bean_holdings.specs.declared.posted.Posted.{Posted}
use Rattle.bean_replay.specs.declared.booking.Booking.{Booking}
use Rattle.bean_replay.specs.declared.booking.Booking.TheVariants as booking
use Rattle.bean_replay.specs.Draft.{Draft}
use Rattle.bean_replay.specs.Draft as draft
use Rattle.bean_replay.specs.declared.booking.Kept.{Kept}
use Rattle.bean_directives.specs.Small.{IsSmallTransaction}
use Rattle.bean_directives.specs.SmallPart.{most, IsShort, IsShortCurrency, IsShortEntry}

-- the currency of a lot's cost, and its label
abbrev pub IsSmallLot : Lot → Type 0
IsSmallLot lot = IsShortCurrency lot.cost.currency × IfSome lot.label IsShort

-- a booked posting: its account, its currencies, and the label of its lot
pub record IsSmallPosted (p : Posted) : Type 0 where
  pub account : IsShort p.account
  pub currency : IsShortCurrency p.units.currency
  pub lot : IfSome p.lot IsSmallLot

-- a kept transaction, with its line and what it weighs
pub record IsSmallKept (k : Kept) : Type 0 where
  pub line : k.written.place.line ≤ most
  pub metadata : AllByRecursion IsShortEntry k.written.metadata
  pub transaction : IsSmallTransaction k.written.transaction
  pub few_marks : length k.written.transaction.marks ≤ most
  pub postings : AllByRecursion IsSmallPosted k.postings
  pub light : AllByRecursion IsLight (booked_legs k.written.transaction.postings k.postings)

-- the accounts of a pad
pub record IsSmallPad (p : Pad) : Type 0 where
  pub account : IsShort p.account
  pub source : IsShort p.source

-- what comes of a pad: the currency
abbrev pub IsSmallNote : Note → Type 0
IsSmallNote n = IsShortCurrency n.currency

-- a pad with its line and all that comes of it
pub record IsSmallNoted (n : NotedPad) : Type 0 where
  pub pad : IsSmallPad n.pad
  pub line : n.place.line ≤ most
  pub notes : AllByRecursion IsSmallNote n.notes

-- a transaction that is kept, or the place of a pad
abbrev pub IsSmallDraft : Draft → Type 0
IsSmallDraft (draft.Transaction k) = IsSmallKept k
IsSmallDraft draft.Pad = Unit {0}

-- what is booked of a directive
abbrev pub IsSmallBooking : Booking → Type 0
IsSmallBooking (booking.Transaction k) = IsSmallKept k
IsSmallBooking (booking.Pad n) = IsSmallNoted n
