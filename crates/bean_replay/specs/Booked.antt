-- What a loaded ledger is booked as.
use Rattle.std.specs.Prelude.{◌≡◌, ◌≤◌, ℕ, suc, List, [], ◌∷◌, ◌++◌, length, reverse}
use Rattle.limits.specs.declared.counts.TheConstants.{MOST_POSTINGS}
use Rattle.bean_accounts.specs.Log.{with_found}
use Rattle.bean_accounts.specs.declared.log.FaultLog.{FaultLog}
use Rattle.bean_base.specs.declared.fault.Fault.{Fault}
use Rattle.bean_loaded.specs.Loaded.{Loaded}
use Rattle.bean_reductions.specs.declared.reduction.Method as methods
use Rattle.bean_pad.specs.Note.{noted_pads}
use Rattle.bean_pad.specs.Padded.{faults_with}
use Rattle.bean_pad.specs.declared.note.NotedPad.{NotedPad}
use Rattle.bean_replay.specs.Method.{method_of, otherwise, unknown_in}
use Rattle.bean_replay.specs.Stand.{IsFull, LeadsTo, Stand, postings_of}
use Rattle.bean_replay.specs.declared.booked.Booked as declared
use Rattle.bean_replay.specs.declared.booking.Booking.{Booking}
use Rattle.bean_replay.specs.declared.booking.Booking.TheVariants as booking
use Rattle.bean_replay.specs.Draft.{Draft}
use Rattle.bean_replay.specs.Draft as draft
use Rattle.bean_replay.specs.declared.bookings.Bookings.{Ghosts as BookingsOf}

abbrev pub method_in_ledger : Loaded → List ℕ → methods.Method
method_in_ledger l a = method_of (otherwise l.methods) l.directives a

-- what is booked, with these pads in their order
abbrev pub with_pads : List Draft → List NotedPad → List Booking
with_pads [] ps = []
with_pads (draft.Transaction k ∷ ds) ps = booking.Transaction k ∷ with_pads ds ps
with_pads (draft.Pad ∷ ds) [] = with_pads ds []
with_pads (draft.Pad ∷ ds) (p ∷ ps) = booking.Pad p ∷ with_pads ds ps

-- how many pads have their places
abbrev pub places_in : List Draft → ℕ
places_in [] = 0
places_in (draft.Transaction k ∷ ds) = places_in ds
places_in (draft.Pad ∷ ds) = suc (places_in ds)

-- the transactions that are kept and the pads, each with what comes of it, in their order
abbrev pub bookings_of : Stand → List Booking
bookings_of st = with_pads st.drafts (noted_pads st.steps)

-- the faults of the texts and of the lines of booking methods
abbrev pub faults_before : Loaded → List Fault
faults_before l = l.faults ++ unknown_in l.methods

-- and of the directives, and of pads and balances
abbrev pub faults_of : Loaded → Stand → List Fault
faults_of l st =
    faults_before l ++ (st.faults ++ faults_with (noted_pads st.steps) st.steps)

-- what all the directives led to: what is booked was taken, what comes of the pads, and the faults
-- behind those before, where anyone asks
pub record IsFinished {S : Type 0} (o : BookingsOf S) (before : FaultLog) (l : Loaded) (st : Stand)
    (b : declared.Booked S) : Type 0 where
  pub taken : o.has_taken b.bookings st.drafts
  pub pads_are : b.pads ≡ noted_pads st.steps
  pub faults_are : b.faults ≡ with_found (faults_of l st) before

-- the transactions that are kept have no more postings than a ledger may have
pub record IsBooked {S : Type 0} (o : BookingsOf S) (before : FaultLog) (l : Loaded)
    (b : declared.Booked S) : Type 0 where
  pub stand : Stand
  pub leads : LeadsTo (method_in_ledger l) (reverse l.directives) stand
  pub few : length (postings_of stand.drafts) ≤ MOST_POSTINGS
  pub finished : IsFinished o before l stand b

-- the transactions that are kept have more postings than a ledger may have
abbrev pub HasTooMany : Loaded → Type 0
HasTooMany l =
    (st : Stand) → LeadsTo (method_in_ledger l) (reverse l.directives) st → IsFull st
