-- Faults are found without rows: the ledger that has the rows is there, and not too large.
use Rattle.std.proofs.Common.{◌≡◌, ℕ, ◌≤◌, max, List, [], ◌∷◌, length, map, fold}
use Rattle.std.proofs.Common.{reverse}
use Rattle.std.proofs.Common.{Ok, Err, Bool, true, false, cond, refl, sym, ap, ◌∙◌}
use Rattle.std.proofs.Common.{unwrap_or}
use Rattle.std.specs.Cmp.Lexicographic.{slice_cmp}
use Rattle.std.specs.FinMap.{empty, get-empty, insert}
use Rattle.std.specs.Ordering.{nat_cmp}
use Rattle.std.specs.Str.{bytes_eq}
use Rattle.std.proofs.lemmas.Slice.Eq.{bytes_eq-Decides}
use Rattle.limits.specs.declared.counts.TheConstants.{MOST_POSTINGS}
use Rattle.bean_base.specs.declared.amounts.Amount.{Amount}
use Rattle.bean_base.specs.declared.fault.Fault.{Fault}
use Rattle.bean_replay.specs.Booked.{bookings_of, faults_of, method_in_ledger}
use Rattle.bean_replay.specs.Stand.{LeadsTo, Stand}
use Rattle.bean_replay.specs.declared.booking.Booking.{Booking}
use Rattle.bean_replay.specs.declared.cause.BookCause.{BookCause}
use Rattle.bean_replay.specs.declared.cause.BookCause.TheVariants.{TooManyPostings}
use Rattle.refusals.specs.declared.refusal.Refusal.{Refusal}
use Rattle.refusals.specs.declared.refusal.Refusal.TheVariants.{OutOfMemory, Refused}
use Rattle.bean_loaded.specs.Loaded.{Loaded}
use Rattle.posting_table.proofs.DecimalsFacts.{decimals_of-insert}
use Rattle.posting_table.specs.Decimals.{Decimals, decimals_of}
use Rattle.posting_table.specs.Ledger.{Ledger}
use Rattle.bean_book.specs.Booked.{Books, IsLedgerOf, decimals_from}
use Rattle.bean_book.specs.Booked.{rows_of_all, written_in_all}
use Rattle.bean_book.specs.Found.{FindsFaults}
use Rattle.bean_book.specs.Reported.{reported}
use Rattle.bean_book.specs.declared.details.Details.TheVariants.{All}
use Rattle.bean_book.proofs.ListFacts.{decimals_from-append}

-- ---- the ledger of bookings

noted : Decimals → Amount → Decimals
noted d a = insert d a.currency (max (decimals_of d a.currency) a.number.places)

one_noted : (d : Decimals) (a : Amount) (name : List ℕ)
    → decimals_of (noted d a) name
    ≡ cond (bytes_eq a.currency name) (max (decimals_of d name) a.number.places)
    (decimals_of d name)
unfolding noted
one_noted d a name =
    decimals_of-insert d a.currency (max (decimals_of d a.currency) a.number.places) name
    ∙ by (bytes_eq a.currency name) refl
  where
    by : (b : Bool) → bytes_eq a.currency name ≡ b
        → cond b (max (decimals_of d a.currency) a.number.places) (decimals_of d name)
        ≡ cond b (max (decimals_of d name) a.number.places) (decimals_of d name)
    by true is =
        ap (λ c. max (decimals_of d c) a.number.places) ((bytes_eq-Decides a.currency name).0 is)
    by false is = refl

single : (n : ℕ) (a : Amount) (name : List ℕ)
    → decimals_from n name (a ∷ []) ≡ cond (bytes_eq a.currency name) (max n a.number.places) n
single n a name = by (bytes_eq a.currency name)
  where
    by : (b : Bool)
        → fold max n (map (λ (x : Amount). x.number.places) (cond b (a ∷ []) []))
        ≡ cond b (max n a.number.places) n
    by true = refl
    by false = refl

decimals_with : Decimals → List Amount → Decimals
decimals_with d [] = d
decimals_with d (a ∷ amounts) = decimals_with (noted d a) amounts

with_decimals : (d : Decimals) (amounts : List Amount) (name : List ℕ)
    → decimals_of (decimals_with d amounts) name ≡ decimals_from (decimals_of d name) name amounts
unfolding decimals_with
with_decimals d [] name = refl
with_decimals d (a ∷ amounts) name =
    with_decimals (noted d a) amounts name
    ∙ ap (λ n. decimals_from n name amounts)
    (one_noted d a name ∙ sym (single (decimals_of d name) a name))
    ∙ sym (decimals_from-append (decimals_of d name) name (a ∷ []) amounts)

made : List Booking → Ledger
made bs = record { rows = rows_of_all All bs; decimals = decimals_with empty (written_in_all bs) }

is_made : (bs : List Booking) → length (rows_of_all All bs) ≤ MOST_POSTINGS
    → IsLedgerOf All bs (made bs)
unfolding made
is_made bs few = record {
  rows = refl;
  few = few;
  decimals = λ name. with_decimals empty (written_in_all bs) name
      ∙ ap (λ o. decimals_from (unwrap_or o 0) name (written_in_all bs))
      (get-empty (slice_cmp nat_cmp) name);
}

-- ---- what is found

pub found : (l : Loaded) (st : Stand)
    → LeadsTo (method_in_ledger l) (reverse l.directives) st
    → length (rows_of_all All (bookings_of st)) ≤ MOST_POSTINGS → (faults : List Fault)
    → faults ≡ reported (faults_of l st) → FindsFaults l (Ok faults)
found l st leads few faults is = (
  record { ledger = made (bookings_of st); faults = faults },
  record {
    stand = st;
    leads = leads;
    ledger = is_made (bookings_of st) few;
    faults = is;
  },
  refl,
)

pub none_found : (l : Loaded) (fault : Refusal BookCause) → Books All l (Err fault)
    → FindsFaults l (Err fault)
none_found l (Refused TooManyPostings) many = many
none_found l OutOfMemory h = tt
