-- What stands of a ledger while it is booked, and where pads stand in it.
use Rattle.std.proofs.Common.{◌≡◌, ℕ, ◌+◌, ◌-◌, ◌≤◌, List, [], ◌∷◌, ◌++◌, length, take, drop}
use Rattle.std.proofs.Common.{append_assoc, length-append, refl, sym, ap, ◌∙◌, arith}
use Rattle.std.specs.List.{flat_map}
use Rattle.std.proofs.lemmas.Grind.{flat_map-append}
use Rattle.std.proofs.lemmas.List.{append-nil, length-map, take-append-drop}
use Rattle.bean_pad.specs.declared.note.NotedPad.{NotedPad}
use Rattle.bean_replay.proofs.StepFacts.{empty}
use Rattle.bean_replay.specs.Booked.{places_in, with_pads}
use Rattle.bean_replay.specs.Stand.{postings_in, postings_of}
use Rattle.bean_replay.specs.declared.booking.Booking.TheVariants as booking
use Rattle.bean_replay.specs.Draft.{Draft}
use Rattle.bean_replay.specs.Draft as draft
use Rattle.bean_replay.specs.declared.booking.Kept.{Kept}
use Rattle.posting_table.specs.Decimals.{decimals_of}
use Rattle.posting_table.specs.declared.row.Row.{Row}
use Rattle.bean_book.specs.Booked.{Adds, decimals_from, rows_of_all, written_in_all}
use Rattle.bean_book.specs.Rows.{entry_of, row_of, rows_of_pad, rows_of_transaction, written_of}
use Rattle.bean_book.specs.Taken.{IsLedgerSoFar, amounts_in, kept_amounts, kept_rows, places_from}
use Rattle.bean_book.specs.Taken.{rows_in, with_rows}
use Rattle.bean_book.specs.declared.details.Details.{Details}
use Rattle.bean_book.specs.declared.ledger.LedgerRows.{LedgerRows}
use Rattle.bean_book.proofs.ListFacts.{decimals_from-append}

-- ---- one more booking

rows_more : (details : Details) (ds : List Draft) (d : Draft)
    → kept_rows details (ds ++ d ∷ []) ≡ kept_rows details ds ++ rows_in details d
rows_more details ds d =
    flat_map-append (rows_in details) ds (d ∷ [])
    ∙ ap (λ l. kept_rows details ds ++ l) (append-nil (rows_in details d))

amounts_more : (ds : List Draft) (d : Draft)
    → kept_amounts (ds ++ d ∷ []) ≡ kept_amounts ds ++ amounts_in d
amounts_more ds d =
    flat_map-append amounts_in ds (d ∷ [])
    ∙ ap (λ l. kept_amounts ds ++ l) (append-nil (amounts_in d))

-- each posting of a transaction has a row
one_each : (details : Details) (k : Kept) → length (rows_of_transaction details k) ≡ length k.postings
one_each details k =
    length-map k.postings
    (row_of details (entry_of details k) k.written.place.line k.written.transaction.postings)

row_each : (details : Details) (d : Draft) → length (rows_in details d) ≡ length (postings_in d)
row_each details (draft.Transaction k) = one_each details k
row_each details draft.Pad = refl

pub kept_count : (details : Details) (ds : List Draft)
    → length (kept_rows details ds) ≡ length (postings_of ds)
kept_count details [] = refl
kept_count details (d ∷ ds) =
    length-append (rows_in details d) (kept_rows details ds)
    ∙ (λ i. row_each details d i + kept_count details ds i)
    ∙ sym (length-append (postings_in d) (postings_of ds))

places_kept : (n : ℕ) (ds : List Draft) (k : Kept)
    → places_from n (ds ++ draft.Transaction k ∷ []) ≡ places_from n ds
places_kept n [] k = refl
places_kept n (draft.Transaction j ∷ ds) k = places_kept (n + length j.postings) ds k
places_kept n (draft.Pad ∷ ds) k = ap (λ l. n ∷ l) (places_kept n ds k)

places_pad : (details : Details) (n : ℕ) (ds : List Draft)
    → places_from n (ds ++ draft.Pad ∷ [])
    ≡ places_from n ds ++ (n + length (kept_rows details ds)) ∷ []
places_pad details n [] = let none : n ≡ n + 0 = omega arith in ap (λ m. m ∷ []) none
places_pad details n (draft.Transaction k ∷ ds) =
    let both = length-append (rows_of_transaction details k) (kept_rows details ds) in
    let own = one_each details k in
    let more : n + length k.postings + length (kept_rows details ds)
    ≡ n + length (kept_rows details (draft.Transaction k ∷ ds)) = omega (arith, both, own) in
    places_pad details (n + length k.postings) ds
    ∙ ap (λ m. places_from (n + length k.postings) ds ++ m ∷ []) more
places_pad details n (draft.Pad ∷ ds) = ap (λ l. n ∷ l) (places_pad details n ds)

pub kept_more : (details : Details) (ds : List Draft) (k : Kept) (old new : LedgerRows)
    → IsLedgerSoFar details ds old
    → Adds details (booking.Transaction k) old.ledger new.ledger → new.places.items ≡ old.places.items
    → IsLedgerSoFar details (ds ++ draft.Transaction k ∷ []) new
kept_more details ds k old new h adds same = record {
  rows =
      adds.rows ∙ ap (λ l. l ++ rows_of_transaction details k) h.rows
      ∙ sym (rows_more details ds (draft.Transaction k));
  decimals = λ c.
      adds.decimals c
      ∙ ap (λ n. decimals_from n c (written_of (booking.Transaction k))) (h.decimals c)
      ∙ sym (decimals_from-append 0 c (kept_amounts ds) (amounts_in (draft.Transaction k)))
      ∙ sym (ap (decimals_from 0 c) (amounts_more ds (draft.Transaction k)));
  places = same ∙ h.places ∙ sym (places_kept 0 ds k);
}

pub pad_more : (details : Details) (ds : List Draft) (old new : LedgerRows)
    → IsLedgerSoFar details ds old
    → new.ledger ≡ old.ledger
    → new.places.items ≡ old.places.items ++ length old.ledger.rows ∷ []
    → IsLedgerSoFar details (ds ++ draft.Pad ∷ []) new
pad_more details ds old new h same more = record {
  rows =
      ap (λ l. l.rows) same ∙ h.rows ∙ sym (append-nil (kept_rows details ds))
      ∙ sym (rows_more details ds draft.Pad);
  decimals = λ c.
      ap (λ l. decimals_of l.decimals c) same ∙ h.decimals c
      ∙ ap (decimals_from 0 c)
      (sym (append-nil (kept_amounts ds)) ∙ sym (amounts_more ds draft.Pad));
  places =
      let all : length (kept_rows details ds) ≡ 0 + length (kept_rows details ds) = omega arith in
      more ∙ (λ i. h.places i ++ length (h.rows i) ∷ [])
      ∙ ap (λ n. places_from 0 ds ++ n ∷ []) all ∙ sym (places_pad details 0 ds);
}

-- ---- the rows of pads, put in

nowhere : (details : Details) (n : ℕ) (rows : List Row) (qs : List NotedPad)
    → with_rows details n rows [] qs ≡ rows
nowhere details n rows [] = refl
nowhere details n rows (q ∷ qs) = nowhere details n rows qs

without : (details : Details) (ds : List Draft)
    → rows_of_all details (with_pads ds []) ≡ kept_rows details ds
without details [] = refl
without details (draft.Transaction k ∷ ds) =
    ap (λ l. rows_of_transaction details k ++ l) (without details ds)
without details (draft.Pad ∷ ds) = without details ds

taken_front : (a rest : List Row) → take (length a) (a ++ rest) ≡ a
taken_front [] rest = refl
taken_front (x ∷ a) rest = ap (λ l. x ∷ l) (taken_front a rest)

dropped_front : (a rest : List Row) → drop (length a) (a ++ rest) ≡ rest
dropped_front [] rest = refl
dropped_front (x ∷ a) rest = dropped_front a rest

pub put_in : (details : Details) (n : ℕ) (a : List Row) (ds : List Draft) (qs : List NotedPad)
    → with_rows details n (a ++ kept_rows details ds) (places_from (n + length a) ds) qs
    ≡ a ++ rows_of_all details (with_pads ds qs)
put_in details n a ds [] = ap (λ l. a ++ l) (sym (without details ds))
put_in details n a [] (q ∷ qs) = nowhere details n (a ++ []) qs
put_in details n a (draft.Transaction k ∷ ds) (q ∷ qs) =
    let own = rows_of_transaction details k in
    let each = one_each details k in
    let both = length-append a own in
    let at : n + length a + length k.postings ≡ n + length (a ++ own) = omega (arith, each, both) in
    (λ i. with_rows details n (sym (append_assoc a own (kept_rows details ds)) i) (places_from (at i) ds)
    (q ∷ qs))
    ∙ put_in details n (a ++ own) ds (q ∷ qs)
    ∙ append_assoc a own (rows_of_all details (with_pads ds (q ∷ qs)))
put_in details n a (draft.Pad ∷ ds) (q ∷ qs) =
    let rest = kept_rows details ds in
    let p = n + length a in
    let passed : p - n ≡ length a = omega arith in
    let here : p ≡ p + 0 = omega arith in
    let front = ap (λ m. take m (a ++ rest)) passed ∙ taken_front a rest in
    let behind = ap (λ m. drop m (a ++ rest)) passed ∙ dropped_front a rest in
    (λ i. (front i ++ rows_of_pad details q) ++ with_rows details p (behind i) (places_from (here i) ds) qs)
    ∙ ap (λ l. (a ++ rows_of_pad details q) ++ l) (put_in details p [] ds qs)
    ∙ append_assoc a (rows_of_pad details q) (rows_of_all details (with_pads ds qs))

-- where pads insert nothing the rows are those of the transactions
pub none_in : (details : Details) (ds : List Draft) (qs : List NotedPad)
    → length (flat_map (rows_of_pad details) qs) ≡ 0
    → rows_of_all details (with_pads ds qs) ≡ kept_rows details ds
none_in details [] qs none = refl
none_in details (draft.Transaction k ∷ ds) qs none =
    ap (λ l. rows_of_transaction details k ++ l) (none_in details ds qs none)
none_in details (draft.Pad ∷ ds) [] none = none_in details ds [] none
none_in details (draft.Pad ∷ ds) (q ∷ qs) none =
    let both = length-append (rows_of_pad details q) (flat_map (rows_of_pad details) qs) in
    ap (λ l. l ++ rows_of_all details (with_pads ds qs))
    (empty (rows_of_pad details q) (omega (arith, both, none)))
    ∙ none_in details ds qs (omega (arith, both, none))

pub all_count : (details : Details) (ds : List Draft) (qs : List NotedPad)
    → places_in ds ≡ length qs
    → length (rows_of_all details (with_pads ds qs))
    ≡ length (postings_of ds) + length (flat_map (rows_of_pad details) qs)
all_count details [] [] as_many = refl
all_count details [] (q ∷ qs) as_many = absurd (omega (arith, as_many))
all_count details (draft.Transaction k ∷ ds) qs as_many =
    let rows = length-append (rows_of_transaction details k) (rows_of_all details (with_pads ds qs)) in
    let own = one_each details k in
    let postings = length-append k.postings (postings_of ds) in
    let later = all_count details ds qs as_many in omega (arith, rows, own, postings, later)
all_count details (draft.Pad ∷ ds) [] as_many = absurd (omega (arith, as_many))
all_count details (draft.Pad ∷ ds) (q ∷ qs) as_many =
    let rows = length-append (rows_of_pad details q) (rows_of_all details (with_pads ds qs)) in
    let pads = length-append (rows_of_pad details q) (flat_map (rows_of_pad details) qs) in
    let later = all_count details ds qs (omega (arith, as_many)) in omega (arith, rows, pads, later)

-- each kept posting has a row
pub kept_within : (details : Details) (ds : List Draft) (qs : List NotedPad)
    → length (postings_of ds) ≤ length (rows_of_all details (with_pads ds qs))
kept_within details [] qs = omega arith
kept_within details (draft.Transaction k ∷ ds) qs =
    let rows = length-append (rows_of_transaction details k) (rows_of_all details (with_pads ds qs)) in
    let own = one_each details k in
    let postings = length-append k.postings (postings_of ds) in
    let later = kept_within details ds qs in omega (arith, rows, own, postings, later)
kept_within details (draft.Pad ∷ ds) [] = kept_within details ds []
kept_within details (draft.Pad ∷ ds) (q ∷ qs) =
    let rows = length-append (rows_of_pad details q) (rows_of_all details (with_pads ds qs)) in
    let later = kept_within details ds qs in omega (arith, rows, later)

-- pads write no number
pub amounts_are : (ds : List Draft) (qs : List NotedPad)
    → written_in_all (with_pads ds qs) ≡ kept_amounts ds
amounts_are [] qs = refl
amounts_are (draft.Transaction k ∷ ds) qs =
    ap (λ l. amounts_in (draft.Transaction k) ++ l) (amounts_are ds qs)
amounts_are (draft.Pad ∷ ds) [] = amounts_are ds []
amounts_are (draft.Pad ∷ ds) (q ∷ qs) = amounts_are ds qs

-- ---- room

halves : (n : ℕ) (rows : List Row) → length (take n rows) + length (drop n rows) ≡ length rows
halves n rows =
    sym (length-append (take n rows) (drop n rows)) ∙ ap length (take-append-drop n rows)

pub rest_within : (details : Details) (n : ℕ) (rows : List Row) (places : List ℕ)
    (qs : List NotedPad)
    → length rows ≤ length (with_rows details n rows places qs)
rest_within details n rows places [] = omega arith
rest_within details n rows [] (q ∷ qs) = rest_within details n rows [] qs
rest_within details n rows (p ∷ places) (q ∷ qs) =
    let front = take (p - n) rows in
    let rest = drop (p - n) rows in
    let whole = length-append (front ++ rows_of_pad details q) (with_rows details p rest places qs) in
    let both = length-append front (rows_of_pad details q) in
    let later = rest_within details p rest places qs in
    let parts = halves (p - n) rows in omega (arith, whole, both, later, parts)

pub pad_within : (details : Details) (n p : ℕ) (rows : List Row) (places : List ℕ)
    (q : NotedPad) (qs : List NotedPad)
    → length rows + length (rows_of_pad details q) ≤ length (with_rows details n rows (p ∷ places) (q ∷ qs))
pad_within details n p rows places q qs =
    let front = take (p - n) rows in
    let rest = drop (p - n) rows in
    let whole = length-append (front ++ rows_of_pad details q) (with_rows details p rest places qs) in
    let both = length-append front (rows_of_pad details q) in
    let later = rest_within details p rest places qs in
    let parts = halves (p - n) rows in omega (arith, whole, both, later, parts)
