-- What a listing shows of a posting, by the numbers of its columns.
use Rattle.std.proofs.Common.{◌≡◌, ◌≢◌, ℕ, zero, suc, ◌<◌, List, [], ◌∷◌, length, map, Option, None, Some}
use Rattle.std.proofs.Common.{refl, sym, ap, subst, ◌∙◌, arith}
use Rattle.std.specs.List.{slice_get}
use Rattle.std.specs.Option.{option_map}
use Rattle.std.proofs.lemmas.Option.{get_or_from_slice_get, slice_get-map}
use Rattle.bean_book.specs.LeftOut.{IsToldOf, row_told}
use Rattle.bean_book.specs.Book.{Book}
use Rattle.bean_book.specs.declared.details.Details.TheVariants.{Few}
use Rattle.posting_table.specs.Decimals.{decimals_of}
use Rattle.posting_table.specs.declared.row.Row.{Row}
use Rattle.query_values.specs.declared.value.Value.{Value}
use Rattle.table_printer.specs.Printing.{NoneIn, count_with}
use Rattle.table_printer.specs.Table.{HasNoNumber, row_at, table_text}
use Rattle.table_printer.specs.declared.headings.Heading.{Heading}
use Rattle.bq.specs.List.{headers, shown_row, table_of}

-- a row of the listing
pub row_shown : (rows : List Row) (i : ℕ) (r : Row) → Some r ≡ slice_get rows i
    → shown_row r ≡ row_at (map shown_row rows) i
row_shown rows i r is =
    sym (get_or_from_slice_get (map shown_row rows) i (shown_row r) []
    (slice_get-map shown_row rows i ∙ ap (option_map shown_row) (sym is)))

-- a column that is none of the first three is the last
pub in_the_last : (r : Row) (n : ℕ) (x : Value) → n < length (shown_row r)
    → n ≢ 0 → n ≢ 1 → n ≢ 2 → Some x ≡ slice_get (shown_row r) 3
    → Some x ≡ slice_get (shown_row r) n
in_the_last r n x some not_0 not_1 not_2 is =
    let few : n < 4 = some in
    let last : 3 ≡ n = omega (arith, few, not_0, not_1, not_2) in
    is ∙ ap (slice_get (shown_row r)) last

-- where so many columns are four and the last is left open, no posting has a number there
pub none_in_the_last : (own : Option Heading) (n : ℕ) (rows : List Row) → count_with own n ≡ 4
    → NoneIn own n (map shown_row rows)
none_in_the_last None n rows all = tt
none_in_the_last (Some h) n rows all =
    let last : 3 ≡ n = omega (arith, all) in
    subst (λ k. HasNoNumber k (map shown_row rows)) last (no_number rows)
  where
    no_number : (rows : List Row) → HasNoNumber 3 (map shown_row rows)
    no_number [] k within = absurd (omega (arith, within))
    no_number (r ∷ rows) zero within = refl
    no_number (r ∷ rows) (suc k) within = no_number rows k (omega (arith, within))

-- ---- with few details

rows_alike : (rows : List Row) → map shown_row (map (row_told Few) rows) ≡ map shown_row rows
rows_alike [] = refl
rows_alike (r ∷ rows) = ap (λ rest. shown_row r ∷ rest) (rows_alike rows)

-- a listing shows none of the others
pub listed_alike : (bare whole : Book) → IsToldOf Few bare whole
    → table_of bare.ledger ≡ table_of whole.ledger
listed_alike bare whole same =
    ap (λ rows. table_text headers (map shown_row rows) (decimals_of bare.ledger.decimals)) same.rows
    ∙ ap (λ rows. table_text headers rows (decimals_of bare.ledger.decimals))
    (rows_alike whole.ledger.rows)
    ∙ ap (λ d. table_text headers (map shown_row whole.ledger.rows) (decimals_of d)) same.decimals
