-- Rows from one number up to another, of which those in front may have been given up.
use Rattle.std.proofs.Common.{◌≡◌, ℕ, ◌+◌, ◌-◌, ◌<◌, ◌≤◌, List, [], ◌++◌, Option, None, Some, length}
use Rattle.std.proofs.Common.{drop, min, take, sym, ap, ◌∙◌, arith}
use Rattle.std.proofs.lemmas.List.{drop-drop, drop-take, get_or-drop, get_or-take, length-drop, length-take}
use Rattle.std.proofs.lemmas.List.{take-append-drop, take-take}
use Rattle.query_values.specs.declared.value.Value.{Value}
use Rattle.table_printer.specs.Printing.{NoneIn, Stands}
use Rattle.table_printer.specs.Table.{is_number_at, row_at}
use Rattle.table_printer.specs.declared.headings.Heading.{Heading}

pub length-part : {X : Type 0} (xs : List X) (first end : ℕ)
    → length (drop first (take end xs)) ≡ min end (length xs) - first
length-part xs first end =
    length-drop first (take end xs) ∙ ap (λ n. n - first) (length-take end xs)

-- a row of a part
pub row_of_part : (rows : List (List Value)) (first end i : ℕ)
    → i < length (drop first (take end rows))
    → row_at (drop first (take end rows)) i ≡ row_at rows (first + i)
row_of_part rows first end i within =
    get_or-drop first (take end rows) i []
    ∙ get_or-take end rows (first + i) []
    (let long = length-part rows first end in omega (arith, within, long))

-- the part of rows whose front was given up
pub part_is : {X : Type 0} (now all : List X) (first end : ℕ) → drop first now ≡ drop first all
    → first ≤ end → drop first (take end now) ≡ drop first (take end all)
part_is now all first end same up =
    ap (λ n. drop first (take n now)) split ∙ drop-take first (end - first) now
    ∙ ap (take (end - first)) same
    ∙ sym (ap (λ n. drop first (take n all)) split ∙ drop-take first (end - first) all)
  where
    split : end ≡ first + (end - first)
    split = omega (arith, up)

-- what was printed, with the part behind it
pub part_more : {X : Type 0} (all : List X) (first end : ℕ) → first ≤ end
    → take first all ++ drop first (take end all) ≡ take end all
part_more all first end up =
    ap (λ l. l ++ drop first (take end all)) (sym (take-take first end all up))
    ∙ take-append-drop first (take end all)

-- what is behind a part is behind its beginning
pub behind_part : {X : Type 0} (now all : List X) (first end : ℕ) → drop first now ≡ drop first all
    → first ≤ end → drop end now ≡ drop end all
behind_part now all first end same up =
    ap (λ n. drop n now) split
    ∙ sym (drop-drop (end - first) first now) ∙ ap (drop (end - first)) same
    ∙ drop-drop (end - first) first all ∙ ap (λ n. drop n all) (sym split)
  where
    split : end ≡ first + (end - first)
    split = omega (arith, up)

-- where the last column is left open, no row of a part has a number there
pub may_be_part : (names : List (List ℕ)) (all done : List (List Value)) (d : List ℕ → ℕ)
    (own : Option Heading) (hs : List Heading) (text : List ℕ) (first end : ℕ)
    → Stands names all done d own hs text → NoneIn own (length hs) (drop first (take end all))
may_be_part names all done d None hs text first end is = tt
may_be_part names all done d (Some h) hs text first end is = λ i within.
    ap (is_number_at (length hs)) (row_of_part all first end i within)
    ∙ is.none (first + i)
    (let long = length-part all first end in omega (arith, within, long))
