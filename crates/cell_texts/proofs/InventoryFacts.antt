-- Entries that are held without a lot: their texts, one behind the other.
use Rattle.std.proofs.Common.{◌≡◌, ℕ, ◌+◌, ◌<◌, Bool, true, false, cond, nat_lt, List, [], take, ◌++◌}
use Rattle.std.proofs.Common.{length, get_or, Option, Some, None, refl, subst, sym, ap, ◌∙◌}
use Rattle.std.proofs.Common.{true≢false, drop, slice_get, ◌&&◌, ◌∷◌}
use Rattle.std.proofs.Common.{arith}
use Rattle.std.proofs.lemmas.Bool.Decides.{nat_tests}
use Rattle.std.proofs.lemmas.List.{drop_more}
use Rattle.std.proofs.lemmas.Option.{get_or_from_slice_get, slice_get_within}
use Rattle.std.proofs.lemmas.List.Folds.{list_all_at}
use Rattle.std.specs.List.{list_all}
use Rattle.std.specs.Option.{is_none}
use Rattle.bean_lots.specs.declared.lot.Lot.{Lot}
use Rattle.bean_lots.specs.declared.lot.Position.{Position}
use Rattle.number_texts.proofs.PrintableFacts.{Printable, both}
use Rattle.theory.specs.Joined.{gap_before}
use Rattle.theory.proofs.JoinedFacts.{joined_next}
use Rattle.cell_texts.specs.CellText.{between_entries, entries_text, held_text, is_plain}
use Rattle.cell_texts.specs.CellText.{text_of_entry, units_text}

without : (o : Option Lot) → is_none o ≡ true → o ≡ None
without None h = refl
without (Some lot) h = absurd (true≢false (sym h))

-- an entry of such entries is such a one
plain_at : (es : List Position) (i : ℕ) (e : Position) → i < length es → e ≡ get_or es i e
    → list_all is_plain es ≡ true → e.key.lot ≡ None
plain_at es i e within is all = without e.key.lot (told (is_plain e) refl)
  where
    told : (b : Bool) → is_plain e ≡ b → is_plain e ≡ true
    told true h = h
    told false h =
        absurd
        (true≢false (sym all ∙ list_all_at is_plain es i e within (ap is_plain (sym is) ∙ h)))

-- whether all are, told of one and those behind it
pub plain_rest : (es : List Position) (i : ℕ) (e : Position) → slice_get es i ≡ Some e
    → list_all is_plain (drop i es) ≡ (is_plain e && list_all is_plain (drop (i + 1) es))
plain_rest es i e at =
    ap (list_all is_plain)
    (drop_more es i e (slice_get_within es i e at)
    ∙ ap (λ x. x ∷ drop (i + 1) es) (get_or_from_slice_get es i e e at))

-- one entry more
pub next_is : (display : List ℕ → ℕ) (places : ℕ) (es : List Position) (i : ℕ) (e : Position)
    → i < length es → e ≡ get_or es i e → list_all is_plain es ≡ true
    → entries_text display places (take (i + 1) es)
    ≡ entries_text display places (take i es)
    ++ (gap_before between_entries i ++ units_text display e.count places e.key.currency)
next_is display places es i e within is all =
    joined_next between_entries (text_of_entry display places) es i e within is
    ∙ ap (λ o. entries_text display places (take i es)
    ++ (gap_before between_entries i
    ++ held_text display (units_text display e.count places e.key.currency) o))
    (plain_at es i e within is all)

-- something stands behind each but the last
pub gap_next : (i : ℕ) → gap_before between_entries (i + 1) ≡ between_entries
gap_next i =
    let some : nat_lt 0 (i + 1) ≡ true = grind (arith, nat_tests) in
    ap (λ t. cond t between_entries []) some

gap_printable : (b : Bool) → Printable (cond b between_entries [])
gap_printable true = refl
gap_printable false = refl

-- it shows as it is
pub next_printable : (display : List ℕ → ℕ) (places : ℕ) (es : List Position) (i : ℕ) (e : Position)
    → i < length es → e ≡ get_or es i e → list_all is_plain es ≡ true
    → Printable (entries_text display places (take i es))
    → Printable (units_text display e.count places e.key.currency)
    → Printable (entries_text display places (take (i + 1) es))
next_printable display places es i e within is all so_far own =
    let units = units_text display e.count places e.key.currency in
    let gap = gap_before between_entries i in
    subst Printable (sym (next_is display places es i e within is all))
    (both (entries_text display places (take i es)) (gap ++ units) so_far
    (both gap units (gap_printable (nat_lt 0 i)) own))
