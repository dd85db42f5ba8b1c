-- Worked metadata and flags.
use Rattle.std.proofs.Common.{◌≡◌, List, [], ◌∷◌, Some, None, refl}
use Rattle.std.specs.Prelude.{codes}
use Rattle.posting_entries.specs.Entry.{entry_spelling}
use Rattle.posting_entries.specs.Metadata.{entries_of}
use Rattle.posting_entries.specs.declared.entry.EntryFlag.TheVariants.{Padding}
use Rattle.posting_entries.specs.declared.metadata.MetaItem.{MetaItem}
use Rattle.query_rows.specs.Row.{text_or_null, text_under}
use Rattle.query_values.specs.declared.value.Value.TheVariants.{Null}

-- ---- metadata

abbrev items : List MetaItem
items =
    record { key = codes "receipt"; text = Some (codes "A-17") }
    ∷ record { key = codes "paid"; text = None }
    ∷ record { key = codes "receipt"; text = Some (codes "B") }
    ∷ record { key = codes "paid"; text = Some (codes "cash") } ∷ []

the_first_of_a_key : text_under (codes "receipt") (entries_of items) ≡ Some (codes "A-17")
the_first_of_a_key = refl

-- it hides a later one
nothing_behind_a_key : text_under (codes "paid") (entries_of items) ≡ None
nothing_behind_a_key = refl

-- keys are the same in the same letters alone
another_key : text_under (codes "Receipt") (entries_of items) ≡ None
another_key = refl

-- ---- transactions

padding : entry_spelling Padding ≡ codes "P"
padding = refl

no_payee : text_or_null None ≡ Null
no_payee = refl
