-- Metadata, as queries see it.
use Rattle.std.specs.Prelude.{List, map}
use Rattle.query_rows.specs.Row.{MetaText}
use Rattle.posting_entries.specs.declared.metadata.MetaItem.{MetaItem}

abbrev pub entry_of : MetaItem → MetaText
entry_of m = record { key = m.key; text = m.text }

abbrev pub entries_of : List MetaItem → List MetaText
entries_of items = map entry_of items
