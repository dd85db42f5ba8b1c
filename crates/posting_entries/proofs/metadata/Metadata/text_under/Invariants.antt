use Rattle.std.proofs.Common.{◌≡◌, drop}
use Rattle.posting_entries.specs.Metadata.{entries_of}
use Rattle.query_rows.specs.Row.{text_under}
use Rattle.posting_entries.proofs.metadata.Metadata.text_under.Given as goal

abbrev pub invariant-loop-item : goal.invariant-loop-item
invariant-loop-item l =
    text_under l.key (entries_of l.self)
    ≡ text_under l.key (entries_of (drop l.item-index l.item-items))
