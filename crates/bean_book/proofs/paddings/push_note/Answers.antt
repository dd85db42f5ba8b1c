use Rattle.std.proofs.Common.{◌≡◌, ◌++◌, ◌∷◌, [], ap, append_assoc, arith}
use Rattle.std.proofs.Common.{neg_ℤ, subst, sym, ◌∙◌}
use Rattle.std.proofs.lemmas.Result.{on_ok_weaker}
use Rattle.posting_table.specs.Ledger.{Ledger}
use Rattle.posting_table.specs.Shaped.{IsShaped}
use Rattle.query_rows.specs.ColumnShape.{widest}
use Rattle.posting_table.proofs.PartFacts.{row_lies}
use Rattle.bean_book.specs.Rows.{padding_entry, padding_row, rows_by}
use Rattle.bean_book.specs.declared.details.Details.{Details}
use Rattle.posting_table.specs.Parts.{HasShortTexts}
use Rattle.posting_entries.specs.declared.entry.EntryParts.{EntryParts}
use Rattle.bean_pad.specs.declared.note.NotedPad.{NotedPad}
use Rattle.bean_replay.specs.Small.{IsSmallNoted}
use Rattle.bean_book.proofs.PaddingFacts.{same, turned, unsigned_abs-neg}
use Rattle.bean_book.proofs.ShapedFacts.{padding_short, padding_small}
use Rattle.bean_book.proofs.paddings.push_note.Goals as goal

-- what the rows of a pad have in common is short
short : (e : EntryParts) (n : NotedPad)
    → (details : Details) × (e ≡ padding_entry details n) → IsSmallNoted n → HasShortTexts e
short e n is small =
    subst HasShortTexts (sym is.1) (padding_short is.0 n small.pad)

pub push-requires-clause-shaped : goal.push-requires-clause-shaped
push-requires-clause-shaped c =
    let e = c.args.entry.now in
    let pad = c.args.noted.now in
    let currency = c.args.note.now.currency in
    let n = c.scaled-count.result in
    let small = c.scaled-count.ensures.bound in
    let is : c.in_ok-row.row ≡ padding_row e pad pad.pad.account currency n =
    c.in_ok-row.ensures
    ∙ ap (padding_row e pad pad.pad.account currency) (same n (omega (arith, small))) in
    subst (IsShaped widest) (sym is)
    (row_lies (padding_row e pad pad.pad.account currency n)
    (padding_small e pad pad.pad.account currency n (short e pad c.requires.entry c.requires.pad)
    c.requires.pad c.requires.pad.pad.account c.requires.note
    small))

pub push-requires-2-clause-shaped : goal.push-requires-2-clause-shaped
push-requires-2-clause-shaped c =
    let e = c.args.entry.now in
    let pad = c.args.noted.now in
    let currency = c.args.note.now.currency in
    let n = c.scaled-count.result in
    let small = c.scaled-count.ensures.bound in
    let turns = unsigned_abs-neg n in
    let is : c.in_ok-row-2.row ≡ padding_row e pad pad.pad.source currency (neg_ℤ n) =
    c.in_ok-row-2.ensures ∙ ap (padding_row e pad pad.pad.source currency) (turned n small) in
    subst (IsShaped widest) (sym is)
    (row_lies (padding_row e pad pad.pad.source currency (neg_ℤ n))
    (padding_small e pad pad.pad.source currency (neg_ℤ n)
    (short e pad c.requires.entry c.requires.pad) c.requires.pad c.requires.pad.pad.source
    c.requires.note (omega (arith, small, turns))))

pub returns-clause-rows : goal.returns-clause-rows
returns-clause-rows c =
    let e = c.args.entry.now in
    let pad = c.args.noted.now in
    let currency = c.args.note.now.currency in
    let n = c.scaled-count.result in
    let small = c.scaled-count.ensures.bound in
    let old = c.args.ledger.now.rows in
    let first : c.in_ok-row.row ≡ padding_row e pad pad.pad.account currency n =
    c.in_ok-row.ensures
    ∙ ap (padding_row e pad pad.pad.account currency) (same n (omega (arith, small))) in
    let second : c.in_ok-row-2.row ≡ padding_row e pad pad.pad.source currency (neg_ℤ n) =
    c.in_ok-row-2.ensures ∙ ap (padding_row e pad pad.pad.source currency) (turned n small) in
    on_ok_weaker c.push-2.result (λ pushed.
    ap (λ (l : Ledger). l.rows) pushed
    ∙ ap (λ (l : Ledger). l.rows ++ c.in_ok-row-2.row ∷ []) c.in_ok-push.ensures.pushed
    ∙ append_assoc old (c.in_ok-row.row ∷ []) (c.in_ok-row-2.row ∷ [])
    ∙ (λ i. old ++ first i ∷ second i ∷ [])
    ∙ ap (λ m. old ++ padding_row e pad pad.pad.account currency m
    ∷ padding_row e pad pad.pad.source currency (neg_ℤ m) ∷ []) c.scaled-count.ensures.value
    ∙ ap (λ o. old ++ rows_by e pad currency o) (sym c.in-Padding.is)) c.push-2.ensures.pushed
