use Rattle.std.proofs.Common.{ap, slice_get, subst, sym, ◌∙◌}
use Rattle.posting_table.specs.Shaped.{IsShaped}
use Rattle.query_rows.specs.ColumnShape.{widest}
use Rattle.bean_book.specs.Rows.{row_by}
use Rattle.bean_book.proofs.rows.push_full.Goals as goal

pub push-requires-clause-shaped : goal.push-requires-clause-shaped
push-requires-clause-shaped c =
    let e = c.args.entry.now in
    let p = c.args.posted.now in
    let w = slice_get c.args.postings.now p.written in
    subst (IsShaped widest)
    (sym (c.in_ok-row.ensures
    ∙ ap (λ items. row_by e c.args.line items w p) c.in_ok-metadata.ensures)) c.requires.shaped
