use Rattle.std.proofs.Common.{ap, arith, refl, sym, ◌∙◌}
use Rattle.std.proofs.lemmas.Option.{slice_get_read}
use Rattle.posting_table.specs.Plain as plain
use Rattle.bean_book.proofs.PaddingFacts.{same}
use Rattle.bean_book.proofs.PlainFacts.{plain_is}
use Rattle.bean_book.specs.Rows.{items_in, row_by}
use Rattle.bean_book.proofs.rows.plain_row.Goals as goal

pub returns : goal.returns
returns c =
    let entry = c.args.entry.now in
    let posted = c.args.posted.now in
    let written = c.in-Some.written.now in
    let at = c.in-Some.ensures.lookup in
    let small = c.scaled.ensures.bound in
    let count = same c.scaled.result (omega (arith, small)) ∙ c.scaled.ensures.value in
    λ details line. (λ i. plain.row_of (record {
      entry = c.in_ok-share.ensures i;
      account = c.lend.ensures i;
      currency = c.lend-2.ensures i;
      count = count i;
      line = c.line.ensures i;
    }))
    ∙ plain_is details entry line written posted (c.is_plain.ensures c.if-not-is_plain.false)
    ∙ ap (λ w. row_by entry line (items_in details w) w posted)
    (sym (slice_get_read c.args.postings.now _ posted.written written refl at.3.0 at.1))
