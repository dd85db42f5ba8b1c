use Rattle.std.proofs.Common.{◌+◌, ap, arith, get_or, length, length-append, sym, take, ◌∙◌}
use Rattle.std.specs.List.{flat_map}
use Rattle.bean_book.specs.Rows.{padding_entry, rows_of_note}
use Rattle.bean_book.specs.declared.details.Details.TheVariants.{All}
use Rattle.bean_book.proofs.ListFacts.{flat_map_more, length-flat_map-take}
use Rattle.bean_book.proofs.counts.count_pad.Goals as goal

pub returns-in-Err-clause-full : goal.returns-in-Err-clause-full
returns-in-Err-clause-full c = λ refused.
    let common = padding_entry All c.args.noted.now in
    let rows = rows_of_note common c.args.noted.now in
    let notes = c.as_slice-note-items.result.now in
    let are = c.as_slice-note-items.ensures in
    let i = c.loop-note.note-index in
    let item = c.note-item.result in
    let full = c.in-Err.ensures.full refused in
    let before =
    c.loop-note.invariant.sum
    ∙ ap (λ l. c.args.count + length (flat_map rows (take i l))) (sym are) in
    let next =
    ap length (flat_map_more rows notes i item (omega arith))
    ∙ length-append (flat_map rows (take i notes)) (rows (get_or notes i item)) in
    let own = c.rows_in.ensures common c.args.noted.now item.currency in
    let same = ap (λ n. length (rows n)) c.note-item.is in
    let whole = ap (λ l. length (flat_map rows l)) are in
    omega (arith, full, before, next, own, same, whole, length-flat_map-take rows notes (i + 1))
