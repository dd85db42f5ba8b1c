use Rattle.std.proofs.Common.{◌+◌, ◌++◌, ap, arith, get_or, length, length-append, sym, take, ◌∙◌}
use Rattle.std.specs.List.{flat_map}
use Rattle.bean_book.specs.Rows.{rows_of_note}
use Rattle.bean_book.proofs.ListFacts.{flat_map_more, length-flat_map-take}
use Rattle.bean_book.proofs.paddings.push_pad.Goals as goal

pub push_note-requires-clause-room : goal.push_note-requires-clause-room
push_note-requires-clause-room c =
    let noted = c.args.noted.now in
    let rows = rows_of_note c.in_ok-entry.entry noted in
    let old = c.args.ledger.now.rows in
    let notes = c.as_slice-note-items.result.now in
    let are = c.as_slice-note-items.ensures in
    let i = c.loop-note.note-index in
    let item = c.note-item.result in
    let room = c.requires.room in
    let common =
    ap (λ e. length (flat_map (rows_of_note e noted) noted.notes)) c.in_ok-entry.ensures in
    let before =
    ap length c.loop-note.invariant.rows
    ∙ ap (λ l. length (old ++ flat_map rows (take i l))) (sym are)
    ∙ length-append old (flat_map rows (take i notes)) in
    let next =
    ap length (flat_map_more rows notes i item (omega arith))
    ∙ length-append (flat_map rows (take i notes)) (rows (get_or notes i item)) in
    let same = ap (λ n. length (rows n)) c.note-item.is in
    let whole = ap (λ l. length (flat_map rows l)) are in
    omega (arith, room, common, before, next, same, whole, length-flat_map-take rows notes (i + 1))
