use Rattle.std.proofs.Common.{◌<◌, ◌++◌, List, ℕ, length, map, sym, ap, ◌∙◌, arith, append_assoc}
use Rattle.std.specs.List.{flat_map}
use Rattle.std.proofs.lemmas.List.{take_all}
use Rattle.posting_table.specs.Decimals.{decimals_of}
use Rattle.pieces.specs.Pieces.{pieced}
use Rattle.pieces.proofs.PieceFacts.{at_end}
use Rattle.table_printer.specs.Growing.{grown}
use Rattle.table_printer.specs.Heading.{width_of}
use Rattle.table_printer.specs.Table.{text_of, line_of, row_at}
use Rattle.table_printer.proofs.TableFacts.{lines_more}
use Rattle.table_printer.proofs.InColumn.{row_texts, row_is}
use Rattle.table_printer.proofs.table.push_rows.Goals as goal

pub loop-number-preserved : goal.loop-number-preserved
loop-number-preserved g c =
    let places = decimals_of c.args.display.now in
    let ws : List ℕ = map width_of c.args.headings.now in
    let rows = g.T.Rows.rows c.args.table.now in
    let i = c.loop-number.number in
    let within : i < length rows = omega (arith, c.loop-number-test.true, c.len-number-end.ensures) in
    let room = c.make_room.new.self in
    ap (pieced room.full.items) c.in_ok-push_line.ensures
    ∙ at_end room.full.items room.last.items _
    ∙ (λ k. (c.in_ok-make_room.ensures ∙ c.loop-number.invariant) k ++ line_of ws
    ((row_texts places (g.T.Rows.values c.row-row.result)
    ∙ ap (map (text_of places)) c.row-row.ensures) k))
    ∙ append_assoc (grown c.args.out.now) _ _
    ∙ ap (λ l. grown c.args.out.now ++ l)
    (sym (lines_more (line_of ws) (map (text_of places)) rows i (row_at rows i) within
    (row_is rows i within)))

pub returns : goal.returns
returns g c =
    c.loop-number.invariant
    ∙ ap (λ rows. grown c.args.out.now
    ++ flat_map (line_of (map width_of c.args.headings.now))
    (map (map (text_of (decimals_of c.args.display.now))) rows))
    (take_all c.loop-number.number (g.T.Rows.rows c.args.table.now)
    (omega (arith, c.loop-number-test.false, c.len-number-end.ensures)))
