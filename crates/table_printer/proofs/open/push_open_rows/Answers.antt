use Rattle.std.proofs.Common.{◌<◌, ◌++◌, ◌∷◌, [], List, ℕ, fold, length, map, max, sym, ap, ◌∙◌}
use Rattle.std.proofs.Common.{arith, append_assoc}
use Rattle.std.specs.List.{flat_map}
use Rattle.std.proofs.lemmas.List.{take_all}
use Rattle.posting_table.specs.Decimals.{decimals_of}
use Rattle.pieces.specs.Pieces.{pieced}
use Rattle.pieces.proofs.PieceFacts.{at_end}
use Rattle.table_printer.specs.Growing.{grown}
use Rattle.table_printer.specs.Heading.{width_of}
use Rattle.table_printer.specs.Table.{is_number_at, line_of, row_at, text_of, width_at}
use Rattle.table_printer.proofs.TableFacts.{lines_more}
use Rattle.table_printer.proofs.InColumn.{row_is}
use Rattle.table_printer.proofs.OpenFacts.{most_more}
use Rattle.table_printer.proofs.open.push_open_rows.Goals as goal

pub push_open_line-requires : goal.push_open_line-requires
push_open_line-requires g c =
    let rows = g.T.Rows.rows c.args.table.now in
    let i = c.loop-number.number in
    let within : i < length rows = omega (arith, c.loop-number-test.true, c.len-number-end.ensures) in
    record {
      many = ap length c.row-row.ensures ∙ c.requires.even i [] within;
      front = omega (arith, c.min-front.ensures);
      kept = c.loop-number.invariant.kept;
      left = ap (is_number_at (length c.args.headings.now)) c.row-row.ensures
          ∙ c.requires.left i within;
    }

pub loop-number-preserved : goal.loop-number-preserved
loop-number-preserved g c =
    let d = decimals_of c.args.display.now in
    let rows = g.T.Rows.rows c.args.table.now in
    let n = length c.args.headings.now in
    let room = c.make_room.new.self in
    let i = c.loop-number.number in
    let within : i < length rows = omega (arith, c.loop-number-test.true, c.len-number-end.ensures) in
    record {
      lines = λ w.
          let line : List _ → List ℕ = line_of (map width_of c.args.headings.now ++ w ∷ []) in
          ap (pieced room.full.items) (c.in_ok-own.ensures.line w)
          ∙ at_end room.full.items room.last.items _
          ∙ (λ k. (c.in_ok-make_room.ensures ∙ c.loop-number.invariant.lines w) k
          ++ line (ap (map (text_of d)) c.row-row.ensures k))
          ∙ append_assoc (grown c.args.out.now) _ _
          ∙ ap (λ l. grown c.args.out.now ++ l)
          (sym (lines_more line (map (text_of d)) rows i (row_at rows i) within
          (row_is rows i within)));
      most = c.max-most.ensures
          ∙ (λ k. max (c.loop-number.invariant.most k)
          ((c.in_ok-own.ensures.own
          ∙ ap (λ r. width_at n (map (text_of d) r)) c.row-row.ensures) k))
          ∙ most_more d n c.args.least rows i within;
      kept = c.in_ok-own.ensures.kept;
    }

pub returns-clause-lines : goal.returns-clause-lines
returns-clause-lines g c = λ w.
    c.loop-number.invariant.lines w
    ∙ ap (λ rows. grown c.args.out.now
    ++ flat_map (line_of (map width_of c.args.headings.now ++ w ∷ []))
    (map (map (text_of (decimals_of c.args.display.now))) rows))
    (take_all c.loop-number.number (g.T.Rows.rows c.args.table.now)
    (omega (arith, c.loop-number-test.false, c.len-number-end.ensures)))

pub returns-clause-most : goal.returns-clause-most
returns-clause-most g c =
    c.loop-number.invariant.most
    ∙ ap (λ rows. fold max c.args.least (map (width_at (length c.args.headings.now))
    (map (map (text_of (decimals_of c.args.display.now))) rows)))
    (take_all c.loop-number.number (g.T.Rows.rows c.args.table.now)
    (omega (arith, c.loop-number-test.false, c.len-number-end.ensures)))
