use Rattle.std.proofs.Common.{◌≡◌, All, List, ap, ap₂, drop, length, subst, sym, take, ◌∙◌}
use Rattle.posting_table.specs.Decimals.{decimals_of}
use Rattle.posting_table.specs.Rows.{rows_of}
use Rattle.query_values.specs.declared.value.Value.{Value}
use Rattle.table_printer.specs.Table.{table_text}
use Rattle.query_tables.proofs.TableFacts.{is_table, rows_are_whole}
use Rattle.query_tables.proofs.tables.tabulated.Goals as goal

pub print-requires : goal.print-requires
print-requires c =
    let table = c.of.result in
    let shown : List (List Value) = drop table.first (take table.end table.rows.now) in
    subst (λ names. All (λ row. length row ≡ length names) shown) (sym c.of.ensures.names)
    (subst (All (λ row. length row ≡ length c.args.answer.now.headers)) (sym c.of.ensures.rows)
    (rows_are_whole c.args.program.now.program.parts (rows_of c.args.ledger.now) c.args.answer.now
    c.requires.answered))

pub returns : goal.returns
returns c =
    let program = c.args.program.now in
    let answer = c.args.answer.now in
    is_table program.program.parts program.depth c.args.ledger.now program.program.has_file
    program.is_well_shaped c.requires.within
    (c.fits.ensures.shaped (c.fits.ensures.fits ∙ c.requires.within)) answer
    c.requires.answered c.in_ok-text.text.items
    (c.in_ok-text.ensures
    ∙ ap₂ (λ names rows. table_text names rows (decimals_of c.display.result.now))
    c.of.ensures.names c.of.ensures.rows
    ∙ ap (λ decimals. table_text answer.headers answer.rows (decimals_of decimals))
    c.display.ensures)
