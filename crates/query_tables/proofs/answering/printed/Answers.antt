use Rattle.std.proofs.Common.{ap, ◌∙◌}
use Rattle.posting_table.specs.Decimals.{decimals_of}
use Rattle.posting_table.specs.Rows.{rows_of}
use Rattle.table_printer.specs.Table.{table_text}
use Rattle.query_tables.proofs.TableFacts.{is_table, rows_are_whole}
use Rattle.query_tables.proofs.answering.printed.Goals as goal

pub print_and_give_up-requires : goal.print_and_give_up-requires
print_and_give_up-requires c =
    rows_are_whole c.args.program.now.program.parts (rows_of c.args.ledger.now) c.args.answer
    c.requires.answered

pub returns : goal.returns
returns c =
    let program = c.args.program.now in
    let answer = c.args.answer in
    is_table program.program.parts program.depth c.args.ledger.now program.program.has_file
    program.is_well_shaped c.requires.within
    (c.fits.ensures.shaped (c.fits.ensures.fits ∙ c.requires.within)) answer
    c.requires.answered c.in_ok-text.text
    (c.in_ok-text.ensures
    ∙ ap (λ decimals. table_text answer.headers answer.rows (decimals_of decimals))
    c.display.ensures)
