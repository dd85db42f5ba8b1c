use Rattle.std.proofs.Common.{arith, length, length-append, ap}
use Rattle.posting_table.specs.Decimals.{decimals_of}
use Rattle.cell_texts.specs.CellText.{entries_text}
use Rattle.cell_texts.proofs.Printable.{width_printable}
use Rattle.cell_texts.proofs.inventories.push_entries.Goals as goal

pub returns-then-are_plain-clause-width : goal.returns-then-are_plain-clause-width
returns-then-are_plain-clause-width c =
    let text = entries_text (decimals_of c.args.display.now) c.args.places c.args.entries.now in
    let sized = ap length c.in_ok-push_plain.ensures.text in
    let apart = length-append c.args.out.now.items text in
    let wide = width_printable text c.in_ok-push_plain.ensures.printable in
    omega (arith, c.len.ensures, c.len-start.ensures, sized, apart, wide)
