use Rattle.std.proofs.Common.{◌++◌, cond, replicate, ap, ◌∙◌, false}
use Rattle.posting_table.specs.Decimals.{decimals_of}
use Rattle.cell_texts.specs.CellText.{cell_text}
use Rattle.cell_texts.specs.Width.{filled, text_width}
use Rattle.cell_texts.proofs.cells.push_left.Goals as goal

pub returns-then-branch : goal.returns-then-branch
returns-then-branch c =
    let display = decimals_of c.args.display.now in
    let out = c.args.out.now.items in
    let text = cell_text display c.args.cell.now in
    c.in_ok-push_text_or_day.ensures.added display
    ∙ ap (λ b. cond b ((out ++ filled false c.args.width (text_width text) text)
    ++ replicate c.args.behind 32) out) c.if-branch.true
