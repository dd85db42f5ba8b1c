use Rattle.std.proofs.Common.{[], refl, sym, ap, ◌∙◌}
use Rattle.posting_table.specs.Decimals.{decimals_of}
use Rattle.cell_texts.specs.Cell.{value_of}
use Rattle.cell_texts.specs.CellText.{cell_text}
use Rattle.cell_texts.specs.Width.{text_width}
use Rattle.cell_texts.proofs.Printable.{width_printable}
use Rattle.cell_texts.proofs.Written.{day_width}
use Rattle.cell_texts.proofs.cells.push_cell.Goals as goal

pub returns-in-Null-clause-width : goal.returns-in-Null-clause-width
returns-in-Null-clause-width c =
    sym (ap (λ cell. text_width (cell_text (decimals_of c.args.display.now) cell))
    (sym c.shown.ensures ∙ ap value_of c.in-Null.is) ∙ width_printable [] refl)

pub returns-in_ok-push-in-Day-clause-width : goal.returns-in_ok-push-in-Day-clause-width
returns-in_ok-push-in-Day-clause-width c =
    sym (ap (λ cell. text_width (cell_text (decimals_of c.args.display.now) cell))
    (sym c.shown.ensures ∙ ap value_of c.in-Day.is) ∙ day_width c.in-Day.day)
