use Rattle.std.proofs.Common.{[], refl, sym, ap, ◌∙◌}
use Rattle.posting_table.specs.Decimals.{decimals_of}
use Rattle.cell_texts.specs.Cell.{value_of}
use Rattle.cell_texts.specs.CellText.{cell_text}
use Rattle.cell_texts.specs.Width.{text_width}
use Rattle.cell_texts.proofs.Printable.{width_printable}
use Rattle.cell_texts.proofs.Written.{day_width}
use Rattle.cell_texts.proofs.cells.cell_width.Goals as goal

pub returns-in-Null : goal.returns-in-Null
returns-in-Null c =
    sym (ap (λ cell. text_width (cell_text (decimals_of c.args.display.now) cell))
    (sym c.shown.ensures ∙ ap value_of c.in-Null.is) ∙ width_printable [] refl)

pub returns-in-Day : goal.returns-in-Day
returns-in-Day c =
    sym (ap (λ cell. text_width (cell_text (decimals_of c.args.display.now) cell))
    (sym c.shown.ensures ∙ ap value_of c.in-Day.is) ∙ day_width c.in-Day.field-0)
