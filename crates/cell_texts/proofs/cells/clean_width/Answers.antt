use Rattle.std.proofs.Common.{sym, ◌∙◌}
use Rattle.cell_texts.proofs.Printable.{clean_width_printable}
use Rattle.cell_texts.proofs.cells.clean_width.Goals as goal

pub returns-then-is_plain : goal.returns-then-is_plain
returns-then-is_plain c =
    sym (clean_width_printable c.args.text.now
    (sym c.is_plain.ensures ∙ c.if-is_plain.true))
