use Rattle.std.proofs.Common.{length, ap, ◌∙◌}
use Rattle.cell_texts.proofs.Printable.{truth_is_wide}
use Rattle.cell_texts.proofs.cells.truth_width.Goals as goal

pub returns : goal.returns
returns c = ap length c.truth_text.ensures ∙ truth_is_wide c.args.truth
