use Rattle.std.proofs.Common.{length, ap, ◌∙◌}
use Rattle.cell_texts.proofs.Printable.{truth_is_wide}
use Rattle.cell_texts.proofs.cells.push_truth.Goals as goal

pub returns-clause-width : goal.returns-clause-width
returns-clause-width c = ap length c.truth_text-text.ensures ∙ truth_is_wide c.args.truth
