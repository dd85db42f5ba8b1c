use Rattle.std.proofs.Common.{◌∙◌}
use Rattle.table_printer.proofs.printer.Printer.into_text.Goals as goal

pub returns : goal.returns
returns c = λ names all is. c.in_ok-text.ensures ∙ c.in_ok-head.ensures names all is
