use Rattle.bean_parser.proofs.LineFacts.{no_entry_line, more_than_entry}
use Rattle.bean_parser.proofs.under.entry_line.Goals as goal

pub returns-in_err-entry : goal.returns-in_err-entry
returns-in_err-entry c = rw c.from_residual.ensures (no_entry_line _ c.in_err-entry.ensures.read)

pub returns-in-Some : goal.returns-in-Some
returns-in-Some c = more_than_entry _ _ _ _ _ c.in_ok-entry.ensures.read c.in-Some.ensures.front
