use Rattle.bean_directives.proofs.UndatedFacts.{reads_push_entry, none_push_entry}
use Rattle.bean_directives.proofs.undated.push_entry.Goals as goal

pub returns-in_err-entry : goal.returns-in_err-entry
returns-in_err-entry c = rw c.from_residual.ensures (none_push_entry _ c.in_err-entry.ensures.read)

pub returns : goal.returns
returns c = rw c.push_entry_of.ensures (reads_push_entry _ _ _ c.in_ok-entry.ensures.read)
